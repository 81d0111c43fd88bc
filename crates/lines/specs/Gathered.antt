-- A line that is gathered from pieces of the input.
use Rattle.std.specs.Prelude.{List, ◌++◌, ◌≡◌, ℕ, ◌+◌, ◌-◌, min, length, take, drop}

-- of a line of which `held` bytes are there already, so many as there is room for
abbrev pub held_after : (held more room : ℕ) → ℕ
held_after held more room = min (held + more) room

-- the piece behind the first `held` bytes, as much of it as there is room for
pub record Appends (before : List ℕ) (held : ℕ) (piece after : List ℕ) (next : ℕ) : Type 0 where
  pub long : next ≡ held_after held (length piece) (length before)
  pub is : after ≡ take held before ++ (take (next - held) piece ++ drop next before)

-- The lines of a file, cut one by one.
use Rattle.std.specs.Prelude.{ℕ, ◌≤◌, ◌<◌, ◌≡◌, List, ◌∷◌, true, length, drop, eqb}
use Rattle.lists.specs.Tests.{find}
use Rattle.ctfile.specs.Lines as rules
use Rattle.ctfile.specs.Lines.{line_bytes, lines_from}
use Rattle.molfile.specs.declared.line.Line.{Line}

-- "A line ends with LF": where the first one stands
abbrev pub line_feed : List ℕ → ℕ
line_feed l = find (λ b. eqb b 10) l

-- "Offsets count every byte": the lines from an offset on, at which one begins
abbrev pub lines_at : List ℕ → ℕ → List rules.Line
lines_at s at = lines_from (drop at s) true at

abbrev pub line_of : List ℕ → ℕ → rules.Line
line_of s at = record { offset = at; bytes = line_bytes (drop at s) }

-- a line's bytes without its end, and the offset at which the next begins
pub record IsLine (s : List ℕ) (at : ℕ) (r : Line) : Type 0 where
  pub ahead : at < r.next
  pub within : r.next ≤ length s
  pub bytes : r.bytes.now ≡ line_bytes (drop at s)
  pub lines : lines_at s at ≡ line_of s at ∷ lines_at s r.next

-- What a name has room for.
use Rattle.std.specs.Prelude.{List, ℕ, ◌+◌, ◌≤◌, length}

-- "2,048 bytes hold any name": xs fits behind the bytes that are written
abbrev pub Room : (name xs : List ℕ) → Type 0
Room name xs = length name + length xs ≤ 2048

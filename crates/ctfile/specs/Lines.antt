-- Document 02, §1: the lines of a file.
use Rattle.std.specs.Prelude.{Bool, true, false, cond, ◌&&◌, ◌||◌, List, [], ◌∷◌, ℕ, suc, eqb}

-- the bytes of a line, and the offset of its first: "Offsets count every byte"
pub record Line : Type 0 where
  pub offset : ℕ
  pub bytes : List ℕ

abbrev pub starts_with : ℕ → List ℕ → Bool
starts_with b [] = false
starts_with b (c ∷ cs) = eqb c b

-- "A line ends with LF; one CR directly before it belongs to the line's end. [..] A lone CR is an ordinary byte."
unfoldable pub line_bytes : List ℕ → List ℕ
line_bytes [] = []
line_bytes (b ∷ bs) =
    let more = b ∷ line_bytes bs in
    cond (eqb b 10 || eqb b 13 && starts_with 10 bs) [] more

-- The lines of a file from an offset on, where a line begins or not. "The last line needs no LF."
unfoldable pub lines_from : List ℕ → Bool → ℕ → List Line
lines_from [] begins o = []
lines_from (b ∷ bs) true o = record { offset = o; bytes = line_bytes (b ∷ bs) } ∷ lines_from bs (eqb b 10) (suc o)
lines_from (b ∷ bs) false o = lines_from bs (eqb b 10) (suc o)

unfoldable pub lines_of : List ℕ → List Line
lines_of s = lines_from s true 0

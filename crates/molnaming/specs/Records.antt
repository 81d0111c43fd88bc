-- The records of an SDF file, "several records parted by `$$$$` lines".
use Rattle.std.specs.Prelude.{Bool, cond, not, ◌||◌, List, [], ◌∷◌, ◌++◌, ℕ, eqb, leb, length, take}
use Rattle.std.specs.List.{list_all}
use Rattle.lists.specs.Quoted as quoted
use Rattle.lines.specs.Fields.{same_bytes}

-- "parted by `$$$$` lines": a line that begins so
unfoldable pub is_parting : (line : List ℕ) → Bool
is_parting line = same_bytes (take 4 line) (quoted.bytes_of "$$$$")

-- a space, a tab, a carriage return or a newline
unfoldable pub is_blank : ℕ → Bool
is_blank b = eqb b 32 || (eqb b 9 || (eqb b 13 || eqb b 10))

abbrev pub all_blank : List ℕ → Bool
all_blank l = list_all is_blank l

-- what follows the last parting line, where it is too long for a molfile or some line of it is not blank
unfoldable pub is_record : (rest : List ℕ) → Bool
is_record rest = leb 65537 (length rest) || not (all_blank rest)

-- the bytes of a record up to the end of a line, with the newline that ended it; of more than a molfile may have, one byte more
unfoldable pub with_line : (buffer : List ℕ) (end : ℕ) (ended : Bool) → List ℕ
with_line buffer end ended = take 65537 (take end buffer ++ cond ended (10 ∷ []) [])

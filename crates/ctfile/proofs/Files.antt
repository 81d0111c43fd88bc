-- A file written line by line, for the examples.
use mathlib.Core.List.{List, [], ◌∷◌, ◌++◌, map, flatten}
use Prim.Native.Nat.{ℕ}
use Prim.Native.String.{String}
use lib.ListN.{length, take}
use Rattle.lists.specs.Quoted.{bytes_of}
use Rattle.rules.specs.Answers.{Answer, refused}
use Rattle.ctfile.specs.Molfiles.{name_of_molfile}
use Rattle.ctfile.proofs.Open.{ctfile}

-- the bytes of lines, each with its end
unfoldable pub ended_by : List ℕ → List String → List ℕ
ended_by end lines = flatten (map (λ l. bytes_of l ++ end) lines)

unfoldable pub file_of : List String → List ℕ
file_of = ended_by (10 ∷ [])

-- the answer where neither the allowance nor the room is short
unfoldable pub answer : List String → Answer
answer lines = name_of_molfile (file_of lines) 65535 2048

-- 11 at the line that so many lines precede, or at the file's length where there is no such line
unfoldable pub broken_after : ℕ → List String → Answer
broken_after k lines = refused 11 (length (file_of (take k lines)))

unfoldable pub files : Unit {0}
unfolding ctfile ended_by file_of answer broken_after
files = tt

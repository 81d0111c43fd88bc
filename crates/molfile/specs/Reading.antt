-- What reading a file gives: a refusal with its place, or a table whose view is the molecule that the drawing folds to.
use Rattle.std.specs.Prelude.{cond, List, Result, IfOk, ◌≡◌, ℕ, ltb, length}
use Rattle.molecule.specs.Renumbering.{Renumbered}
use Rattle.refusal.specs.declared.Refused.{Refused}
use Rattle.refusal.specs.Numbers.{refused_in, place_in}
use Rattle.table.specs.declared.Table.{Table}
use Rattle.table.specs.View.{view_of, TidyTable}
use Rattle.ctfile.specs.Filed.{Verdict, sound, broken, verdict, drawing_of}
use Rattle.ctfile.specs.Drawings.{folded, drawing_fault}
use Rattle.ctfile.specs.Molfiles.{most_file}

abbrev pub refusal_by : Verdict → ℕ → ℕ
refusal_by sound n = n
refusal_by (broken p) n = 11

abbrev pub place_by : Verdict → ℕ
place_by sound = 0
place_by (broken p) = p

-- "4 before all else", then 11, then the order of the drawing's faults
unfoldable pub file_fault : List ℕ → ℕ
file_fault s = cond (ltb most_file (length s)) 4 (refusal_by (verdict s) (drawing_fault (drawing_of s)))

unfoldable pub fault_place : List ℕ → ℕ
fault_place s = cond (ltb most_file (length s)) 0 (place_by (verdict s))

pub record IsRead (s : List ℕ) (r : Result Table Refused) : Type 0 where
  pub refusal : refused_in r ≡ file_fault s
  pub place : place_in r ≡ fault_place s
  pub tidy : IfOk r TidyTable
  pub view : IfOk r (λ t. Renumbered (λ a. a) (folded (drawing_of s)) (view_of t))

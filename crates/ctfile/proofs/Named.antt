-- What a file that none of 11 and 1 to 8 refuses is answered: as the molecule that it folds to.
use mathlib.Core.List.{List}
use mathlib.Core.Path.{◌≡◌}
use Prim.Native.Nat.{ℕ}
use borrow.Author.Tests.{le-ltb}
use lib.ListN.{length}
use Rattle.rules.specs.Answers.{numbered, name_out}
use Rattle.rules.proofs.Answered.{judged-answered}
use Rattle.ctfile.specs.Filed.{drawing_of}
use Rattle.ctfile.specs.Drawings.{folded, drawing_fault}
use Rattle.ctfile.specs.Molfiles.{most_file, name_of_drawing, name_of_molfile}
use Rattle.ctfile.specs.Promises.{WellFormedFile}

pub file_named : (file : List ℕ) → WellFormedFile file → (allowance room : ℕ)
    → name_of_molfile file allowance room ≡ numbered name_out allowance room (folded (drawing_of file))
unfolding name_of_molfile name_of_drawing numbered
file_named file w allowance room =
    rw (le-ltb most_file (length file) w.short, w.lines)
    (judged-answered name_out allowance room (drawing_fault (drawing_of file)) (folded (drawing_of file)) w.drawing)

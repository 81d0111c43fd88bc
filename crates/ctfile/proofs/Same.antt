-- Same: "Renumbering the file's atoms must not change the name". Two drawings that are renumberings fold to molecules that are, and of these the leaf
-- count and the name are one.
use mathlib.Core.List.{List}
use mathlib.Core.Path.{sym, ◌∙◌, subst}
use Prim.Native.Nat.{ℕ}
use lib.ListN.{length}
use Rattle.rules.specs.Allowed.{Allowed}
use Rattle.rules.proofs.Same.{named-same}
use Rattle.rules.proofs.Settled.{settled}
use Rattle.ctfile.specs.Filed.{drawing_of}
use Rattle.ctfile.specs.Promises.{WellFormedFile, AlwaysSame, AlwaysSameLines, SameRuns}
use Rattle.ctfile.proofs.Clean.{Clean}
use Rattle.ctfile.proofs.Checked.{clean}
use Rattle.ctfile.proofs.FoldedSound.{folded-sound}
use Rattle.ctfile.proofs.Folding.{folded-renumbered}
use Rattle.ctfile.proofs.Redrawing.{redrawn_renumbered}
use Rattle.ctfile.proofs.Named.{file_named}

file_clean : (file : List ℕ) → WellFormedFile file → Clean (drawing_of file)
file_clean file w = clean (drawing_of file) w.drawing

pub same : AlwaysSame
same σ file file' w w' E allowance room =
    file_named file' w' allowance room
    ∙ named-same (folded-renumbered (drawing_of file) (drawing_of file') E (file_clean file w) (file_clean file' w'))
    (folded-sound (drawing_of file) w.drawing).some allowance room
    ∙ sym (file_named file w allowance room)

pub same_runs : SameRuns
same_runs σ file file' w w' E allowance lent r r' p p' =
    settled _ lent r r' p (subst (λ a. Allowed a lent r') (same σ file file' w w' E allowance (length lent)) p')

pub same_lines : AlwaysSameLines
same_lines σ file file' w w' R =
    same σ file file' w w' (redrawn_renumbered σ (drawing_of file) (drawing_of file') R (file_clean file w) (file_clean file' w'))

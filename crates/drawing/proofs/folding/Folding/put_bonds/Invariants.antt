-- The bonds passed are in the table or counted, and the faults still to come are those of the whole.
use Rattle.drawing.specs.View.{drawing_in}
use Rattle.drawing.proofs.FoldLaws.{FoldingTo}
use Rattle.drawing.proofs.folding.Folding.put_bonds.Given as goal

abbrev pub invariant-loop-bond : goal.invariant-loop-bond
invariant-loop-bond l = FoldingTo (drawing_in l.drawing) l.self l.bond-index

-- The atoms passed that are no H are in the table, in their order, and no symbol passed is unknown.
use Rattle.drawing.specs.View.{kinds_in}
use Rattle.drawing.proofs.Bared.{AtomsTo}
use Rattle.drawing.proofs.folding.Folding.put_atoms.Given as goal

abbrev pub invariant-loop-p : goal.invariant-loop-p
invariant-loop-p l = AtomsTo (kinds_in l.drawing) l.p l.self

-- The atoms before this one are in the table, with their total, and the faults still to come are those of the whole.
use Rattle.card.proofs.Filling.{Filling}
use Rattle.card.proofs.atoms.read_atoms.Given as goal

abbrev pub invariant-loop-a : goal.invariant-loop-a
invariant-loop-a l = Filling l.card l.a l.table l.total

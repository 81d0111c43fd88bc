-- The bonds before this one are in the table, and the faults still to come are those of the whole.
use Rattle.card.proofs.Bonding.{Bonding}
use Rattle.card.proofs.bonds.read_bonds.Given as goal

abbrev pub invariant-loop-k : goal.invariant-loop-k
invariant-loop-k l = Bonding l.card l.table l.k

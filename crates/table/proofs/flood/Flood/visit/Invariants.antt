-- What is still to be seen of the row, seen from here on, comes to what the whole row comes to.
use mathlib.Core.Path.{◌≡◌}
use lib.ListN.{drop}
use Rattle.table.specs.Flood.{Counted, see_all}
use Rattle.table.proofs.flood.Flood.visit.Given as goal

abbrev pub invariant-loop-b : goal.invariant-loop-b
invariant-loop-b l = Counted l.self × (see_all l.self (drop l.b-index l.b-items) ≡ see_all l.initial.self l.b-items)

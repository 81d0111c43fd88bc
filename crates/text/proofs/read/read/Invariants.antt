-- What is left of the text, read on from the state held, comes to what the whole text comes to from the start.
use Prim.Native.Nat.{◌-◌}
use mathlib.Core.Path.{◌≡◌}
use lib.ListN.{length, drop}
use Rattle.sling.specs.Scanned.{tokens}
use Rattle.sling.specs.Reading as rules
use Rattle.sling.specs.Faults.{run}
use Rattle.text.specs.Holding.{view_of, Held}
use Rattle.text.proofs.read.read.Given as goal

abbrev pub invariant-loop-at : goal.invariant-loop-at
invariant-loop-at l = Held l.state × (run (tokens (drop l.at l.text) 0 l.at) (view_of l.state) ≡ run (tokens l.text 0 0) rules.start)

abbrev pub decreases-loop-at : goal.decreases-loop-at
decreases-loop-at l = length l.text - l.at

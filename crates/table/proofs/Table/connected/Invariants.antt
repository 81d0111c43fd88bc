-- The queue holds the atoms seen and all before the head have their neighbours in it: at its end it is what is reached from atom 0.
use Prim.Native.Nat.{◌-◌}
use Rattle.table.specs.View.{arrays_of}
use Rattle.table.proofs.Flooding.{Going}
use Rattle.table.proofs.Table.connected.Given as goal

abbrev pub invariant-loop-head : goal.invariant-loop-head
invariant-loop-head l = Going (arrays_of l.self) l.flood l.head

abbrev pub decreases-loop-head : goal.decreases-loop-head
decreases-loop-head l = 64 - l.head

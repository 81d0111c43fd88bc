-- An atom not yet seen leaves room in the queue, since no more are in it than are seen.
use native.Mathlib.Omega.{arith}
use Rattle.table.specs.Flood.{see}
use Rattle.table.proofs.FloodLaws.{counted-room}
use Rattle.table.proofs.flood.Flood.see.Goals as goal

pub bounds-self-self : goal.bounds-self-self
bounds-self-self c = counted-room _ c.args.b.0 c.requires.0 c.requires.1 c.if-not-self-i.true

pub overflow_add-self : goal.overflow_add-self
overflow_add-self c = omega (arith, counted-room _ c.args.b.0 c.requires.0 c.requires.1 c.if-not-self-i.true)

pub returns-then-not-self-i : goal.returns-then-not-self-i
unfolding see
returns-then-not-self-i c = rw c.if-not-self-i.true

pub returns-else-not-self-i : goal.returns-else-not-self-i
unfolding see
returns-else-not-self-i c = rw c.if-not-self-i.false

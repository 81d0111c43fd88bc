-- The queue holds the atoms seen and all before the head have their neighbours in it: at its end it is what is reached from atom 0.
use mathlib.Core.Path.{sym, subst}
use Prim.Native.Nat.{◌+◌, ◌≤◌}
use native.Mathlib.Omega.{arith}
use Rattle.table.specs.Arrays.{as_molecule}
use Rattle.table.specs.View.{arrays_of}
use Rattle.table.specs.declared.flood.Flood.{Flood}
use Rattle.table.proofs.Flooding.{Going, flood_low, flood_row, flood_start, flood_step, flood_end}
use Rattle.table.proofs.Table.connected.Goals.{At-loop-head}
use Rattle.table.proofs.Table.connected.Goals as goal

low : (c : At-loop-head) → c.loop-head.flood.end ≤ 64
low c = flood_low (arrays_of c.args.self.now) c.requires.0 c.loop-head.flood c.loop-head.invariant.1

pub loop-head-init : goal.loop-head-init
loop-head-init c = subst (λ (f : Flood). Going (arrays_of c.args.self.now) f 0) (sym c.start-flood.ensures) (flood_start (arrays_of c.args.self.now) c.requires.2)

pub bounds-flood-head : goal.bounds-flood-head
bounds-flood-head c = omega (arith, low (goal.at.bounds-flood-head c).At-loop-head)

pub visit-requires : goal.visit-requires
visit-requires c =
    let r = flood_row (arrays_of c.args.self.now) c.requires.0 c.loop-head.flood c.loop-head.head c.loop-head.invariant.1 c.loop-head-test.true in
    (c.loop-head.invariant.1.counted, r.0, r.1)

pub overflow_add-head : goal.overflow_add-head
overflow_add-head c = omega (arith, low (goal.at.overflow_add-head c).At-loop-head)

pub loop-head-smaller : goal.loop-head-smaller
loop-head-smaller c = omega (arith, low (goal.at.loop-head-smaller c).At-loop-head)

pub loop-head-preserved : goal.loop-head-preserved
loop-head-preserved c =
    subst (λ (f : Flood). Going (arrays_of c.args.self.now) f (c.loop-head.head + 1)) (sym c.visit.ensures)
    (flood_step (arrays_of c.args.self.now) c.requires.0 c.loop-head.flood c.loop-head.head c.loop-head.invariant c.loop-head-test.true)

pub returns : goal.returns
unfolding as_molecule
returns c =
    flood_end (arrays_of c.args.self.now) c.requires.0 c.requires.1 c.loop-head.flood c.loop-head.head c.loop-head.invariant c.loop-head-test.false

-- The bonds before this one are in the table, and the faults still to come are those of the whole.
use mathlib.Core.Path.{sym}
use native.Mathlib.Omega.{arith}
use Rattle.std.proofs.Common.{rules}
use Rattle.card.proofs.Bonding.{bonding_start, bonding_roomy, bonding_next, bonding_stop, bonding_done}
use Rattle.card.proofs.bonds.read_bonds.Goals as goal

pub loop-k-init : goal.loop-k-init
loop-k-init c = bonding_start c.args.card.now _ c.requires.2

pub returns-in_err-bond_fault : goal.returns-in_err-bond_fault
returns-in_err-bond_fault c =
    bonding_stop c.args.card.now c.requires.0 c.args.bare.n c.requires.2.size _ c.loop-k.k c.loop-k.invariant (omega (arith, c.requires.1)) _
    c.in_err-bond_fault.field-0.0 (search rules) c.in_err-bond_fault.ensures

pub put_bond-requires : goal.put_bond-requires
put_bond-requires c =
    bonding_roomy c.args.card.now c.requires.0 c.args.bare.n c.requires.2.size _ c.loop-k.k c.loop-k.invariant (sym c.in_ok-bond_fault.ensures)

pub loop-k-preserved : goal.loop-k-preserved
loop-k-preserved c =
    bonding_next c.args.card.now c.requires.0 c.args.bare.n c.requires.2.size _ c.loop-k.k c.loop-k.invariant (omega (arith, c.requires.1))
    (sym c.in_ok-bond_fault.ensures) _ c.put_bond.ensures

pub returns : goal.returns
returns c = bonding_done c.args.card.now _ c.loop-k.k c.loop-k.invariant (omega (arith, c.requires.1))

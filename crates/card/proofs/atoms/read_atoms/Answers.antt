-- The atoms before this one are in the table, with their total, and the faults still to come are those of the whole.
use native.Mathlib.Omega.{arith}
use Rattle.std.proofs.Common.{rules}
use Rattle.card.proofs.Filling.{filling_start, filling_atom, filling_stop, filling_over, filling_done}
use Rattle.card.proofs.atoms.read_atoms.Goals as goal

pub loop-a-init : goal.loop-a-init
loop-a-init c = filling_start c.args.card.now _ c.empty-table.ensures.0 c.empty-table.ensures.1

pub returns-in_err-kind : goal.returns-in_err-kind
returns-in_err-kind c =
    filling_stop c.args.card.now c.loop-a.a c.loop-a.table c.loop-a.total c.loop-a.invariant (omega (arith, c.requires.1)) _ c.in_err-kind.field-0.0 (search rules)
    c.in_err-kind.ensures.refusal

pub loop-a-preserved : goal.loop-a-preserved
loop-a-preserved c =
    filling_atom c.args.card.now c.loop-a.a c.loop-a.table c.loop-a.total c.loop-a.invariant (omega (arith, c.requires.1)) (omega (arith, c.requires.2)) _
    c.in_ok-kind.ensures.refusal c.in_ok-kind.ensures.kind

pub returns-then-total-gt-MAX_HYDROGENS : goal.returns-then-total-gt-MAX_HYDROGENS
returns-then-total-gt-MAX_HYDROGENS c =
    filling_over c.args.card.now c.loop-a.a c.loop-a.table c.loop-a.total c.loop-a.invariant (omega (arith, c.requires.1)) c.if-total-gt-MAX_HYDROGENS.true

pub returns : goal.returns
returns c =
    filling_done c.args.card.now c.loop-a.a c.loop-a.table c.loop-a.total c.loop-a.invariant (omega (arith, c.requires.1)) c.if-total-gt-MAX_HYDROGENS.false

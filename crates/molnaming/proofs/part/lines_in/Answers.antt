use Rattle.std.proofs.Common.{◌≡◌, Bool, true, false, ◌≤◌, cond, arith}
use mir.Val.{bool_byte}
use Rattle.molnaming.proofs.Begun.{begun_all, begun_none, begun_next}
use Rattle.molnaming.proofs.part.lines_in.Goals as goal

one : (b : Bool) → (bool_byte b ≡ cond b 1 0) × (bool_byte b ≤ 1)
one true = (omega arith, omega arith)
one false = (omega arith, omega arith)

pub loop-b-init : goal.loop-b-init
loop-b-init c = (omega arith, omega (arith, begun_all c.args.file.now))

pub overflow_add-lines : goal.overflow_add-lines
overflow_add-lines c = let o = one c.loop-b.begins in omega arith

pub loop-b-preserved : goal.loop-b-preserved
loop-b-preserved c =
    let o = one c.loop-b.begins in
    (omega arith, omega (arith, begun_next c.args.file.now c.loop-b.begins c.loop-b.b-index (omega arith)))

pub returns : goal.returns
returns c = (omega (arith, c.loop-b.invariant.1, begun_none c.args.file.now c.loop-b.begins c.loop-b.b-index c.loop-b-test.false), omega arith)

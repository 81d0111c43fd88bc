use Rattle.std.proofs.Common.{◌≤◌, sym, length, arith, rules}
use lib.Seq.{length-take-le}
use Rattle.scallopgrid.specs.Returned.{returned}
use Rattle.scallopgrid.proofs.Fits.{name-fits}
use Rattle.naming.proofs.Printed.{long-line, named-line}
use Rattle.naming.proofs.name_line.Goals as goal

pub returns-then-input-gt-MOST_CARD : goal.returns-then-input-gt-MOST_CARD
returns-then-input-gt-MOST_CARD c = rw (long-line c.args.input.now c.if-input-gt-MOST_CARD.true) c.copy.ensures

pub slice_bounds-lent-end : goal.slice_bounds-lent-end
slice_bounds-lent-end c = let a = c.name_of_card-a in omega (arith, name-fits _ _ _ _ a.ensures)

pub slice_bounds-put_name-end : goal.slice_bounds-put_name-end
slice_bounds-put_name-end c =
    let a = c.name_of_card-a in
    let h : a.result.length ≤ length a.new.out = omega (arith, name-fits _ _ _ _ a.ensures) in
    sym (length-take-le _ _ h)

pub put_name-requires : goal.put_name-requires
put_name-requires c =
    let a = c.name_of_card-a in
    let h : a.result.length ≤ length a.new.out = omega (arith, name-fits _ _ _ _ a.ensures) in
    omega (arith, length-take-le a.result.length a.new.out h, name-fits _ _ _ _ a.ensures)

pub returns : goal.returns
returns c =
    let a = c.name_of_card-a in
    named-line _ _ (returned a.result a.new.out) c.if-input-gt-MOST_CARD.false (search rules) a.ensures _ _ _ c.put_name.ensures

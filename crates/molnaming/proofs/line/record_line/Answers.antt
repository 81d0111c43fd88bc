use Rattle.std.proofs.Common.{append_assoc, rules, arith}
use Rattle.lists.specs.Quoted as quoted
use Rattle.lines.specs.Numbers.{decimal_of}
use Rattle.lines.proofs.Putting.{adds_more, put_whole, whole_printed, put-part, puts_more, prints_fits}
use Rattle.molnaming.specs.Lines.{mol_line, record_line}
use Rattle.molnaming.proofs.line.record_line.Goals as goal

pub overflow_add-result : goal.overflow_add-result
overflow_add-result c = omega (arith, prints_fits _ _ _ _ c.mol_line.ensures)

pub returns : goal.returns
unfolding record_line
returns c =
    let fits = prints_fits _ _ _ _ c.mol_line.ensures in
    let front = put_whole _ _ _ _ _ c.nothing-front.ensures (adds_more _ _ _ _ _ c.put_digits.ensures.adds c.put_piece.ensures) (search rules) in
    let whole = puts_more _ _ _ _ _ _ _ _ (omega arith) front (put-part _ _ _ _ _ (omega arith) c.mol_line.ensures) in
    whole_printed _ _ _ _ (rw (append_assoc (decimal_of c.args.number) (quoted.bytes_of ": ") (mol_line c.args.file.now)) at whole)

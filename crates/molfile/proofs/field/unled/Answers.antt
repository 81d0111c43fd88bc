-- One law of FieldLaws for each return.
use Rattle.std.proofs.Common.{sym, ◌∙◌, arith}
use Rattle.molfile.proofs.FieldLaws.{rest, unled_on, unled_here, unled_end}
use Rattle.molfile.proofs.field.unled.Goals as goal

pub returns-then-b-ne-BLANK : goal.returns-then-b-ne-BLANK
returns-then-b-ne-BLANK c =
    let s = c.args.field.now in
    let L = c.loop-i in
    rest s L.i ∙ sym (unled_here s L.i (omega arith) c.if-b-ne-BLANK.true) ∙ L.invariant

pub loop-i-preserved : goal.loop-i-preserved
loop-i-preserved c =
    let L = c.loop-i in sym (unled_on c.args.field.now L.i (omega arith) c.if-b-ne-BLANK.false) ∙ L.invariant

pub returns : goal.returns
returns c = let L = c.loop-i in sym (unled_end c.args.field.now L.i (omega arith)) ∙ L.invariant

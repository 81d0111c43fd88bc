-- One law of FieldLaws for each return.
use Rattle.std.proofs.Common.{sym, ap, ◌∙◌, arith}
use Rattle.ctfile.specs.Fields.{are_blank}
use Rattle.molfile.proofs.FieldLaws.{rest, untrailed_at, untrailed-whole}
use Rattle.molfile.proofs.field.untrailed.Goals as goal

pub returns-then-are_blank : goal.returns-then-are_blank
returns-then-are_blank c = sym (untrailed_at c.args.field.now c.loop-i.i c.loop-i.invariant (ap are_blank (sym (rest c.args.field.now c.loop-i.i)) ∙ sym c.are_blank.ensures ∙ c.if-are_blank.true))

pub returns : goal.returns
returns c =
    sym (untrailed-whole c.args.field.now (λ j h. c.loop-i.invariant j (omega arith)))

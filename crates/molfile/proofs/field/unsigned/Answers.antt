-- One law of FieldLaws for each return.
use Rattle.std.proofs.Common.{sym, ◌∙◌, arith}
use Rattle.molfile.proofs.FieldLaws.{rest, unsigned_drops, unsigned_short, unsigned_keeps}
use Rattle.molfile.proofs.field.unsigned.Goals as goal

pub returns-in-len2-up : goal.returns-in-len2-up
returns-in-len2-up c =
    rest c.args.field.now 1 ∙ sym (unsigned_drops c.args.field.now c.in-len2-up.len_at_least (sym c.is_signed.ensures ∙ c.if-is_signed.true))

pub returns-in_default : goal.returns-in_default
returns-in_default c = sym (unsigned_short c.args.field.now (omega arith))

pub returns-in_default-2 : goal.returns-in_default-2
returns-in_default-2 c = sym (unsigned_keeps c.args.field.now (sym c.is_signed.ensures ∙ c.if-is_signed.false))

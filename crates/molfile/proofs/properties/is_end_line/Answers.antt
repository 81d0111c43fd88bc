-- One law of PropertyLaws for each return.
use Rattle.std.proofs.Common.{sym, ◌∙◌, ap}
use Rattle.ctfile.specs.Fields.{are_blank}
use Rattle.molfile.proofs.FieldLaws.{rest}
use Rattle.molfile.proofs.TextLaws.{compared}
use Rattle.molfile.proofs.PropertyLaws.{end-other, end_rest}
use Rattle.molfile.proofs.properties.is_end_line.Goals as goal

pub returns-then-starts_with : goal.returns-then-starts_with
returns-then-starts_with c =
    c.are_blank.ensures ∙ ap are_blank (rest c.args.line.now 6)
    ∙ end_rest c.args.line.now (sym (compared _ _) ∙ sym c.starts_with.ensures.value ∙ c.if-starts_with.true)

pub returns-else-starts_with : goal.returns-else-starts_with
returns-else-starts_with c =
    c.if-starts_with.false ∙ end-other c.args.line.now (sym (compared _ _) ∙ sym c.starts_with.ensures.value ∙ c.if-starts_with.false)

-- One law of FormLaws for each length of the symbol.
use Rattle.std.proofs.Common.{◌∙◌, ap, arith}
use Rattle.ctfile.specs.Fields.{unled, untrailed}
use Rattle.molfile.proofs.FormLaws.{kind-one, kind-two, kind-none}
use Rattle.molfile.proofs.forms.kind_in.Goals as goal

pub returns-in-1 : goal.returns-in-1
returns-in-1 c =
    let e = c.untrailed-symbol.ensures ∙ ap untrailed (c.unled.ensures ∙ ap unled c.columns-field.ensures) in
    c.of_capital.ensures.is ∙ kind-one c.args.line.now c.untrailed-symbol.result.now e (omega arith)

pub returns-in-2 : goal.returns-in-2
returns-in-2 c =
    let e = c.untrailed-symbol.ensures ∙ ap untrailed (c.unled.ensures ∙ ap unled c.columns-field.ensures) in
    c.of_letters.ensures.is ∙ kind-two c.args.line.now c.untrailed-symbol.result.now e (omega arith)

pub returns-in_default : goal.returns-in_default
returns-in_default c =
    let e = c.untrailed-symbol.ensures ∙ ap untrailed (c.unled.ensures ∙ ap unled c.columns-field.ensures) in
    kind-none c.args.line.now c.untrailed-symbol.result.now e (λ x. omega arith) (λ x. omega arith)

-- One law of FormLaws for each return.
use Rattle.std.proofs.Common.{List, ℕ, sym, ◌∙◌, ap}
use Rattle.molfile.proofs.TextLaws.{same, compared_back}
use Rattle.molfile.proofs.FormLaws.{version_before, version_behind}
use Rattle.molfile.proofs.forms.is_version.Goals as goal

pub returns-then-eq : goal.returns-then-eq
returns-then-eq c =
    c.if-eq.true ∙ version_before c.args.line.now (sym (c.eq.ensures ∙ compared_back _ _ ∙ ap (λ (v : List ℕ). same _ v) c.columns-version.ensures) ∙ c.if-eq.true)

pub returns-else-eq : goal.returns-else-eq
returns-else-eq c =
    c.eq-else-eq.ensures ∙ compared_back _ _ ∙ ap (λ (v : List ℕ). same _ v) c.columns-version.ensures
    ∙ version_behind c.args.line.now (sym (c.eq.ensures ∙ compared_back _ _ ∙ ap (λ (v : List ℕ). same _ v) c.columns-version.ensures) ∙ c.if-eq.false)

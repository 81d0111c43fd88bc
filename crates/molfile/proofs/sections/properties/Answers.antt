-- What is left from an offset on is judged as the whole is.
use Rattle.std.proofs.Common.{refl, sym, ◌∙◌, ap, subst, Err}
use Rattle.refusal.specs.declared.Refused.{Refused}
use Rattle.ctfile.specs.Forms.{is_property_line, is_end_line}
use Rattle.molfile.specs.Passing.{Ends}
use Rattle.molfile.proofs.SectionLaws.{end-here, property_wrong, property_next, end-missing}
use Rattle.molfile.proofs.sections.properties.Goals as goal

pub returns-then-is_end_line : goal.returns-then-is_end_line
returns-then-is_end_line c =
    let R = c.line_at-line.ensures in
    record {
      judged = sym c.loop-at.invariant ∙ end-here _ _ _ R _ (sym (c.is_end_line.ensures ∙ ap is_end_line R.bytes) ∙ c.if-is_end_line.true);
      refusal = tt;
    }

pub returns-then-not-is_property_line : goal.returns-then-not-is_property_line
returns-then-not-is_property_line c =
    let R = c.line_at-line.ensures in
    subst (λ (e : Refused). Ends c.args.file.now c.args.from c.args.atoms (Err e)) (sym c.broken_at.ensures)
    (record {
      judged = sym c.loop-at.invariant ∙ property_wrong _ _ _ R _ (sym (c.is_end_line.ensures ∙ ap is_end_line R.bytes) ∙ c.if-is_end_line.false)
          (sym (c.is_property_line.ensures ∙ ap (is_property_line c.args.atoms) R.bytes) ∙ c.if-not-is_property_line.true);
      refusal = refl;
    })

pub loop-at-preserved : goal.loop-at-preserved
loop-at-preserved c =
    let R = c.line_at-line.ensures in
    sym (property_next c.args.file.now _ _ R c.args.atoms (sym (c.is_end_line.ensures ∙ ap is_end_line R.bytes) ∙ c.if-is_end_line.false)
    (sym (c.is_property_line.ensures ∙ ap (is_property_line c.args.atoms) R.bytes) ∙ c.if-not-is_property_line.false)) ∙ c.loop-at.invariant

pub returns : goal.returns
returns c =
    subst (λ (e : Refused). Ends c.args.file.now c.args.from c.args.atoms (Err e)) (sym c.broken_at-2.ensures)
    (record { judged = sym c.loop-at.invariant ∙ end-missing c.args.file.now c.loop-at.at c.args.atoms c.loop-at-test.false; refusal = refl })

-- One law of PropertyLaws for each way through the test.
use Rattle.std.proofs.Common.{true≢false, sym, ◌∙◌}
use Rattle.molfile.proofs.TextLaws.{compared}
use Rattle.molfile.proofs.PropertyLaws.{zero-charge, zero-radical, zero-isotope}
use Rattle.molfile.proofs.properties.lists_entries.Goals.{then-starts_with, else-starts_with}
use Rattle.molfile.proofs.properties.lists_entries.Goals as goal

pub returns-then-starts_with-2 : goal.returns-then-starts_with-2
returns-then-starts_with-2 c =
    let l = c.args.line.now in
    c.if-starts_with-2.true ∙ elim c.if-starts_with.branch [
      | then-starts_with w ↦ zero-charge l (sym (compared _ _) ∙ sym c.starts_with.ensures.value ∙ w.if-starts_with.true)
      | else-starts_with w ↦ zero-radical l (sym (compared _ _) ∙ sym c.starts_with.ensures.value ∙ w.if-starts_with.false)
          (sym (compared _ _) ∙ sym w.starts_with-else-starts_with.ensures.value ∙ sym w.value-is ∙ c.if-starts_with-2.true)
    ]

pub returns-else-starts_with-2 : goal.returns-else-starts_with-2
returns-else-starts_with-2 c =
    let l = c.args.line.now in
    elim c.if-starts_with.branch [
      | then-starts_with w ↦ absurd (true≢false (sym w.if-starts_with.true ∙ sym w.value-is ∙ c.if-starts_with-2.false))
      | else-starts_with w ↦ c.starts_with-else-starts_with-2.ensures.value ∙ compared _ _ ∙ zero-isotope l (sym (compared _ _) ∙ sym c.starts_with.ensures.value ∙ w.if-starts_with.false)
          (sym (compared _ _) ∙ sym w.starts_with-else-starts_with.ensures.value ∙ sym w.value-is ∙ c.if-starts_with-2.false)
    ]

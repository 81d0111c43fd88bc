-- One law of FormLaws for each way through the test.
use Rattle.std.proofs.Common.{true≢false, not, sym, ◌∙◌, ap}
use Rattle.ctfile.specs.Fields.{are_blank}
use Rattle.molfile.proofs.FormLaws.{is-zero, atom-blank, atom-mass, atom-charge}
use Rattle.molfile.proofs.forms.is_atom_line.Goals.{then-not-are_blank, else-not-are_blank}
use Rattle.molfile.proofs.forms.is_atom_line.Goals as goal

pub returns-then-eq : goal.returns-then-eq
returns-then-eq c =
    let l = c.args.line.now in
    let b = sym (c.are_blank.ensures ∙ ap are_blank c.columns-symbol.ensures) in
    elim c.if-not-are_blank.branch [
      | then-not-are_blank w ↦ c.eq-then-eq.ensures ∙ is-zero _ _ c.number_at.ensures ∙ atom-charge l (b ∙ w.if-not-are_blank.true)
          (sym (is-zero _ _ w.size_at.ensures) ∙ sym w.eq.ensures ∙ sym w.value-is ∙ c.if-eq.true)
      | else-not-are_blank w ↦ absurd (true≢false (sym c.if-eq.true ∙ w.value-is ∙ ap not w.if-not-are_blank.false))
    ]

pub returns-else-eq : goal.returns-else-eq
returns-else-eq c =
    let l = c.args.line.now in
    let b = sym (c.are_blank.ensures ∙ ap are_blank c.columns-symbol.ensures) in
    c.if-eq.false ∙ elim c.if-not-are_blank.branch [
      | then-not-are_blank w ↦ atom-mass l (b ∙ w.if-not-are_blank.true) (sym (is-zero _ _ w.size_at.ensures) ∙ sym w.eq.ensures ∙ sym w.value-is ∙ c.if-eq.false)
      | else-not-are_blank w ↦ atom-blank l (b ∙ w.if-not-are_blank.false)
    ]

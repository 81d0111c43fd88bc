-- One law of PropertyLaws for each way through the test.
use mathlib.Core.Bool.{◌&&◌}
use mathlib.Core.List.{List}
use native.Mathlib.Omega.{arith}
use Rattle.std.proofs.Common.{ℕ, ◌≡◌, ◌+◌, ◌-◌, ◌*◌, true, false, true≢false, sym, ◌∙◌, ap, subst, take, drop, Option}
use lib.Dec.{eqb, ltb, leb}
use lib.ListN.{get_or}
use borrow.Author.Tests.{eq-eqb, ne_eqb}
use Rattle.ctfile.specs.Fields.{is_blank, columns, number_in, size_in}
use Rattle.ctfile.specs.Forms.{number_at}
use Rattle.molfile.specs.Numbers.{IsNumber}
use Rattle.molfile.proofs.FieldLaws.{slice-column, slice-columns}
use Rattle.molfile.proofs.FormLaws.{is-zero}
use Rattle.molfile.proofs.PropertyLaws.{entry-before, entry-between, entry-atom, entry_value}
use Rattle.molfile.proofs.properties.is_entry.Goals.{then-column-eq-BLANK, else-column-eq-BLANK, then-column-eq-BLANK-2, else-column-eq-BLANK-2}
use Rattle.molfile.proofs.properties.is_entry.Goals as goal

-- the columns of the entry are those of its line
module _ (l : List ℕ) (e : ℕ) where
  abbrev at : ℕ
  at = 9 + 8 * e

  abbrev width : ℕ
  width = at + 8 - at

  abbrev entry : List ℕ
  entry = take width (drop at l)

  first : get_or entry 0 32 ≡ get_or l at 32
  first = slice-column at width l 0 (omega arith) ∙ ap (λ (x : ℕ). get_or l x 32) (omega arith)

  between : get_or entry 4 32 ≡ get_or l (at + 4) 32
  between = slice-column at width l 4 (omega arith)

  named : (atoms : ℕ) → (ltb 0 (number_at 1 entry) && leb (number_at 1 entry) atoms) ≡ (ltb 0 (number_at (at + 1) l) && leb (number_at (at + 1) l) atoms)
  named atoms = ap (λ (xs : List ℕ). ltb 0 (number_in xs) && leb (number_in xs) atoms) (slice-columns at width l 1 3 (omega arith))

  valued : (r : Option ℕ) → IsNumber (size_in (columns 5 3 entry)) r → IsNumber (size_in (columns (at + 5) 3 l)) r
  valued r = subst (λ (xs : List ℕ). IsNumber (size_in xs) r) (slice-columns at width l 5 3 (omega arith))

blank : (a b : ℕ) → a ≡ b → a ≡ 32 → is_blank b ≡ true
blank a b e f = eq-eqb b 32 (sym e ∙ f)

other : (a b : ℕ) → a ≡ b → (a ≡ 32 → ⊥) → is_blank b ≡ false
other a b e f = ne_eqb b 32 (λ q. f (e ∙ q))

pub returns-then-names_atom : goal.returns-then-names_atom
returns-then-names_atom c =
    let l = c.args.line.now in
    elim c.if-column-eq-BLANK.branch [
      | then-column-eq-BLANK w ↦ elim c.if-column-eq-BLANK-2.branch [
        | then-column-eq-BLANK-2 v ↦ c.eq.ensures ∙ is-zero _ _ (valued l c.args.e _ c.size_at.ensures) ∙ entry_value c.args.atoms l c.args.e
            (blank _ _ (c.column.ensures ∙ first l c.args.e) w.if-column-eq-BLANK.true)
            (ap (λ (x : ℕ). eqb x 32) (sym (w.column-then-column-eq-BLANK.ensures ∙ between l c.args.e)) ∙ sym w.value-is ∙ v.if-column-eq-BLANK-2.true)
            (sym (v.names_atom.ensures ∙ named l c.args.e c.args.atoms) ∙ sym v.value-is ∙ c.if-names_atom.true)
        | else-column-eq-BLANK-2 v ↦ absurd (true≢false (sym c.if-names_atom.true ∙ v.value-is ∙ v.if-column-eq-BLANK-2.false))
      ]
      | else-column-eq-BLANK w ↦ elim c.if-column-eq-BLANK-2.branch [
        | then-column-eq-BLANK-2 v ↦ absurd (true≢false (sym v.if-column-eq-BLANK-2.true ∙ w.value-is ∙ ne_eqb _ _ w.if-column-eq-BLANK.false))
        | else-column-eq-BLANK-2 v ↦ absurd (true≢false (sym c.if-names_atom.true ∙ v.value-is ∙ v.if-column-eq-BLANK-2.false))
      ]
    ]

pub returns-else-names_atom : goal.returns-else-names_atom
returns-else-names_atom c =
    let l = c.args.line.now in
    c.if-names_atom.false ∙
    elim c.if-column-eq-BLANK.branch [
      | then-column-eq-BLANK w ↦ elim c.if-column-eq-BLANK-2.branch [
        | then-column-eq-BLANK-2 v ↦ entry-atom c.args.atoms l c.args.e
            (blank _ _ (c.column.ensures ∙ first l c.args.e) w.if-column-eq-BLANK.true)
            (ap (λ (x : ℕ). eqb x 32) (sym (w.column-then-column-eq-BLANK.ensures ∙ between l c.args.e)) ∙ sym w.value-is ∙ v.if-column-eq-BLANK-2.true)
            (sym (v.names_atom.ensures ∙ named l c.args.e c.args.atoms) ∙ sym v.value-is ∙ c.if-names_atom.false)
        | else-column-eq-BLANK-2 v ↦ entry-between c.args.atoms l c.args.e
            (blank _ _ (c.column.ensures ∙ first l c.args.e) w.if-column-eq-BLANK.true)
            (ap (λ (x : ℕ). eqb x 32) (sym (w.column-then-column-eq-BLANK.ensures ∙ between l c.args.e)) ∙ sym w.value-is ∙ v.if-column-eq-BLANK-2.false)
      ]
      | else-column-eq-BLANK w ↦ entry-before c.args.atoms l c.args.e (other _ _ (c.column.ensures ∙ first l c.args.e) w.if-column-eq-BLANK.false)
    ]

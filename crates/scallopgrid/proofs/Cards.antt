-- A card read: a refusal has place 0, and a table is the card's molecule.
use mathlib.Core.List.{List}
use mathlib.Core.Path.{◌≡◌, refl, sym, ◌∙◌, ap, subst}
use Prim.Native.Nat.{ℕ}
use lib.ListN.{length}
use Rattle.std.specs.Prelude.{Result, Ok, Err, IfOk}
use Rattle.refusal.specs.declared.Refusal.{Refusal}
use Rattle.refusal.specs.declared.Refused.{Refused}
use Rattle.refusal.specs.Numbers.{refusal_in, refused_in, place_in}
use Rattle.molecule.specs.Molecule.{Molecule}
use Rattle.molecule.specs.Renumbering.{Renumbered}
use Rattle.molecule.specs.Judged.{molecule_of, card_fault}
use Rattle.molecule.proofs.Sound.{Sound}
use Rattle.molecule.proofs.Checked.{well_formed-sound}
use Rattle.table.specs.declared.Table.{Table}
use Rattle.table.specs.View.{view_of, TidyTable}
use Rattle.card.specs.Reading.{IsRead}
use Rattle.rules.specs.Answers.{numbered, of_card}
use Rattle.rules.specs.Allowed.{Allowed}
use Rattle.outputs.specs.Numbered.{Listed}
use Rattle.outputs.specs.declared.Accepted.{Accepted}
use Rattle.outputs.specs.Left.{left_by, AnswersAs}
use Rattle.scallopgrid.specs.declared.Answer as call
use Rattle.scallopgrid.specs.Returned.{returned, answer_of, from_start}
use Rattle.scallopgrid.proofs.Faults.{card-answers}
use Rattle.scallopgrid.proofs.Alike.{listed, numbered-alike}
use Rattle.scallopgrid.proofs.Runs.{run-read}

module _ (card : List ℕ) where
  -- what a card's reader gives, with the place
  start-refused : (r : Result Table Refusal) → refused_in (from_start r) ≡ refusal_in r
  start-refused (Ok t) = refl
  start-refused (Err q) = refl

  start-place : (r : Result Table Refusal) → place_in (from_start r) ≡ 0
  start-place (Ok t) = refl
  start-place (Err q) = refl

  start-ok : (P : Table → Type 0) (r : Result Table Refusal) → IfOk r P → IfOk (from_start r) P
  start-ok P (Ok t) h = h
  start-ok P (Err q) h = tt

  module _ (r : Result Table Refusal) (read : Result Table Refused) (R : IsRead card r) (e : read ≡ from_start r) where
    fault : refused_in read ≡ card_fault card
    fault = ap refused_in e ∙ start-refused r ∙ R.refusal

    ok : (P : Table → Type 0) → IfOk r P → IfOk read P
    ok P h = subst (λ (q : Result Table Refused). IfOk q P) (sym e) (start-ok P r h)

    sound : refused_in read ≡ 0 → Sound (molecule_of card)
    sound z = well_formed-sound card (sym fault ∙ z)

    pub card-listed : IfOk read Listed
    card-listed = listed (molecule_of card) read (ok TidyTable R.tidy) (ok (λ t. Renumbered (λ a. a) (molecule_of card) (view_of t)) R.view) sound

    same : (bytes : Molecule → List ℕ) (alike : (M N : Molecule) → Renumbered (λ a. a) M N → Sound M → bytes N ≡ bytes M) (allowance room : ℕ) (t : Table) → read ≡ Ok t
        → numbered bytes allowance room (view_of t) ≡ numbered bytes allowance room (molecule_of card)
    same bytes alike allowance room t f =
        let E = subst (λ (q : Result Table Refused). IfOk q (λ u. Renumbered (λ a. a) (molecule_of card) (view_of u))) f (ok (λ u. Renumbered (λ a. a) (molecule_of card) (view_of u)) R.view) in
        numbered-alike bytes allowance room (molecule_of card) (view_of t) E (alike _ _ E (sound (ap refused_in f)))

pub card-run : (bytes : Molecule → List ℕ) (alike : (M N : Molecule) → Renumbered (λ a. a) M N → Sound M → bytes N ≡ bytes M)
    (card : List ℕ) (allowance : ℕ) (lent : List ℕ) (r : Result Table Refusal) (read : Result Table Refused) → IsRead card r → read ≡ from_start r
    → (o : Result Accepted Refused) (after : List ℕ) → AnswersAs bytes read allowance lent (left_by o after) → (c : call.Answer) → c ≡ answer_of o
    → Allowed (of_card bytes card allowance (length lent)) lent (returned c after)
card-run bytes alike card allowance lent r read R e o after A c f =
    run-read bytes (card_fault card) 0 (molecule_of card) allowance lent _ (card-answers bytes card allowance (length lent)) read (fault card r read R e)
    (ap place_in e ∙ start-place card r) (same card r read R e bytes alike allowance (length lent)) o after A c f

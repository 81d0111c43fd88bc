-- Apart and Again: a name is the writing of the canonical molecule, and reading it gives that molecule renumbered. So equal names come from one
-- molecule read, and the card read back is a renumbering of the card named, which gets the same answer.
use mathlib.Core.List.{List}
use mathlib.Core.Path.{◌≡◌, sym, ◌∙◌, ap, subst}
use Prim.Native.Nat.{ℕ, ◌≤◌}
use native.Mathlib.Omega.{arith}
use borrow.Author.Tests.{le-ltb}
use lib.ListN.{length}
use Rattle.molecule.specs.Molecule.{Molecule}
use Rattle.molecule.specs.Renumbering.{Renumbered}
use Rattle.molecule.specs.Judged.{molecule_of, WellFormed}
use Rattle.molecule.specs.Written.{card_bytes}
use Rattle.molecule.proofs.Sound.{Sound}
use Rattle.molecule.proofs.Renumberings.{renumbered_trans, renumbered_sym}
use Rattle.molecule.proofs.Alike.{sound-along}
use Rattle.molecule.proofs.Checked.{well_formed-sound}
use Rattle.molecule.proofs.CardBack.{card-well_formed, card-back}
use Rattle.classes.specs.Refining.{rule1}
use Rattle.classes.specs.Canonical.{canonical}
use Rattle.classes.proofs.Canonical.{canonical-renumbered}
use Rattle.sling.specs.Faults.{Outcome, stopped, finished}
use Rattle.sling.specs.Reading.{State}
use Rattle.sling.specs.Folded.{folded, read_text}
use Rattle.sling.proofs.Names.{final, name-folded, name-length, name-read}
use Rattle.rules.specs.Answers.{accepted, in_room, name_out, name_of, card_of, read_into}
use Rattle.rules.specs.Promises.{AlwaysApart, AlwaysAgain, AlwaysAnswered}
use Rattle.rules.proofs.Answered.{card-refused_9, card-accepted, accepted-card}
use Rattle.rules.proofs.Same.{same}

-- what reading the name of a sound molecule gives: the molecule renumbered
record Back (M : Molecule) (bytes : List ℕ) : Type 0 where
  state : State
  read : read_text bytes ≡ finished state
  numbers : ℕ → ℕ
  renumbered : Renumbered numbers M (folded state)

name_back : (M : Molecule) → Sound M → Back M (name_out M)
unfolding name_out
name_back M S =
    let c = canonical-renumbered rule1 M in
    let W = canonical rule1 M in
    let T : Sound W = sound-along c.1 S in
    record { state = final W T; read = name-read W T; numbers = _; renumbered = renumbered_trans c.1 (name-folded W T) }

-- one text is read as one molecule
back-apart : (M M' : Molecule) (bytes bytes' : List ℕ) → bytes ≡ bytes' → Back M bytes → Back M' bytes' → (σ : ℕ → ℕ) × Renumbered σ M M'
back-apart M M' bytes bytes' e b b' =
    let same-state : b.state ≡ b'.state = read-state (sym b.read ∙ ap read_text e ∙ b'.read) in
    (_, renumbered_trans b.renumbered (renumbered_sym (subst (λ st. Renumbered b'.numbers M' (folded st)) (sym same-state) b'.renumbered)))
  where
    state_of : State → Outcome → State
    state_of d (finished st) = st
    state_of d (stopped n p) = d

    read-state : {st st' : State} → finished st ≡ finished st' → st ≡ st'
    read-state {st} p = ap (state_of st) p

pub apart : AlwaysApart
unfolding name_of
apart card card' allowance room allowance' room' a a' e =
    let w = accepted-card name_out card allowance room a in
    let w' = accepted-card name_out card' allowance' room' a' in
    back-apart (molecule_of card) (molecule_of card') (name_out (molecule_of card)) (name_out (molecule_of card')) (sym w.1 ∙ e ∙ w'.1)
    (name_back (molecule_of card) (well_formed-sound card w.0)) (name_back (molecule_of card') (well_formed-sound card' w'.0))

card-read : (text : List ℕ) (st : State) → read_text text ≡ finished st → (room : ℕ) → length (card_bytes (folded st)) ≤ room → card_of text room ≡ accepted 0 (card_bytes (folded st))
unfolding card_of in_room
card-read text st e room h = ap (λ o. read_into o room (length text)) e ∙ rw (le-ltb room (length (card_bytes (folded st))) h)

pub again : AlwaysAgain
again card allowance room a = record {
  back = back;
  read = λ room' h. read room' h;
  well_formed = written-well;
  named = (same _ card back w.0 written-well (renumbered_trans b.renumbered (card-back (folded b.state) sound))).name allowance room;
}
  where
    w : WellFormed card × ((name_of card allowance room).bytes ≡ name_out (molecule_of card))
    w = unfold name_of in accepted-card name_out card allowance room a

    b : Back (molecule_of card) (name_out (molecule_of card))
    b = name_back (molecule_of card) (well_formed-sound card w.0)

    sound : Sound (folded b.state)
    sound = sound-along b.renumbered (well_formed-sound card w.0)

    back : List ℕ
    back = card_bytes (folded b.state)

    written-well : WellFormed back
    written-well = card-well_formed (folded b.state) sound

    read : (room' : ℕ) → length back ≤ room' → card_of (name_of card allowance room).bytes room' ≡ accepted 0 back
    read room' h = ap (λ s. card_of s room') w.1 ∙ card-read (name_out (molecule_of card)) b.state b.read room' h

-- A well-formed card is given up only for its leaf count, and 2,048 bytes are room enough.
pub answered : AlwaysAnswered
unfolding name_of
answered card w = record {
  gave_up = λ allowance room h. card-refused_9 name_out card allowance room w h;
  named = λ allowance room h l.
      ap (λ a. a.refusal) (card-accepted name_out card allowance room w h (omega (arith, fits)));
}
  where
    fits : length (name_out (molecule_of card)) ≤ 2048
    fits = unfold name_out in name-length (canonical rule1 (molecule_of card)) (sound-along (canonical-renumbered rule1 (molecule_of card)).1 (well_formed-sound card w))

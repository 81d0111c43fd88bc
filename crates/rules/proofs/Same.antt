-- Same: renumberings have one leaf count and one canonical molecule, so that the name, the canonical card and every refusal are decided by what is
-- unchanged; class marks go along with their atoms.
use mathlib.Core.Bool.{Bool, true, false, cond}
use mathlib.Core.List.{List}
use mathlib.Core.Path.{◌≡◌, refl, sym, ◌∙◌, ap₂}
use Prim.Native.Nat.{ℕ, ◌<◌}
use native.Mathlib.Omega.{arith}
use lib.Dec.{ltb}
use lib.ListN.{length, get_or}
use Rattle.lists.proofs.Upto.{get_or-each, length-each}
use Rattle.molecule.specs.Molecule.{Molecule}
use Rattle.molecule.specs.Renumbering.{Renumbered}
use Rattle.molecule.specs.Judged.{molecule_of, WellFormed}
use Rattle.molecule.proofs.Alike.{card_bytes-alike}
use Rattle.molecule.proofs.Checked.{well_formed-sound}
use Rattle.classes.specs.Refining.{rule1}
use Rattle.classes.specs.Numberings.{leaf_count}
use Rattle.classes.specs.Canonical.{class_mark, by_rank, canonical}
use Rattle.classes.proofs.Carried.{rule1-law}
use Rattle.classes.proofs.Renumbered.{leaf_count-renumbered, class_mark-renumbered}
use Rattle.classes.proofs.Canonical.{canonical-unchanged}
use Rattle.sling.proofs.Alike.{name-alike}
use Rattle.rules.specs.Answers.{Answer, refused, accepted, in_room, numbered, of_card, name_out, canonical_out, marks_out, name_of, canonical_of, marks_of}
use Rattle.rules.specs.Promises.{SameMarks, AlwaysSame}
use Rattle.rules.proofs.Answered.{within, card-answered}

module _ {σ : ℕ → ℕ} {M M' : Molecule} (E : Renumbered σ M M') where
  pub name_out-same : 0 < M.size → name_out M' ≡ name_out M
  unfolding name_out canonical by_rank
  name_out-same h = sym (name-alike (canonical rule1 M) (canonical rule1 M') (canonical-unchanged rule1 rule1-law E) h)

  pub named-same : 0 < M.size → (allowance room : ℕ) → numbered name_out allowance room M' ≡ numbered name_out allowance room M
  unfolding numbered
  named-same h allowance room = ap₂ (within name_out allowance room) (leaf_count-renumbered rule1 rule1-law E) (name_out-same h)

  pub canonical_out-same : canonical_out M' ≡ canonical_out M
  unfolding canonical_out
  canonical_out-same = sym (card_bytes-alike (canonical-unchanged rule1 rule1-law E))

  marks_out-length : length (marks_out M') ≡ length (marks_out M)
  unfolding marks_out
  marks_out-length = length-each M'.size (class_mark rule1 M') ∙ E.size ∙ sym (length-each M.size (class_mark rule1 M))

  marks_out-carried : (i : ℕ) → i < M.size → get_or (marks_out M') (σ i) 0 ≡ get_or (marks_out M) i 0
  unfolding marks_out
  marks_out-carried i h =
      get_or-each M'.size (class_mark rule1 M') (σ i) 0 (omega (arith, E.shuffle.within i h, E.size))
      ∙ class_mark-renumbered rule1 rule1-law E i h
      ∙ sym (get_or-each M.size (class_mark rule1 M) i 0 h)

module _ {σ : ℕ → ℕ} (card card' : List ℕ) (w : WellFormed card) (w' : WellFormed card') (E : Renumbered σ (molecule_of card) (molecule_of card')) where
  leaves-same : leaf_count rule1 (molecule_of card') ≡ leaf_count rule1 (molecule_of card)
  leaves-same = leaf_count-renumbered rule1 rule1-law E

  answer_same : (out : Molecule → List ℕ) → out (molecule_of card') ≡ out (molecule_of card) → (allowance room : ℕ) → of_card out card' allowance room ≡ of_card out card allowance room
  answer_same out e allowance room =
      card-answered out card' allowance room w'
      ∙ ap₂ (within out allowance room) leaves-same e
      ∙ sym (card-answered out card allowance room w)

  marks-same : (allowance room : ℕ) → SameMarks σ (molecule_of card).size (marks_of card allowance room) (marks_of card' allowance room)
  unfolding marks_of in_room
  marks-same allowance room =
      rw (card-answered marks_out card allowance room w, card-answered marks_out card' allowance room w', leaves-same, marks_out-length E)
      (go (ltb allowance (leaf_count rule1 (molecule_of card))) (ltb room (length (marks_out (molecule_of card)))))
    where
      given : Molecule → Bool → Bool → Answer
      given N b c = cond b (refused 9 0) (cond c (refused 10 0) (accepted (leaf_count rule1 (molecule_of card)) (marks_out N)))

      go : (b c : Bool) → SameMarks σ (molecule_of card).size (given (molecule_of card) b c) (given (molecule_of card') b c)
      go true c = record { refusal = refl; place = refl; leaves = refl; bytes = refl; carried = λ i h. refl }
      go false true = record { refusal = refl; place = refl; leaves = refl; bytes = refl; carried = λ i h. refl }
      go false false = record { refusal = refl; place = refl; leaves = refl; bytes = marks_out-length E; carried = marks_out-carried E }

pub same : AlwaysSame
unfolding name_of canonical_of
same σ card card' w w' E = record {
  name = answer_same card card' w w' E name_out (name_out-same E (well_formed-sound card w).some);
  canonical = answer_same card card' w w' E canonical_out (canonical_out-same E);
  marks = marks-same card card' w w' E;
}

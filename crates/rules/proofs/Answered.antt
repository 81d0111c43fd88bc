-- What an answer comes to, where its parts are known: the checks first, then the leaf count against the allowance, then the room. Said of any
-- molecule with the refusal of what listed it, and then of a card.
use mathlib.Core.Bool.{Bool, true, false, cond}
use mathlib.Core.List.{List}
use mathlib.Core.Logic.{◌≢◌}
use mathlib.Core.Path.{◌≡◌, refl, ◌∙◌, ap}
use Prim.Native.Nat.{ℕ, zero, suc, ◌<◌, ◌≤◌}
use native.Mathlib.Omega.{arith}
use borrow.Author.Tests.{lt-ltb, le-ltb}
use lib.Dec.{ltb}
use lib.ListN.{length}
use Rattle.molecule.specs.Molecule.{Molecule}
use Rattle.molecule.specs.Judged.{molecule_of, card_fault, WellFormed}
use Rattle.classes.specs.Refining.{rule1}
use Rattle.classes.specs.Numberings.{leaf_count}
use Rattle.rules.specs.Answers.{Answer, refused, accepted, in_room, numbered, unless_faulty, of_card}

module _ (out : Molecule → List ℕ) (allowance room : ℕ) where
  -- the answer where nothing is refused before the numbering, by its leaf count and its bytes
  abbrev pub within : ℕ → List ℕ → Answer
  within k o = cond (ltb allowance k) (refused 9 0) (in_room room 0 k o)

  module _ (fault : ℕ) (M : Molecule) where
    pub judged-answered : fault ≡ 0 → unless_faulty fault (numbered out allowance room M) ≡ within (leaf_count rule1 M) (out M)
    unfolding numbered
    judged-answered w = ap (λ n. unless_faulty n (within (leaf_count rule1 M) (out M))) w

    pub judged-faulty : fault ≢ 0 → unless_faulty fault (numbered out allowance room M) ≡ refused fault 0
    judged-faulty = go fault
      where
        go : (n : ℕ) → n ≢ 0 → unless_faulty n (numbered out allowance room M) ≡ refused n 0
        go zero ne = absurd (ne refl)
        go (suc n) ne = refl

    pub judged-refused_9 : fault ≡ 0 → allowance < leaf_count rule1 M → unless_faulty fault (numbered out allowance room M) ≡ refused 9 0
    judged-refused_9 w h = judged-answered w ∙ rw (lt-ltb allowance (leaf_count rule1 M) h)

    pub judged-refused_10 : fault ≡ 0 → leaf_count rule1 M ≤ allowance → room < length (out M)
        → unless_faulty fault (numbered out allowance room M) ≡ refused 10 0
    unfolding in_room
    judged-refused_10 w h l = judged-answered w ∙ rw (le-ltb allowance (leaf_count rule1 M) h, lt-ltb room (length (out M)) l)

    pub judged-accepted : fault ≡ 0 → leaf_count rule1 M ≤ allowance → length (out M) ≤ room
        → unless_faulty fault (numbered out allowance room M) ≡ accepted (leaf_count rule1 M) (out M)
    unfolding in_room
    judged-accepted w h l = judged-answered w ∙ rw (le-ltb allowance (leaf_count rule1 M) h, le-ltb room (length (out M)) l)

    -- what is accepted had no fault, and its bytes are what is to be written
    pub accepted-judged : (unless_faulty fault (numbered out allowance room M)).refusal ≡ 0
        → (fault ≡ 0) × ((unless_faulty fault (numbered out allowance room M)).bytes ≡ out M)
    unfolding numbered in_room
    accepted-judged = faults fault
      where
        rooms : (b c : Bool) → (cond b (refused 9 0) (cond c (refused 10 0) (accepted (leaf_count rule1 M) (out M)))).refusal ≡ 0
            → (cond b (refused 9 0) (cond c (refused 10 0) (accepted (leaf_count rule1 M) (out M)))).bytes ≡ out M
        rooms true c e = absurd (omega arith)
        rooms false true e = absurd (omega arith)
        rooms false false e = refl

        faults : (n : ℕ) → (unless_faulty n (within (leaf_count rule1 M) (out M))).refusal ≡ 0
            → (n ≡ 0) × ((unless_faulty n (within (leaf_count rule1 M) (out M))).bytes ≡ out M)
        faults zero e = (refl, rooms (ltb allowance (leaf_count rule1 M)) (ltb room (length (out M))) e)
        faults (suc n) e = absurd (omega arith)

module _ (out : Molecule → List ℕ) (card : List ℕ) (allowance room : ℕ) where
  pub card-answered : WellFormed card → of_card out card allowance room ≡ within out allowance room (leaf_count rule1 (molecule_of card)) (out (molecule_of card))
  unfolding of_card
  card-answered = judged-answered out allowance room (card_fault card) (molecule_of card)

  pub card-refused_9 : WellFormed card → allowance < leaf_count rule1 (molecule_of card) → of_card out card allowance room ≡ refused 9 0
  unfolding of_card
  card-refused_9 = judged-refused_9 out allowance room (card_fault card) (molecule_of card)

  pub card-accepted : WellFormed card → leaf_count rule1 (molecule_of card) ≤ allowance → length (out (molecule_of card)) ≤ room
      → of_card out card allowance room ≡ accepted (leaf_count rule1 (molecule_of card)) (out (molecule_of card))
  unfolding of_card
  card-accepted = judged-accepted out allowance room (card_fault card) (molecule_of card)

  -- what is accepted is well formed, and its bytes are what is to be written
  pub accepted-card : (of_card out card allowance room).refusal ≡ 0 → WellFormed card × ((of_card out card allowance room).bytes ≡ out (molecule_of card))
  unfolding of_card
  accepted-card = accepted-judged out allowance room (card_fault card) (molecule_of card)

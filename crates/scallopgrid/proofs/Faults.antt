-- What refuses before anything is written: the faults of what came in, then the leaf count; and the answer is that refusal.
use mathlib.Core.Bool.{Bool, true, false, cond}
use mathlib.Core.List.{List}
use mathlib.Core.Logic.{◌≢◌}
use mathlib.Core.Path.{◌≡◌, refl, sym, ◌∙◌, ap, subst}
use Prim.Native.Nat.{ℕ, zero, suc, ◌≤◌}
use native.Mathlib.Omega.{arith}
use lib.Dec.{ltb}
use borrow.Author.Tests.{ltb-false}
use Rattle.molecule.specs.Molecule.{Molecule}
use Rattle.molecule.specs.Refusals.{or_next}
use Rattle.molecule.specs.Judged.{molecule_of, card_fault}
use Rattle.classes.specs.Refining.{rule1}
use Rattle.classes.specs.Numberings.{leaf_count}
use Rattle.rules.specs.Answers.{Answer, refused, numbered, of_card}
use Rattle.rules.proofs.Answered.{judged-faulty, judged-answered}
use Rattle.outputs.specs.Judged.{fault_under}

-- an answer about a molecule, by the fault and the place of what listed it
pub record Answers (out : Molecule → List ℕ) (fault place : ℕ) (M : Molecule) (allowance room : ℕ) (a : Answer) : Type 0 where
  pub faulty : fault ≢ 0 → a ≡ refused fault place
  pub sound : fault ≡ 0 → a ≡ numbered out allowance room M
  pub placed : fault ≡ 0 → place ≡ 0

pub card-answers : (out : Molecule → List ℕ) (card : List ℕ) (allowance room : ℕ)
    → Answers out (card_fault card) 0 (molecule_of card) allowance room (of_card out card allowance room)
unfolding of_card numbered
card-answers out card allowance room =
    record {
      faulty = judged-faulty out allowance room (card_fault card) (molecule_of card);
      sound = judged-answered out allowance room (card_fault card) (molecule_of card);
      placed = λ w. refl;
    }

module _ (fault : ℕ) (M : Molecule) (allowance : ℕ) where
  abbrev leaves : ℕ
  leaves = leaf_count rule1 M

  -- by the fault that came, and by whether the leaves are too many
  module _ (P : ℕ → Type 0) (own : fault ≢ 0 → P fault)
      (many : fault ≡ 0 → ltb allowance leaves ≡ true → P 9) (fine : fault ≡ 0 → ltb allowance leaves ≡ false → P 0) where
    pub by_fault : P (fault_under fault M allowance)
    unfolding fault_under
    by_fault = go fault refl
      where
        tested : fault ≡ 0 → (b : Bool) → ltb allowance leaves ≡ b → P (cond b 9 0)
        tested w true e = many w e
        tested w false e = fine w e

        go : (n : ℕ) → fault ≡ n → P (or_next n (cond (ltb allowance leaves) 9 0))
        go zero e = tested e (ltb allowance leaves) refl
        go (suc n) e = subst P e (own (λ z. omega (arith, z, e)))

  pub fault_none : fault_under fault M allowance ≡ 0 → (fault ≡ 0) × (leaf_count rule1 M ≤ allowance)
  fault_none =
      by_fault (λ n. n ≡ 0 → (fault ≡ 0) × (leaves ≤ allowance)) (λ ne z. absurd (ne z)) (λ w e z. absurd (omega arith))
      (λ w e z. (w, ltb-false allowance leaves e))

  pub fault_answer : (out : Molecule → List ℕ) (place room : ℕ) (a : Answer) → Answers out fault place M allowance room a
      → fault_under fault M allowance ≢ 0 → a ≡ refused (fault_under fault M allowance) place
  unfolding numbered
  fault_answer out place room a A =
      by_fault (λ n. n ≢ 0 → a ≡ refused n place) (λ ne k. A.faulty ne)
      (λ w e k. A.sound w ∙ rw e (ap (refused 9) (sym (A.placed w)))) (λ w e k. absurd (k refl))

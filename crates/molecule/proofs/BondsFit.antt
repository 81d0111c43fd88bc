-- The bonds that the card of a sound molecule lists pass the judging: an atom stands in as many of them as it has neighbours, and two atoms in one
-- at most. Both are counted over all pairs.
use mathlib.Core.Bool.{Bool, true, false, cond, ◌&&◌, and-true, and-false, and_assoc, or-true}
use mathlib.Core.List.{map}
use mathlib.Core.Logic.{inl, inr, ◌≢◌}
use mathlib.Core.Path.{◌≡◌, refl, sym, ◌∙◌, ap}
use Prim.Native.Nat.{ℕ, ◌+◌, ◌<◌, ◌≤◌}
use native.Mathlib.Decide.{dec_lt, ℕ_discrete}
use native.Mathlib.Nat.{add-zero, zero-add}
use native.Mathlib.Omega.{arith}
use lib.Dec.{eqb, ltb}
use lib.ListN.{length, get_or, take}
use borrow.Author.Tests.{eq-eqb, ne_eqb, lt-ltb, le-ltb, ltb-true}
use Rattle.lists.specs.Upto.{upto, each}
use Rattle.lists.specs.Tests.{count}
use Rattle.lists.proofs.Booleans.{and_both, eqb_swap}
use Rattle.lists.proofs.Sums.{sum-eq, sum-add, sum-le, sum-pick, count-sum}
use Rattle.lists.proofs.Counts.{count-eq, count-le, count-split, count_none, count-pick, count-only}
use Rattle.lists.proofs.Passed.{count-take}
use Rattle.lists.proofs.Members.{get_or-mem}
use Rattle.lists.proofs.Tested.{some-count}
use Rattle.molecule.specs.Bonds.{Bond, on, joins}
use Rattle.molecule.specs.Molecule.{Molecule, bonded, neighbours}
use Rattle.molecule.proofs.Sound.{Sound}
use Rattle.molecule.proofs.Neighbours.{length-neighbours}
use Rattle.molecule.proofs.BondLists.{Ends, Between, joins-ends, sum-on}
use Rattle.molecule.proofs.Judging.{Fits}
use Rattle.molecule.proofs.BondsOf.{bond, bonds_of, Listed, of_bonds_of, picked, bonds_of-count}

pub listed_ends : (M : Molecule) (b : Bond) → Listed M b → Ends M.size b
listed_ends M b L = omega (arith, L.ascends, L.inside)

module _ (M : Molecule) (S : Sound M) where
  abbrev after : ℕ → ℕ → Bool
  after p b = bonded M p b && ltb p b

  abbrev before : ℕ → ℕ → Bool
  before p b = bonded M p b && ltb b p

  -- of the bonds that a begins, p stands in all if it is a, and else in the one that joins it to a
  on_row : (p a : ℕ) → p < M.size → a < M.size
      → count (each M.size (picked M (on p) a)) ≡ cond (eqb a p) (count (each M.size (after p))) 0 + cond (before p a) 1 0
  on_row p a h k = go (ℕ_discrete a p)
    where
      go : Dec (a ≡ p) → count (each M.size (picked M (on p) a)) ≡ cond (eqb a p) (count (each M.size (after p))) 0 + cond (before p a) 1 0
      go (yes e) =
          rw e
          (simp (eq-eqb p p refl, le-ltb p p (omega arith), and-false)
          (count-eq M.size (picked M (on p) p) (after p) (λ b l. simp (eq-eqb p p refl, and-true)) ∙ sym (add-zero _)))
      go (no e) =
          count-eq M.size (picked M (on p) a) (λ b. (bonded M a b && ltb a b) && eqb p b) (λ b l. rw (ne_eqb a p e, eqb_swap b p) (sym (and_assoc (bonded M a b) (ltb a b) (eqb p b))))
          ∙ count-pick M.size p (λ b. bonded M a b && ltb a b) h
          ∙ rw (ne_eqb a p e, S.even a p k h) (sym (zero-add _))

  -- a neighbour comes after p or before it
  sides : (p : ℕ) → p < M.size → count (each M.size (bonded M p)) ≡ count (each M.size (after p)) + count (each M.size (before p))
  sides p h = count-split M.size (after p) (before p) (bonded M p) (λ b k. go b (dec_lt p b) (dec_lt b p))
    where
      go : (b : ℕ) → Dec (p < b) → Dec (b < p) → cond {A = ℕ} (bonded M p b) 1 0 ≡ cond (after p b) 1 0 + cond (before p b) 1 0
      go b (yes l) m = simp (lt-ltb p b l, le-ltb b p (omega arith), and-true, and-false) (sym (add-zero _))
      go b (no l) (yes m) = simp (le-ltb p b (omega arith), lt-ltb b p m, and-true, and-false) (sym (zero-add _))
      go b (no l) (no m) = let e : b ≡ p = omega arith in rw e (simp (S.apart p h))

  on-count : (p : ℕ) → p < M.size → count (map (on p) (bonds_of M)) ≡ length (neighbours M p)
  unfolding each
  on-count p h =
      omega (
        arith,
        bonds_of-count M (on p),
        sum-add M.size (λ a. cond (eqb a p) (count (each M.size (after p))) 0) (λ a. cond (before p a) 1 0) _ (λ a k. on_row p a h k),
        sum-pick M.size p (count (each M.size (after p))) h,
        count-sum (before p) (upto M.size),
        sides p h,
        length-neighbours M p,
      )

  joins-once : (p q : ℕ) → p < q → p < M.size → count (map (joins p q) (bonds_of M)) ≤ 1
  joins-once p q l h =
      omega (
        arith,
        bonds_of-count M (joins p q),
        sum-le M.size row (λ a. cond (eqb a p) 1 0) (λ a k. go a (ℕ_discrete a p)),
        sum-pick M.size p 1 h,
      )
    where
      row : ℕ → ℕ
      row a = count (each M.size (picked M (joins p q) a))

      passes : (a b : ℕ) → picked M (joins p q) a b ≡ true → (a ≡ p) × (b ≡ q)
      passes a b e = pick (joins-ends p q (bond M a b) w.1)
        where
          w : (ltb a b ≡ true) × (joins p q (bond M a b) ≡ true)
          w = and_both (ltb a b) (joins p q (bond M a b)) (and_both (bonded M a b) _ e).1

          pick : Between p q (bond M a b) → (a ≡ p) × (b ≡ q)
          pick (inl v) = v
          pick (inr v) = absurd (omega (arith, ltb-true a b w.0))

      go : (a : ℕ) → Dec (a ≡ p) → row a ≤ cond (eqb a p) 1 0
      go a (yes e) = rw (eq-eqb a p e) (count-only M.size q (picked M (joins p q) a) (λ b k f. (passes a b f).1))
      go a (no e) =
          omega (arith, count-le M.size (picked M (joins p q) a) (λ b. false) (λ b k f. absurd (e (passes a b f).0)), count_none M.size (λ b. false) (λ b k. refl))

  pub bonds_of-few : length (bonds_of M) ≤ 80
  bonds_of-few =
      omega (
        arith,
        sum-on M.size (bonds_of M) (λ b m. listed_ends M b (of_bonds_of M b m)),
        sum-eq M.size (λ p. count (map (on p) (bonds_of M))) (λ p. length (neighbours M p)) on-count,
        S.bonds,
      )

  pub bonds_of-fits : (k : ℕ) (z : Bond) → k < length (bonds_of M) → Fits M.size (take k (bonds_of M)) (get_or (bonds_of M) k z)
  bonds_of-fits k z h =
      record {
        ends = E;
        first = some-count (map (joins b.one b.two) (take k (bonds_of M))) ∙ ap (ltb 0) unjoined;
        some = let c : b.code ≢ 0 = L.coded in omega arith;
        known = omega (arith, L.is, S.codes b.one b.two E.0 E.1);
        room-one = room b.one E.0 (rw (eq-eqb b.one b.one refl));
        room-two = room b.two E.1 (rw (eq-eqb b.two b.two refl, or-true));
      }
    where
      b : Bond
      b = get_or (bonds_of M) k z

      L : Listed M b
      L = of_bonds_of M b (get_or-mem (bonds_of M) k z h)

      E : Ends M.size b
      E = listed_ends M b L

      unjoined : count (map (joins b.one b.two) (take k (bonds_of M))) ≡ 0
      unjoined =
          let here : joins b.one b.two b ≡ true = simp (eq-eqb b.one b.one refl, eq-eqb b.two b.two refl) in
          omega (arith, count-take (joins b.one b.two) (bonds_of M) k z h here, joins-once b.one b.two L.ascends E.0)

      room : (p : ℕ) → p < M.size → on p b ≡ true → count (map (on p) (take k (bonds_of M))) < 6
      room p l e = omega (arith, count-take (on p) (bonds_of M) k z h e, on-count p l, S.degrees p l)

-- The ranks written are those of the molecule, each once, and zeros that stand for H.
use mathlib.Core.Path.{◌≡◌, refl, sym, ap, ◌∙◌, subst}
use mathlib.Core.Bool.{Bool, true, false}
use mathlib.Core.List.{List, [], ◌∷◌, ◌++◌, map}
use Prim.Native.Nat.{ℕ, zero, suc, ◌<◌, ◌≤◌}
use native.Mathlib.Nat.{not-suc-le-zero}
use native.Mathlib.Omega.{arith}
use lib.ListN.{length, get_or}
use lib.Dec.{eqb}
use borrow.Author.Tests.{eq-eqb, ne_eqb, le-ltb, eqb-true}
use Rattle.lists.specs.Tests.{count}
use Rattle.lists.proofs.Booleans.{cond-le}
use Rattle.lists.proofs.All.{All, all_snoc, all_get_d}
use Rattle.lists.proofs.Passed.{count-snoc, count-take}
use Rattle.lists.proofs.Found.{find-some}
use Rattle.lists.proofs.Tested.{some-false_count}
use Rattle.sling.proofs.Tidy.{h_at}
use Rattle.molecule.specs.Molecule.{Molecule}
use Rattle.molecule.proofs.Sound.{Sound}
use Rattle.sling.specs.Walk.{kind_at, place_in, written}
use Rattle.sling.proofs.Places.{On}
use Rattle.sling.proofs.Strokes.{Keeps}
use Rattle.sling.proofs.Finished.{written_keeps}
use Rattle.sling.proofs.Followed.{kind-low, kind-at}

pub record Ranked (W : Molecule) (l : List ℕ) : Type 0 where
  pub once : (r : ℕ) → 0 < r → count (map (λ x. eqb x r) l) ≤ 1
  pub high : All (λ x. x ≤ W.size) l

count-absent : (l : List ℕ) (r : ℕ) → (On l r → ⊥) → count (map (λ x. eqb x r) l) ≡ 0
count-absent l r n =
    let far : length l ≤ place_in l r = omega arith in
    some-false_count (map (λ x. eqb x r) l) (sym (find-some (λ x. eqb x r) l) ∙ le-ltb _ _ far)

ranked-snoc : (W : Molecule) (l : List ℕ) (s : ℕ) → s ≤ W.size → (0 < s → On l s → ⊥) → Ranked W l → Ranked W (l ++ (s ∷ []))
ranked-snoc W l s h n t = record { once = λ r p. pick r p (eqb s r) refl; high = all_snoc (λ x. x ≤ W.size) l s t.high h }
  where
    pick : (r : ℕ) → 0 < r → (b : Bool) → eqb s r ≡ b → count (map (λ x. eqb x r) (l ++ (s ∷ []))) ≤ 1
    pick r p true e =
        let z : s ≡ r = eqb-true s r e in
        let c : count (map (λ x. eqb x r) l) ≡ 0 = subst (λ (k : ℕ). count (map (λ x. eqb x k) l) ≡ 0) z (count-absent l s (n (omega arith))) in
        omega (arith, count-snoc (λ x. eqb x r) l s, cond-le (eqb s r) true (λ f. refl))
    pick r p false e = let k = count-snoc (λ x. eqb x r) l s in let j = rw e at k in omega (arith, t.once r p)

ranked-keeps : (W : Molecule) → Keeps W (λ w. Ranked W w.ranks)
ranked-keeps W =
    record {
      hydrogen = λ r w q h t. ranked-snoc W w.ranks 0 (omega arith) (λ p. absurd (not-suc-le-zero p)) t;
      onward = λ r s w n h k t. ranked-snoc W w.ranks s n.two.high (λ p. k) t;
      back = λ r s w n h k u t. t;
    }

pub written-ranked : (W : Molecule) → 0 < W.size → Ranked W (written W).ranks
written-ranked W h =
    written_keeps W h (λ w. Ranked W w.ranks) (ranked-keeps W) (record { once = λ r p. omega (arith, cond-le (eqb 1 r) true (λ f. refl)); high = (h, tt) })

-- a rank stands where it is found
pub count-has : (l : List ℕ) (p : ℕ) → p < length l → 1 ≤ count (map (λ x. eqb x (get_or l p 0)) l)
count-has l p h = omega (arith, count-take (λ x. eqb x (get_or l p 0)) l p 0 h (eq-eqb (get_or l p 0) (get_or l p 0) refl))

pub place_at : (l : List ℕ) (p : ℕ) → ((r : ℕ) → 0 < r → count (map (λ x. eqb x r) l) ≤ 1) → p < length l → 0 < get_or l p 0 → place_in l (get_or l p 0) ≡ p
place_at [] p o h z = absurd (not-suc-le-zero h)
place_at (y ∷ l) zero o h z = simp (eq-eqb y y refl)
place_at (y ∷ l) (suc p) o h z = pick (eqb y (get_or l p 0)) refl (place_at l p (λ r q. omega (arith, o r q)) (omega arith) z)
  where
    pick : (b : Bool) → eqb y (get_or l p 0) ≡ b → place_in l (get_or l p 0) ≡ p → place_in (y ∷ l) (get_or l p 0) ≡ suc p
    pick true e f =
        absurd (let c = o (get_or l p 0) z in let d = simp e at c in let k : p < length l = omega arith in let m = count-has l p k in omega arith)
    pick false e f = simp e (ap suc f)

-- an H is a zero of the ranks
kind-zero : (W : Molecule) → Sound W → (x : ℕ) → x ≤ W.size → eqb (kind_at W x) 0 ≡ eqb x 0
kind-zero W S zero h = refl
kind-zero W S (suc a) h =
    ne_eqb (kind_at W (suc a)) 0 (λ e. omega (arith, kind-low W S (suc a) (record { low = omega arith; high = h }))) ∙ sym (ne_eqb (suc a) 0 (λ e. omega arith))

pub reader_zero : (W : Molecule) → Sound W → (l : List ℕ) → All (λ x. x ≤ W.size) l → (p : ℕ) → h_at (map (kind_at W) l) p ≡ h_at l p
reader_zero W S l h p = ap (λ (k : ℕ). eqb k 0) (kind-at W l p) ∙ kind-zero W S (get_or l p 0) (all_get_d (λ x. x ≤ W.size) l 0 h (omega arith) p)

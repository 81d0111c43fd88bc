-- The numbers below a bound that pass a test, in their order: which stands where.
use mathlib.Core.Bool.{Bool, true, false}
use mathlib.Core.List.{List, [], ◌∷◌, ◌++◌, append-nil}
use mathlib.Core.Path.{◌≡◌, refl, sym, ap, subst, ◌∙◌}
use Prim.Native.Nat.{ℕ, zero, suc, ◌≤◌, ◌<◌}
use native.Mathlib.Decide.{ℕ_discrete}
use native.Mathlib.Nat.{not-suc-le-zero}
use native.Mathlib.Omega.{arith}
use lib.ListN.{length, get_or, length-append, get_or-append}
use lib.Seq.{get_or-append_seam}
use Rattle.lists.specs.Upto.{from, upto, each}
use Rattle.lists.specs.Tests.{keep, count}
use Rattle.lists.proofs.Steps.{keep-next, count_next}
use Rattle.lists.proofs.Passed.{length-keep}

-- how many numbers below i pass, for one i and a later one
pub count-more : (p : ℕ → Bool) (i n : ℕ) → i ≤ n → count (each i p) ≤ count (each n p)
count-more p i zero h = let e : i ≡ 0 = omega arith in rw e (omega arith)
count-more p i (suc n) h = pick (ℕ_discrete i (suc n)) (count-more p i n)
  where
    pick : Dec (i ≡ suc n) → (i ≤ n → count (each i p) ≤ count (each n p)) → count (each i p) ≤ count (each (suc n) p)
    pick (yes e) ih = rw e (omega arith)
    pick (no e) ih = omega (arith, ih (omega arith), count_next n p)

-- the numbers below n that pass, by their order
module _ (p : ℕ → Bool) where
  abbrev pub kept : ℕ → List ℕ
  kept n = keep p (upto n)

  pub kept-count : (n : ℕ) → length (kept n) ≡ count (each n p)
  unfolding each
  kept-count n = length-keep p (upto n)

  pub kept-hit : (n : ℕ) → p n ≡ true → kept (suc n) ≡ kept n ++ (n ∷ [])
  kept-hit n e = keep-next n p ∙ rw e

  pub kept-miss : (n : ℕ) → p n ≡ false → kept (suc n) ≡ kept n
  kept-miss n e = keep-next n p ∙ rw e (append-nil (kept n))

  -- a number that passes stands where so many are before it
  pub kept_at : (n x : ℕ) → x < n → p x ≡ true → (length (kept x) < length (kept n)) × (get_or (kept n) (length (kept x)) 0 ≡ x)
  kept_at zero x h e = absurd (not-suc-le-zero h)
  kept_at (suc n) x h e = pick (p n) refl (ℕ_discrete x n) (kept_at n x)
    where
      pick : (b : Bool) → p n ≡ b → Dec (x ≡ n) → (x < n → p x ≡ true → (length (kept x) < length (kept n)) × (get_or (kept n) (length (kept x)) 0 ≡ x))
          → (length (kept x) < length (kept (suc n))) × (get_or (kept (suc n)) (length (kept x)) 0 ≡ x)
      pick true q (yes z) ih =
          rw (z, kept-hit n q) (omega (arith, length-append (kept n) (n ∷ [])), get_or-append_seam (kept n) n [] 0)
      pick true q (no z) ih =
          let w = ih (omega arith) e in
          rw (kept-hit n q) (omega (arith, w.0, length-append (kept n) (n ∷ [])), get_or-append (kept n) (n ∷ []) 0 (length (kept x)) w.0 ∙ w.1)
      pick false q (yes z) ih = absurd (let k : ◌≡◌ {A = Bool} true false = sym e ∙ ap p z ∙ q in let y : ◌≡◌ {A = ℕ} 0 1 = cc in omega arith)
      pick false q (no z) ih = rw (kept-miss n q) (ih (omega arith) e)

  pub record Kept (n a : ℕ) : Type 0 where
    pub below : get_or (kept n) a 0 < n
    pub passes : p (get_or (kept n) a 0) ≡ true
    pub order : length (kept (get_or (kept n) a 0)) ≡ a

  pub kept_of : (n a : ℕ) → a < length (kept n) → Kept n a
  unfolding keep from
  kept_of zero a h = absurd (not-suc-le-zero h)
  kept_of (suc n) a h = pick (p n) refl (kept_of n a)
    where
      go : (l : List ℕ) → l ≡ kept n ++ (n ∷ []) → p n ≡ true → Dec (a ≡ length (kept n)) → a < length l → (a < length (kept n) → Kept n a)
          → (get_or l a 0 < suc n) × (p (get_or l a 0) ≡ true) × (length (kept (get_or l a 0)) ≡ a)
      go l z q (yes y) k ih =
          let w : get_or l a 0 ≡ n = rw (z, y) (get_or-append_seam (kept n) n [] 0) in
          rw w (omega arith, q, sym y)
      go l z q (no y) k ih =
          let less : a < length (kept n) = let j = ap length z ∙ length-append (kept n) (n ∷ []) in omega arith in
          let w : get_or l a 0 ≡ get_or (kept n) a 0 = rw z (get_or-append (kept n) (n ∷ []) 0 a less) in
          let r = ih less in
          rw w (omega (arith, r.below), r.passes, r.order)

      pick : (b : Bool) → p n ≡ b → (a < length (kept n) → Kept n a) → Kept (suc n) a
      pick true q ih =
          let w = go (kept (suc n)) (kept-hit n q) q (ℕ_discrete a (length (kept n))) h ih in
          record { below = w.0; passes = w.1; order = w.2 }
      pick false q ih =
          let e = kept-miss n q in
          let r = ih (subst (λ (l : List ℕ). a < length l) e h) in
          record {
            below = rw e (omega (arith, r.below));
            passes = rw e r.passes;
            order = rw e r.order;
          }

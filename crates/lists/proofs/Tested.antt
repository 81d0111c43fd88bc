-- What `every` and `some` say of the elements that were tested, over the members of a list and over the numbers below n; and what `some` says of
-- how many passed.
use mathlib.Core.Path.{◌≡◌, refl, sym, ◌∙◌, ap}
use mathlib.Core.Bool.{Bool, true, false, cond, ◌&&◌, ◌||◌, or-false, true≢false}
use mathlib.Core.List.Memᴰ
use mathlib.Core.List.{List, [], ◌∷◌, ◌++◌, map, map-append, Memᴰ}
use mathlib.Core.Logic.{◌⊎◌, inl, inr}
use Prim.Native.Nat.{ℕ, ◌+◌, ◌<◌, ◌≤◌}
use native.Mathlib.Nat.{zero-add}
use native.Mathlib.Omega.{arith}
use borrow.Author.Tests.{lt-ltb, ltb-true, ltb-false}
use lib.Dec.{ltb}
use Rattle.lists.specs.Upto.{upto, each}
use Rattle.lists.specs.Tests.{count, every, some}
use Rattle.lists.proofs.Steps.{some-append}
use Rattle.lists.proofs.Upto.{mem_upto, of_upto}

module _ {A : Type 0} (p : A → Bool) where
  pub every_true : (l : List A) → every (map p l) ≡ true → (x : A) → Memᴰ x l → p x ≡ true
  unfolding every
  every_true [] e x d = absurd (Memᴰ.not-nil d)
  every_true (y ∷ l) e x d = go (p y) refl e (Memᴰ.cases_cons d) (every_true l)
    where
      go : (b : Bool) → p y ≡ b → (b && every (map p l)) ≡ true → (x ≡ y) ⊎ Memᴰ x l → (every (map p l) ≡ true → (x : A) → Memᴰ x l → p x ≡ true)
          → p x ≡ true
      go true q e (inl f) ih = ap p f ∙ q
      go true q e (inr d) ih = ih e x d
      go false q e s ih = cc

  pub every-false : (l : List A) → every (map p l) ≡ false → (x : A) × Memᴰ x l × (p x ≡ false)
  unfolding every
  every-false [] e = absurd (true≢false e)
  every-false (y ∷ l) e = go (p y) refl e (every-false l)
    where
      go : (b : Bool) → p y ≡ b → (b && every (map p l)) ≡ false → (every (map p l) ≡ false → (x : A) × Memᴰ x l × (p x ≡ false))
          → (x : A) × Memᴰ x (y ∷ l) × (p x ≡ false)
      go true q e ih = let w = ih e in (w.0, Memᴰ.tail w.1, w.2)
      go false q e ih = (y, Memᴰ.head refl, q)

  pub every-pass : (l : List A) → ((x : A) → Memᴰ x l → p x ≡ true) → every (map p l) ≡ true
  unfolding every
  every-pass [] h = refl
  every-pass (y ∷ l) h = rw (h y (Memᴰ.head refl)) (every-pass l (λ x d. h x (Memᴰ.tail d)))

  pub some-true : (l : List A) → some (map p l) ≡ true → (x : A) × Memᴰ x l × (p x ≡ true)
  unfolding some
  some-true [] e = absurd (true≢false (sym e))
  some-true (y ∷ l) e = go (p y) refl e (some-true l)
    where
      go : (b : Bool) → p y ≡ b → (b || some (map p l)) ≡ true → (some (map p l) ≡ true → (x : A) × Memᴰ x l × (p x ≡ true))
          → (x : A) × Memᴰ x (y ∷ l) × (p x ≡ true)
      go true q e ih = (y, Memᴰ.head refl, q)
      go false q e ih = let w = ih e in (w.0, Memᴰ.tail w.1, w.2)

  pub some-pass : (l : List A) (x : A) → Memᴰ x l → p x ≡ true → some (map p l) ≡ true
  unfolding some
  some-pass [] x d e = absurd (Memᴰ.not-nil d)
  some-pass (y ∷ l) x d e = go (p y) refl (Memᴰ.cases_cons d) (some-pass l x)
    where
      go : (b : Bool) → p y ≡ b → (x ≡ y) ⊎ Memᴰ x l → (Memᴰ x l → p x ≡ true → some (map p l) ≡ true) → (b || some (map p l)) ≡ true
      go true q s ih = refl
      go false q (inl f) ih = cc
      go false q (inr d) ih = ih d e

module _ (n : ℕ) (p : ℕ → Bool) where
  pub every-true_below : every (each n p) ≡ true → (a : ℕ) → a < n → p a ≡ true
  unfolding each
  every-true_below e a h = every_true p (upto n) e a (mem_upto n a h)

  pub every-false_below : every (each n p) ≡ false → (a : ℕ) × (a < n) × (p a ≡ false)
  unfolding each
  every-false_below e = let w = every-false p (upto n) e in (w.0, of_upto n w.0 w.1, w.2)

  pub every-pass_below : ((a : ℕ) → a < n → p a ≡ true) → every (each n p) ≡ true
  unfolding each
  every-pass_below h = every-pass p (upto n) (λ a d. h a (of_upto n a d))

  pub some-false_below : some (each n p) ≡ false → (a : ℕ) → a < n → p a ≡ false
  unfolding each
  some-false_below e a h = go (p a) refl
    where
      go : (b : Bool) → p a ≡ b → b ≡ false
      go true f = absurd (true≢false (sym (some-pass p (upto n) a (mem_upto n a h) f) ∙ e))
      go false f = refl

-- one passes exactly if not none is counted
pub some-count : (l : List Bool) → some l ≡ ltb 0 (count l)
unfolding some
some-count [] = refl
some-count (true ∷ l) = sym (lt-ltb 0 (1 + count l) (omega arith))
some-count (false ∷ l) = some-count l ∙ ap (ltb 0) (sym (zero-add (count l)))

pub some-true_count : (l : List Bool) → some l ≡ true → 0 < count l
some-true_count l e = ltb-true 0 _ (sym (some-count l) ∙ e)

pub some-false_count : (l : List Bool) → some l ≡ false → count l ≡ 0
some-false_count l e = let h : count l ≤ 0 = ltb-false 0 _ (sym (some-count l) ∙ e) in omega arith

-- at most one passes
pub some_one : (l : List Bool) → count l ≤ 1 → cond {A = ℕ} (some l) 1 0 ≡ count l
some_one l h = go (some l) refl
  where
    go : (b : Bool) → some l ≡ b → cond {A = ℕ} b 1 0 ≡ count l
    go true e = omega (arith, some-true_count l e)
    go false e = sym (some-false_count l e)

-- one element more at the end
pub some-snoc : {A : Type 0} (p : A → Bool) (l : List A) (x : A) → some (map p (l ++ (x ∷ []))) ≡ (some (map p l) || p x)
unfolding some
some-snoc p l x = ap some (map-append p l (x ∷ [])) ∙ some-append (map p l) (p x ∷ []) ∙ ap (λ (b : Bool). some (map p l) || b) (or-false (p x))

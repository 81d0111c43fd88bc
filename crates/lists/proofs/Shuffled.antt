-- The numbers below a bound, shuffled, are the same numbers in another order: they are as many, none of them twice, and all below the bound.
-- So what a shuffle carries along is listed in another order, and every number below the bound is taken.
use mathlib.Core.Path.{◌≡◌, refl, sym, ◌∙◌, ap}
use mathlib.Core.Bool.{Bool}
use mathlib.Core.List.Memᴰ
use mathlib.Core.List.Permᴰ
use mathlib.Core.List.{List, [], ◌∷◌, map, head_d, map-map, Permᴰ, Memᴰ}
use mathlib.Core.Logic.{◌⊎◌, inl, inr}
use Prim.Native.Nat.{ℕ, zero, suc, ◌+◌, ◌<◌}
use native.Mathlib.Omega.{arith}
use lib.Dec.{eqb}
use lib.ListN.{length, length-map}
use borrow.Author.Tests.{eq-eqb, eqb-true}
use Rattle.lists.specs.Upto.{from, upto, each}
use Rattle.lists.specs.Tests.{keep}
use Rattle.lists.specs.Shuffle.{Shuffle}
use Rattle.lists.proofs.Permutation.{perm_of_eq, length-perm, keep-perm, mem_perm}
use Rattle.lists.proofs.Upto.{each-eq, mem_upto, of_upto, of_from}
use Rattle.lists.proofs.Members.{map-eq}
use Rattle.lists.proofs.Kept.{keep-map, keep-eq, of_keep, first-kept}

abbrev pub Distinct : List ℕ → Type 0
Distinct [] = Unit
Distinct (x ∷ l) = ((y : ℕ) → Memᴰ y l → y ≡ x → ⊥) × Distinct l

-- a list with one element taken out
remove : (x : ℕ) (l : List ℕ) → Memᴰ x l → (r : List ℕ) × Permᴰ l (x ∷ r) × ((y : ℕ) → Memᴰ y l → (y ≡ x → ⊥) → Memᴰ y r)
remove x l (Memᴰ.head {x = z} {xs = r} e) = (r, Permᴰ.cons (sym e) (Permᴰ.refl r), λ y m ne. go y ne (Memᴰ.cases_cons m))
  where
    go : (y : ℕ) → (y ≡ x → ⊥) → (y ≡ z) ⊎ Memᴰ y r → Memᴰ y r
    go y ne (inl f) = absurd (ne (f ∙ sym e))
    go y ne (inr m) = m
remove x l (Memᴰ.tail {x = z} {xs = r} m) = go (remove x r m)
  where
    go : (s : List ℕ) × Permᴰ r (x ∷ s) × ((y : ℕ) → Memᴰ y r → (y ≡ x → ⊥) → Memᴰ y s)
        → (s : List ℕ) × Permᴰ (z ∷ r) (x ∷ s) × ((y : ℕ) → Memᴰ y (z ∷ r) → (y ≡ x → ⊥) → Memᴰ y s)
    go w = (z ∷ w.0, Permᴰ.trans (Permᴰ.cons refl w.1) (Permᴰ.swap refl refl), λ y k ne. still y ne (Memᴰ.cases_cons k))
      where
        still : (y : ℕ) → (y ≡ x → ⊥) → (y ≡ z) ⊎ Memᴰ y r → Memᴰ y (z ∷ w.0)
        still y ne (inl f) = Memᴰ.head f
        still y ne (inr k) = Memᴰ.tail (w.2 y k ne)

-- as many elements, none twice, all from l: it is l in another order
pub pigeon : (xs l : List ℕ) → Distinct xs → ((x : ℕ) → Memᴰ x xs → Memᴰ x l) → length l ≡ length xs → Permᴰ l xs
pigeon [] [] d h e = Permᴰ.nil
pigeon [] (y ∷ l) d h e = absurd (omega arith)
pigeon (x ∷ xs) l d h e =
    let w = remove x l (h x (Memᴰ.head refl)) in
    let g : length l ≡ suc (length w.0) = length-perm w.1 in
    Permᴰ.trans w.1 (Permᴰ.cons refl (pigeon xs w.0 d.1 (λ y m. w.2 y (h y (Memᴰ.tail m)) (d.0 y m)) (omega arith)))

from-distinct : (σ : ℕ → ℕ) (k n : ℕ) → ((a b : ℕ) → a < k + n → b < k + n → σ a ≡ σ b → a ≡ b) → Distinct (map σ (from k n))
unfolding from
from-distinct σ k zero h = tt
from-distinct σ k (suc n) h = (λ y m e. clash y e (Memᴰ.of_map σ (from (suc k) n) m), from-distinct σ (suc k) n (λ a b p q. h a b (omega arith) (omega arith)))
  where
    clash : (y : ℕ) → y ≡ σ k → (a : ℕ) × Memᴰ a (from (suc k) n) × (σ a ≡ y) → ⊥
    clash y e w =
        let l = of_from (suc k) n w.0 w.1 in
        let s : w.0 ≡ k = h w.0 k (omega arith) (omega arith) (w.2 ∙ e) in
        omega arith

-- the number below n of which f is b
unfoldable pub undo : (ℕ → ℕ) → ℕ → ℕ → ℕ
undo f n b = head_d (keep (λ a. eqb (f a) b) (upto n)) 0

pub undo_at : (f : ℕ → ℕ) (n : ℕ) → ((a b : ℕ) → a < n → b < n → f a ≡ f b → a ≡ b) → (a : ℕ) → a < n → undo f n (f a) ≡ a
unfolding undo
undo_at f n apart a h =
    let w = first-kept (λ b. eqb (f b) (f a)) (upto n) 0 a (mem_upto n a h) (eq-eqb (f a) (f a) refl) in
    apart _ a (of_upto n _ w.0) h (eqb-true _ (f a) w.1)

module _ {σ : ℕ → ℕ} {n : ℕ} (S : Shuffle σ n) where
  pub shuffle-perm : Permᴰ (upto n) (map σ (upto n))
  shuffle-perm =
      pigeon (map σ (upto n)) (upto n)
      (from-distinct σ 0 n (λ a b p q e. S.apart a b (omega arith) (omega arith) e))
      inside
      (sym (length-map (upto n) σ))
    where
      inside : (x : ℕ) → Memᴰ x (map σ (upto n)) → Memᴰ x (upto n)
      inside x m =
          let w = Memᴰ.of_map σ (upto n) m in
          let s = S.within w.0 (of_upto n w.0 w.1) in
          mem_upto n x (omega (arith, w.2))

  -- every number below n is taken
  pub shuffle-onto : (b : ℕ) → b < n → (a : ℕ) × (a < n) × (σ a ≡ b)
  shuffle-onto b h =
      let w = Memᴰ.of_map σ (upto n) (mem_perm shuffle-perm (mem_upto n b h)) in
      (w.0, of_upto n w.0 w.1, w.2)

  pub undo_shuffle : (a : ℕ) → a < n → undo σ n (σ a) ≡ a
  undo_shuffle = undo_at σ n S.apart

  pub shuffle-undo : (b : ℕ) → b < n → σ (undo σ n b) ≡ b
  shuffle-undo b h =
      let w = shuffle-onto b h in
      ap (λ c. σ (undo σ n c)) (sym w.2) ∙ ap σ (undo_shuffle w.0 w.1) ∙ w.2

  pub undone : Shuffle (undo σ n) n
  undone = record {
    within = λ b h. let w = shuffle-onto b h in omega (arith, w.1, ap (undo σ n) w.2, undo_shuffle w.0 w.1);
    apart = λ a b h k e. sym (shuffle-undo a h) ∙ ap σ e ∙ shuffle-undo b k;
  }

  -- what is carried along by the shuffle is listed in another order
  pub each-perm : {A : Type 0} (f f' : ℕ → A) → ((a : ℕ) → a < n → f' (σ a) ≡ f a) → Permᴰ (each n f') (each n f)
  unfolding each
  each-perm f f' h =
      Permᴰ.trans (Permᴰ.map f' shuffle-perm)
      (perm_of_eq (map-map f' σ (upto n) ∙ each-eq n (λ a. f' (σ a)) f h))

  -- the numbers that pass a test, if the test is carried along
  pub keep-shuffle : (p p' : ℕ → Bool) → ((a : ℕ) → a < n → p' (σ a) ≡ p a) → Permᴰ (keep p' (upto n)) (map σ (keep p (upto n)))
  keep-shuffle p p' h =
      Permᴰ.trans (keep-perm p' shuffle-perm)
      (perm_of_eq (keep-map p' σ (upto n) ∙ ap (map σ) (keep-eq (upto n) (λ a. p' (σ a)) p (λ a m. h a (of_upto n a m)))))

  -- and something of each, if it is carried along as well
  pub keep-each_perm : {A : Type 0} (f f' : ℕ → A) (p p' : ℕ → Bool) → ((a : ℕ) → a < n → p' (σ a) ≡ p a) → ((a : ℕ) → a < n → f' (σ a) ≡ f a)
      → Permᴰ (map f' (keep p' (upto n))) (map f (keep p (upto n)))
  keep-each_perm f f' p p' h g =
      Permᴰ.trans (Permᴰ.map f' (keep-shuffle p p' h))
      (perm_of_eq (map-map f' σ (keep p (upto n)) ∙ map-eq (keep p (upto n)) (λ a. f' (σ a)) f (λ a m. g a (of_upto n a (of_keep p (upto n) a m).0))))

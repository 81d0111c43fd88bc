-- Sums of something of each element of a list, and so of each number below n; and counting as a sum of 0 and 1, so that pairs are counted
-- by their first parts or by their second.
use mathlib.Core.Path.{◌≡◌, refl, sym, ap, ◌∙◌}
use mathlib.Core.Bool.{Bool, true, false, cond}
use mathlib.Core.List.{List, [], ◌∷◌, map, Memᴰ}
use Prim.Native.Nat.{ℕ, zero, suc, ◌+◌, ◌*◌, ◌≤◌, ◌<◌}
use native.Mathlib.Decide.{ℕ_discrete}
use native.Mathlib.Omega.{arith}
use borrow.Author.Tests.{eq-eqb, ne_eqb}
use lib.Dec.{eqb}
use lib.ListN.{length}
use Rattle.lists.specs.Upto.{upto, each, sum}
use Rattle.lists.specs.Tests.{keep, count}
use Rattle.lists.proofs.Upto.{each-eq, length-upto, of_upto}
use Rattle.lists.proofs.Steps.{sum-next}

pub sum-map_add : {A : Type 0} (l : List A) (f g h : A → ℕ) → ((x : A) → Memᴰ x l → h x ≡ f x + g x) → sum (map h l) ≡ sum (map f l) + sum (map g l)
unfolding sum
sum-map_add [] f g h e = refl
sum-map_add (x ∷ l) f g h e = omega (arith, e x (Memᴰ.head refl), sum-map_add l f g h (λ y m. e y (Memᴰ.tail m)))

sum-map_le : {A : Type 0} (l : List A) (f g : A → ℕ) → ((x : A) → Memᴰ x l → f x ≤ g x) → sum (map f l) ≤ sum (map g l)
unfolding sum
sum-map_le [] f g h = omega arith
sum-map_le (x ∷ l) f g h = omega (arith, h x (Memᴰ.head refl), sum-map_le l f g (λ y m. h y (Memᴰ.tail m)))

pub sum-map_const : {A : Type 0} (l : List A) (c : ℕ) → sum (map (λ x. c) l) ≡ length l * c
unfolding sum
sum-map_const [] c = omega arith
sum-map_const (x ∷ l) c = omega (arith, sum-map_const l c)

-- those of a list that pass come to no more than the whole list
pub sum-keep_le : {A : Type 0} (f : A → ℕ) (p : A → Bool) (l : List A) → sum (map f (keep p l)) ≤ sum (map f l)
unfolding keep sum
sum-keep_le f p [] = omega arith
sum-keep_le f p (x ∷ l) = go (p x) (sum-keep_le f p l)
  where
    go : (b : Bool) → sum (map f (keep p l)) ≤ sum (map f l) → sum (map f (cond b (x ∷ keep p l) (keep p l))) ≤ f x + sum (map f l)
    go true ih = omega arith
    go false ih = omega arith

pub sum-eq : (n : ℕ) (f g : ℕ → ℕ) → ((a : ℕ) → a < n → f a ≡ g a) → sum (each n f) ≡ sum (each n g)
sum-eq n f g h = ap sum (each-eq n f g h)

pub sum-add : (n : ℕ) (f g h : ℕ → ℕ) → ((a : ℕ) → a < n → h a ≡ f a + g a) → sum (each n h) ≡ sum (each n f) + sum (each n g)
unfolding each
sum-add n f g h e = sum-map_add (upto n) f g h (λ a m. e a (of_upto n a m))

pub sum-le : (n : ℕ) (f g : ℕ → ℕ) → ((a : ℕ) → a < n → f a ≤ g a) → sum (each n f) ≤ sum (each n g)
unfolding each
sum-le n f g h = sum-map_le (upto n) f g (λ a m. h a (of_upto n a m))

pub sum-const : (n c : ℕ) → sum (each n (λ a. c)) ≡ n * c
unfolding each
sum-const n c = sum-map_const (upto n) c ∙ ap (λ k. k * c) (length-upto n)

-- nowhere more, and at x less
pub sum_lt : (n : ℕ) (f g : ℕ → ℕ) → ((a : ℕ) → a < n → f a ≤ g a) → (x : ℕ) → x < n → f x < g x → sum (each n f) < sum (each n g)
sum_lt zero f g h x l s = absurd (omega arith)
sum_lt (suc n) f g h x l s = go (ℕ_discrete x n) (sum_lt n f g (λ a k. h a (omega arith)) x)
  where
    go : Dec (x ≡ n) → (x < n → f x < g x → sum (each n f) < sum (each n g)) → sum (each (suc n) f) < sum (each (suc n) g)
    go (yes e) ih =
        let t : f n < g n = rw e at s in
        omega (arith, sum-next n f, sum-next n g, sum-le n f g (λ a k. h a (omega arith)))
    go (no e) ih = omega (arith, sum-next n f, sum-next n g, h n (omega arith), ih (omega arith) s)

-- only p adds something
pub sum-pick : (n p c : ℕ) → p < n → sum (each n (λ a. cond (eqb a p) c 0)) ≡ c
sum-pick zero p c h = absurd (omega arith)
sum-pick (suc n) p c h = sum-next n (λ a. cond (eqb a p) c 0) ∙ go (ℕ_discrete n p) (sum-pick n p c)
  where
    go : Dec (n ≡ p) → (p < n → sum (each n (λ a. cond (eqb a p) c 0)) ≡ c) → sum (each n (λ a. cond (eqb a p) c 0)) + cond (eqb n p) c 0 ≡ c
    go (yes e) ih =
        rw (eq-eqb n p e)
        (omega (arith, sum-eq n (λ a. cond (eqb a p) c 0) (λ a. 0) (λ a l. rw (ne_eqb a p (λ f. omega arith))), sum-const n 0))
    go (no e) ih = rw (ne_eqb n p e) (omega (arith, ih (omega arith)))

pub count-sum : {A : Type 0} (p : A → Bool) (l : List A) → count (map p l) ≡ sum (map (λ x. cond (p x) 1 0) l)
unfolding sum
count-sum p [] = refl
count-sum p (x ∷ l) = ap (λ k. cond (p x) 1 0 + k) (count-sum p l)

pub sum-swap : {A B : Type 0} (r : A → B → Bool) (l : List A) (m : List B)
    → sum (map (λ x. count (map (r x) m)) l) ≡ sum (map (λ y. count (map (λ x. r x y) l)) m)
unfolding sum
sum-swap r [] m = sym (sum-map_const m 0 ∙ omega arith)
sum-swap r (x ∷ l) m =
    omega (
      arith,
      count-sum (r x) m,
      sum-swap r l m,
      sum-map_add m (λ y. cond (r x y) 1 0) (λ y. count (map (λ z. r z y) l)) (λ y. count (map (λ z. r z y) (x ∷ l))) (λ y k. refl),
    )

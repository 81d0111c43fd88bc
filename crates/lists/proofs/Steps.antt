-- What a loop over 0, 1, .. adds at each turn: the numbers below suc n are those below n and then n, and every fold of two lists, one after the
-- other, is put together from the folds of the two.
use mathlib.Core.Path.{◌≡◌, refl, sym, ◌∙◌, ap}
use mathlib.Core.Bool.{Bool, true, false, cond, ◌&&◌, ◌||◌, and-true, or-false}
use mathlib.Core.List.{List, [], ◌∷◌, ◌++◌, map, flatten, map-append, append_assoc, append-nil}
use Prim.Native.Nat.{ℕ, zero, suc, ◌+◌, Ordering}
use native.Mathlib.Omega.{arith}
use native.Mathlib.Nat.{zero-add, add-zero}
use Rattle.lists.specs.Upto.{from, upto, each, sum}
use Rattle.lists.specs.Tests.{keep, count, every, some}
use Rattle.lists.specs.Order.{insert, sort}
use Rattle.lists.proofs.Order.{Order, insert_comm}

from_next : (k n : ℕ) → from k (suc n) ≡ from k n ++ ((k + n) ∷ [])
unfolding from
from_next k zero = ap (λ x. x ∷ []) (omega arith)
from_next k (suc n) = ap (λ l. k ∷ l) (from_next (suc k) n ∙ ap (λ x. from (suc k) n ++ (x ∷ [])) (omega arith))

pub upto_next : (n : ℕ) → upto (suc n) ≡ upto n ++ (n ∷ [])
upto_next n = from_next 0 n ∙ ap (λ x. upto n ++ (x ∷ [])) (zero-add n)

pub each-zero : {A : Type 0} (f : ℕ → A) → each 0 f ≡ []
unfolding each from
each-zero f = refl

pub each_next : {A : Type 0} (n : ℕ) (f : ℕ → A) → each (suc n) f ≡ each n f ++ (f n ∷ [])
unfolding each
each_next n f = ap (map f) (upto_next n) ∙ map-append f (upto n) (n ∷ [])

pub count-append : (l l' : List Bool) → count (l ++ l') ≡ count l + count l'
count-append [] l' = sym (zero-add (count l'))
count-append (b ∷ l) l' = omega (arith, count-append l l')

pub count_next : (n : ℕ) (p : ℕ → Bool) → count (each (suc n) p) ≡ count (each n p) + cond (p n) 1 0
count_next n p = ap count (each_next n p) ∙ count-append (each n p) (p n ∷ []) ∙ omega arith

pub every_append : (l l' : List Bool) → every (l ++ l') ≡ (every l && every l')
unfolding every
every_append [] l' = refl
every_append (true ∷ l) l' = every_append l l'
every_append (false ∷ l) l' = refl

pub every-next : (n : ℕ) (p : ℕ → Bool) → every (each (suc n) p) ≡ (every (each n p) && p n)
unfolding every
every-next n p = ap every (each_next n p) ∙ every_append (each n p) (p n ∷ []) ∙ rw and-true

pub some-append : (l l' : List Bool) → some (l ++ l') ≡ (some l || some l')
unfolding some
some-append [] l' = refl
some-append (true ∷ l) l' = refl
some-append (false ∷ l) l' = some-append l l'

pub some_next : (n : ℕ) (p : ℕ → Bool) → some (each (suc n) p) ≡ (some (each n p) || p n)
unfolding some
some_next n p = ap some (each_next n p) ∙ some-append (each n p) (p n ∷ []) ∙ rw or-false

pub sum-append : (l l' : List ℕ) → sum (l ++ l') ≡ sum l + sum l'
unfolding sum
sum-append [] l' = sym (zero-add (sum l'))
sum-append (x ∷ l) l' = omega (arith, sum-append l l')

pub sum-next : (n : ℕ) (f : ℕ → ℕ) → sum (each (suc n) f) ≡ sum (each n f) + f n
unfolding sum
sum-next n f = ap sum (each_next n f) ∙ sum-append (each n f) (f n ∷ []) ∙ omega arith

pub flatten_append : {A : Type 0} (ls ls' : List (List A)) → flatten (ls ++ ls') ≡ flatten ls ++ flatten ls'
unfolding flatten
flatten_append [] ls' = refl
flatten_append (l ∷ ls) ls' = ap (λ x. l ++ x) (flatten_append ls ls') ∙ sym (append_assoc l (flatten ls) (flatten ls'))

pub flatten_next : {A : Type 0} (n : ℕ) (f : ℕ → List A) → flatten (each (suc n) f) ≡ flatten (each n f) ++ f n
unfolding flatten
flatten_next n f = ap flatten (each_next n f) ∙ flatten_append (each n f) (f n ∷ []) ∙ ap (λ x. flatten (each n f) ++ x) (append-nil (f n))

pub keep_append : {A : Type 0} (p : A → Bool) (l l' : List A) → keep p (l ++ l') ≡ keep p l ++ keep p l'
unfolding keep
keep_append p [] l' = refl
keep_append p (x ∷ l) l' = go (p x) (keep_append p l l')
  where
    go : (b : Bool) → keep p (l ++ l') ≡ keep p l ++ keep p l' → cond b (x ∷ keep p (l ++ l')) (keep p (l ++ l')) ≡ cond b (x ∷ keep p l) (keep p l) ++ keep p l'
    go true ih = ap (λ r. x ∷ r) ih
    go false ih = ih

pub keep-next : (n : ℕ) (p : ℕ → Bool) → keep p (upto (suc n)) ≡ keep p (upto n) ++ cond (p n) (n ∷ []) []
unfolding keep
keep-next n p = ap (keep p) (upto_next n) ∙ keep_append p (upto n) (n ∷ [])

-- something of each number that passes
map-keep_next : {A : Type 0} (n : ℕ) (p : ℕ → Bool) (f : ℕ → A) → map f (keep p (upto (suc n))) ≡ map f (keep p (upto n)) ++ map f (cond (p n) (n ∷ []) [])
map-keep_next n p f = ap (map f) (keep-next n p) ∙ map-append f (keep p (upto n)) (cond (p n) (n ∷ []) [])

pub flatten_keep_next : {A : Type 0} (n : ℕ) (p : ℕ → Bool) (f : ℕ → List A)
    → flatten (map f (keep p (upto (suc n)))) ≡ flatten (map f (keep p (upto n))) ++ cond (p n) (f n) []
unfolding flatten
flatten_keep_next n p f =
    ap flatten (map-keep_next n p f) ∙ flatten_append (map f (keep p (upto n))) (map f (cond (p n) (n ∷ []) []))
    ∙ ap (λ x. flatten (map f (keep p (upto n))) ++ x) (go (p n))
  where
    go : (b : Bool) → flatten (map f (cond b (n ∷ []) [])) ≡ cond b (f n) []
    go true = append-nil (f n)
    go false = refl

pub sum-keep_next : (n : ℕ) (p : ℕ → Bool) (f : ℕ → ℕ) → sum (map f (keep p (upto (suc n)))) ≡ sum (map f (keep p (upto n))) + cond (p n) (f n) 0
unfolding sum
sum-keep_next n p f =
    ap sum (map-keep_next n p f) ∙ sum-append (map f (keep p (upto n))) (map f (cond (p n) (n ∷ []) []))
    ∙ ap (λ x. sum (map f (keep p (upto n))) + x) (go (p n))
  where
    go : (b : Bool) → sum (map f (cond b (n ∷ []) [])) ≡ cond b (f n) 0
    go true = add-zero (f n)
    go false = refl

pub sort-last : {A : Type 0} {c : A → A → Ordering} → Order c → (l : List A) (x : A) → sort c (l ++ (x ∷ [])) ≡ insert c x (sort c l)
unfolding sort
sort-last O [] x = refl
sort-last {c = c} O (y ∷ l) x = ap (insert c y) (sort-last O l x) ∙ insert_comm O y x (sort c l)

pub sort-next : {A : Type 0} {c : A → A → Ordering} → Order c → (n : ℕ) (f : ℕ → A) → sort c (each (suc n) f) ≡ insert c (f n) (sort c (each n f))
sort-next {c = c} O n f = ap (sort c) (each_next n f) ∙ sort-last O (each n f) (f n)

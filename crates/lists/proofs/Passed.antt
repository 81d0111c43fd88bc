-- How many of a list pass a test: told from how many pass another, and from the parts of the list.
use mathlib.Core.Path.{◌≡◌, refl, ap, ◌∙◌, subst}
use mathlib.Core.Bool.{Bool, true, false, cond, not, ◌&&◌}
use mathlib.Core.List.{List, [], ◌∷◌, ◌++◌, map, map-append, Memᴰ}
use Prim.Native.Nat.{ℕ, zero, suc, ◌+◌, ◌<◌, ◌≤◌}
use native.Mathlib.Nat.{zero-add, not-suc-le-zero}
use native.Mathlib.Omega.{arith}
use lib.ListN.{length, get_or, take}
use lib.Seq.{take-suc, take-length}
use Rattle.lists.specs.Tests.{keep, count}
use Rattle.lists.proofs.Booleans.{cond-le}
use Rattle.lists.proofs.Steps.{count-append}

pub count-map_none : {A : Type 0} (l : List A) (p : A → Bool) → ((x : A) → Memᴰ x l → p x ≡ false) → count (map p l) ≡ 0
count-map_none [] p h = refl
count-map_none (x ∷ l) p h = rw (h x (Memᴰ.head refl)) (zero-add _ ∙ count-map_none l p (λ y m. h y (Memᴰ.tail m)))

-- what passes p passes q
pub count-map_le : {A : Type 0} (l : List A) (p q : A → Bool) → ((x : A) → Memᴰ x l → p x ≡ true → q x ≡ true) → count (map p l) ≤ count (map q l)
count-map_le [] p q h = omega arith
count-map_le (x ∷ l) p q h = omega (arith, cond-le (p x) (q x) (h x (Memᴰ.head refl)), count-map_le l p q (λ y m. h y (Memᴰ.tail m)))

-- what passes p or q passes r, and nothing passes both
pub count-map_apart : {A : Type 0} (l : List A) (p q r : A → Bool) → ((x : A) → Memᴰ x l → p x ≡ true → (r x ≡ true) × (q x ≡ false))
    → ((x : A) → Memᴰ x l → q x ≡ true → r x ≡ true) → count (map p l) + count (map q l) ≤ count (map r l)
count-map_apart [] p q r h k = omega arith
count-map_apart (x ∷ l) p q r h k =
    omega (
      arith,
      go (p x) (q x) (r x) (h x (Memᴰ.head refl)) (k x (Memᴰ.head refl)),
      count-map_apart l p q r (λ y m. h y (Memᴰ.tail m)) (λ y m. k y (Memᴰ.tail m)),
    )
  where
    go : (s t u : Bool) → (s ≡ true → (u ≡ true) × (t ≡ false)) → (t ≡ true → u ≡ true) → cond {A = ℕ} s 1 0 + cond t 1 0 ≤ cond u 1 0
    go true t u h k = rw ((h refl).0, (h refl).1) (omega arith)
    go false t u h k = omega (arith, cond-le t u k)

pub count-not : {A : Type 0} (p : A → Bool) (l : List A) → count (map p l) + count (map (λ x. not (p x)) l) ≡ length l
count-not p [] = refl
count-not p (x ∷ l) = go (p x) (count-not p l)
  where
    go : (b : Bool) → count (map p l) + count (map (λ y. not (p y)) l) ≡ length l
        → (cond b 1 0 + count (map p l)) + (cond (not b) 1 0 + count (map (λ y. not (p y)) l)) ≡ suc (length l)
    go true ih = omega arith
    go false ih = omega arith

pub count-keep : {A : Type 0} (p q : A → Bool) (l : List A) → count (map q (keep p l)) ≡ count (map (λ x. p x && q x) l)
unfolding keep
count-keep p q [] = refl
count-keep p q (x ∷ l) = go (p x) (count-keep p q l)
  where
    go : (b : Bool) → count (map q (keep p l)) ≡ count (map (λ y. p y && q y) l)
        → count (map q (cond b (x ∷ keep p l) (keep p l))) ≡ cond (b && q x) 1 0 + count (map (λ y. p y && q y) l)
    go true ih = omega arith
    go false ih = omega arith

pub length-keep : {A : Type 0} (p : A → Bool) (l : List A) → length (keep p l) ≡ count (map p l)
unfolding keep
length-keep p [] = refl
length-keep p (x ∷ l) = go (p x) (length-keep p l)
  where
    go : (b : Bool) → length (keep p l) ≡ count (map p l) → length (cond b (x ∷ keep p l) (keep p l)) ≡ cond b 1 0 + count (map p l)
    go true ih = omega arith
    go false ih = omega arith

-- one element more at the end
pub count-snoc : {A : Type 0} (p : A → Bool) (l : List A) (x : A) → count (map p (l ++ (x ∷ []))) ≡ count (map p l) + cond (p x) 1 0
count-snoc p l x = ap count (map-append p l (x ∷ [])) ∙ count-append (map p l) (p x ∷ []) ∙ omega arith

-- what passes at i is counted after those before it
pub count-take : {A : Type 0} (p : A → Bool) (l : List A) (i : ℕ) (d : A) → i < length l → p (get_or l i d) ≡ true → count (map p (take i l)) < count (map p l)
count-take p [] i d h e = absurd (not-suc-le-zero h)
count-take p (x ∷ l) zero d h e = rw e (omega arith)
count-take p (x ∷ l) (suc i) d h e = omega (arith, count-take p l i d (omega arith) e)

-- where fewer than m pass before each that passes, at most m do
pub count-bounded : {A : Type 0} (p : A → Bool) (l : List A) (z : A) (m : ℕ)
    → ((k : ℕ) → k < length l → p (get_or l k z) ≡ true → count (map p (take k l)) < m) → count (map p l) ≤ m
count-bounded p l z m h = subst (λ r. count (map p r) ≤ m) (take-length l) (up_to (length l) (omega arith))
  where
    up_to : (k : ℕ) → k ≤ length l → count (map p (take k l)) ≤ m
    up_to zero b = omega arith
    up_to (suc k) b = pick (p (get_or l k z)) refl (up_to k (omega arith))
      where
        more : count (map p (take (suc k) l)) ≡ count (map p (take k l)) + cond (p (get_or l k z)) 1 0
        more = ap (λ r. count (map p r)) (take-suc l k z b) ∙ count-snoc p (take k l) (get_or l k z)

        pick : (s : Bool) → p (get_or l k z) ≡ s → count (map p (take k l)) ≤ m → count (map p (take (suc k) l)) ≤ m
        pick true e i = rw (more, e) (omega (arith, h k b e))
        pick false e i = rw (more, e) (omega arith)

-- What is kept of a list by a test: what is in it, and what it is for a list of something of each element, for another test and in another order.
use mathlib.Core.Path.{◌≡◌, refl, sym, ◌∙◌, ap}
use mathlib.Core.Bool.{Bool, true, false, cond, true≢false}
use mathlib.Core.List.Memᴰ
use mathlib.Core.List.Permᴰ
use mathlib.Core.List.{List, [], ◌∷◌, map, map-map, head_d, Permᴰ, Memᴰ}
use mathlib.Core.Logic.{◌⊎◌, inl, inr}
use Rattle.lists.specs.Tests.{keep}
use Rattle.lists.proofs.Permutation.{keep-perm}
use Rattle.lists.proofs.Members.{head_d-mem}

pub keep-map : {A B : Type 0} (p : B → Bool) (f : A → B) (l : List A) → keep p (map f l) ≡ map f (keep (λ a. p (f a)) l)
unfolding keep
keep-map p f [] = refl
keep-map p f (x ∷ l) = go (p (f x)) (keep-map p f l)
  where
    go : (s : Bool) → keep p (map f l) ≡ map f (keep (λ a. p (f a)) l)
        → cond s (f x ∷ keep p (map f l)) (keep p (map f l)) ≡ map f (cond s (x ∷ keep (λ a. p (f a)) l) (keep (λ a. p (f a)) l))
    go true e = ap (λ k. f x ∷ k) e
    go false e = e

-- two tests that agree on a list keep the same of it
pub keep-eq : {A : Type 0} (l : List A) (p q : A → Bool) → ((a : A) → Memᴰ a l → p a ≡ q a) → keep p l ≡ keep q l
unfolding keep
keep-eq [] p q h = refl
keep-eq (x ∷ l) p q h =
    let e = keep-eq l p q (λ a m. h a (Memᴰ.tail m)) in
    λ i. cond (h x (Memᴰ.head refl) i) (x ∷ e i) (e i)

pub mem_keep : {A : Type 0} (p : A → Bool) (l : List A) (x : A) → Memᴰ x l → p x ≡ true → Memᴰ x (keep p l)
unfolding keep
mem_keep p [] x m e = m
mem_keep p (y ∷ l) x m e = go (p y) refl (mem_keep p l x) (Memᴰ.cases_cons m)
  where
    go : (s : Bool) → p y ≡ s → (Memᴰ x l → p x ≡ true → Memᴰ x (keep p l)) → (x ≡ y) ⊎ Memᴰ x l → Memᴰ x (cond s (y ∷ keep p l) (keep p l))
    go true f ih (inl q) = Memᴰ.head q
    go true f ih (inr k) = Memᴰ.tail (ih k e)
    go false f ih (inl q) = absurd (true≢false (sym e ∙ ap p q ∙ f))
    go false f ih (inr k) = ih k e

pub of_keep : {A : Type 0} (p : A → Bool) (l : List A) (x : A) → Memᴰ x (keep p l) → Memᴰ x l × (p x ≡ true)
unfolding keep
of_keep p [] x m = absurd (Memᴰ.not-nil m)
of_keep p (y ∷ l) x m = go (p y) refl (of_keep p l x) m
  where
    go : (s : Bool) → p y ≡ s → (Memᴰ x (keep p l) → Memᴰ x l × (p x ≡ true)) → Memᴰ x (cond s (y ∷ keep p l) (keep p l)) → Memᴰ x (y ∷ l) × (p x ≡ true)
    go false f ih m = let h = ih m in (Memᴰ.tail h.0, h.1)
    go true f ih m = at (Memᴰ.cases_cons m)
      where
        at : (x ≡ y) ⊎ Memᴰ x (keep p l) → Memᴰ x (y ∷ l) × (p x ≡ true)
        at (inl q) = (Memᴰ.head q, ap p q ∙ f)
        at (inr k) = let h = ih k in (Memᴰ.tail h.0, h.1)

-- the first of those kept, where one is
pub first-kept : {A : Type 0} (p : A → Bool) (l : List A) (d x : A) → Memᴰ x l → p x ≡ true
    → Memᴰ (head_d (keep p l) d) l × (p (head_d (keep p l) d) ≡ true)
first-kept p l d x m e = of_keep p l (head_d (keep p l) d) (head_d-mem (keep p l) d x (mem_keep p l x m e))

-- two lists of which the outcomes of a test, each with something else, are the same in another order: so is the something of what passes
pub keep-map_perm : {A B : Type 0} (p p' : A → Bool) (t t' : A → B) (l l' : List A) → Permᴰ {A = Bool × B} (map (λ x. (p' x, t' x)) l') (map (λ x. (p x, t x)) l)
    → Permᴰ (map t' (keep p' l')) (map t (keep p l))
keep-map_perm {A} {B} p p' t t' l l' π = rw (← kept p t l, ← kept p' t' l') (Permᴰ.map second (keep-perm first π))
  where
    first : Bool × B → Bool
    first q = q.0

    second : Bool × B → B
    second q = q.1

    kept : (p : A → Bool) (t : A → B) (l : List A) → map second (keep first (map (λ x. (p x, t x)) l)) ≡ map t (keep p l)
    kept p t l = ap (map second) (keep-map first (λ x. (p x, t x)) l) ∙ map-map second (λ x. (p x, t x)) (keep p l)

-- What does not depend on the order in which a list comes: folds whose steps may be exchanged, and so sums, counts, tests, sorts and joined lists.
use mathlib.Core.Path.{◌≡◌, refl, sym, ◌∙◌, ap}
use mathlib.Core.Bool.{Bool, true, false, cond, ◌&&◌}
use mathlib.Core.List.Memᴰ
use mathlib.Core.List.Permᴰ
use mathlib.Core.List.{List, [], ◌∷◌, ◌++◌, map, foldr, flatten, append_assoc, Permᴰ, Memᴰ}
use mathlib.Core.Logic.{◌⊎◌, inl, inr}
use Prim.Native.Nat.{ℕ, suc, ◌+◌, Ordering}
use native.Mathlib.Omega.{arith}
use lib.ListN.{length}
use Rattle.lists.specs.Upto.{sum}
use Rattle.lists.specs.Tests.{keep, count, every}
use Rattle.lists.specs.Order.{is_gt, insert, sort}
use Rattle.lists.proofs.Order.{Order, insert_comm}

pub perm_of_eq : {A : Type 0} {l₁ l₂ : List A} → l₁ ≡ l₂ → Permᴰ l₁ l₂
perm_of_eq {l₁ = l₁} e = rw (← e) (Permᴰ.refl l₁)

pub foldr-perm : {A B : Type 0} (f : A → B → B) → ((a b : A) (x : B) → f a (f b x) ≡ f b (f a x)) → (b : B) {l₁ l₂ : List A} → Permᴰ l₁ l₂ → foldr f b l₁ ≡ foldr f b l₂
foldr-perm f k b Permᴰ.nil = refl
foldr-perm f k b (Permᴰ.cons e π) = λ i. f (e i) (foldr-perm f k b π i)
foldr-perm f k b (Permᴰ.swap {a = a} {b = c} {l = l} e₁ e₂) = k a c (foldr f b l) ∙ (λ i. f (e₂ i) (f (e₁ i) (foldr f b l)))
foldr-perm f k b (Permᴰ.trans π ρ) = foldr-perm f k b π ∙ foldr-perm f k b ρ

pub sort-perm : {A : Type 0} {c : A → A → Ordering} → Order c → {l₁ l₂ : List A} → Permᴰ l₁ l₂ → sort c l₁ ≡ sort c l₂
unfolding sort
sort-perm {c = c} O π = foldr-perm (insert c) (insert_comm O) [] π

pub length-perm : {A : Type 0} {l₁ l₂ : List A} → Permᴰ l₁ l₂ → length l₁ ≡ length l₂
length-perm Permᴰ.nil = refl
length-perm (Permᴰ.cons e π) = ap suc (length-perm π)
length-perm (Permᴰ.swap e₁ e₂) = refl
length-perm (Permᴰ.trans π ρ) = length-perm π ∙ length-perm ρ

pub sum-perm : {l₁ l₂ : List ℕ} → Permᴰ l₁ l₂ → sum l₁ ≡ sum l₂
unfolding sum
sum-perm Permᴰ.nil = refl
sum-perm (Permᴰ.cons e π) = λ i. e i + sum-perm π i
sum-perm (Permᴰ.swap e₁ e₂) = omega arith
sum-perm (Permᴰ.trans π ρ) = sum-perm π ∙ sum-perm ρ

pub count-perm : {l₁ l₂ : List Bool} → Permᴰ l₁ l₂ → count l₁ ≡ count l₂
count-perm Permᴰ.nil = refl
count-perm (Permᴰ.cons e π) = λ i. cond (e i) 1 0 + count-perm π i
count-perm (Permᴰ.swap {a = a} {b = b} {l = l} e₁ e₂) =
    (let s : cond a 1 0 + (cond b 1 0 + count l) ≡ cond b 1 0 + (cond a 1 0 + count l) = omega arith in s)
    ∙ (λ i. cond (e₂ i) 1 0 + (cond (e₁ i) 1 0 + count l))
count-perm (Permᴰ.trans π ρ) = count-perm π ∙ count-perm ρ

and_swap : (a b c : Bool) → a && (b && c) ≡ b && (a && c)
and_swap true b c = refl
and_swap false true c = refl
and_swap false false c = refl

pub every-perm : {l₁ l₂ : List Bool} → Permᴰ l₁ l₂ → every l₁ ≡ every l₂
unfolding every
every-perm Permᴰ.nil = refl
every-perm (Permᴰ.cons e π) = λ i. e i && every-perm π i
every-perm (Permᴰ.swap {a = a} {b = b} {l = l} e₁ e₂) = and_swap a b (every l) ∙ (λ i. e₂ i && (e₁ i && every l))
every-perm (Permᴰ.trans π ρ) = every-perm π ∙ every-perm ρ

swap_three : {A : Type 0} (a b r : List A) → Permᴰ (a ++ (b ++ r)) (b ++ (a ++ r))
swap_three a b r =
    Permᴰ.trans (perm_of_eq (sym (append_assoc a b r)))
    (Permᴰ.trans (Permᴰ.append_right r (Permᴰ.append_comm a b)) (perm_of_eq (append_assoc b a r)))

pub flatten_perm : {A : Type 0} {l₁ l₂ : List (List A)} → Permᴰ l₁ l₂ → Permᴰ (flatten l₁) (flatten l₂)
unfolding flatten
flatten_perm Permᴰ.nil = Permᴰ.nil
flatten_perm (Permᴰ.cons {a = a} {l₂ = l₂} e π) =
    Permᴰ.trans (Permᴰ.append_left a (flatten_perm π)) (perm_of_eq (ap (λ x. x ++ flatten l₂) e))
flatten_perm (Permᴰ.swap {a = a} {b = b} {l = l} e₁ e₂) =
    Permᴰ.trans (swap_three a b (flatten l)) (perm_of_eq (λ i. e₂ i ++ (e₁ i ++ flatten l)))
flatten_perm (Permᴰ.trans π ρ) = Permᴰ.trans (flatten_perm π) (flatten_perm ρ)

-- lists that are permutations of one another, one by one, joined
pub flatten_map_perm : {A B : Type 0} (l : List A) (f g : A → List B) → ((a : A) → Memᴰ a l → Permᴰ (f a) (g a))
    → Permᴰ (flatten (map f l)) (flatten (map g l))
unfolding flatten
flatten_map_perm [] f g h = Permᴰ.nil
flatten_map_perm (a ∷ l) f g h =
    Permᴰ.trans (Permᴰ.append_right (flatten (map f l)) (h a (Memᴰ.head refl)))
    (Permᴰ.append_left (g a) (flatten_map_perm l f g (λ b m. h b (Memᴰ.tail m))))

keep-swap : {A : Type 0} (s t : Bool) (a b : A) (l : List A) → Permᴰ (cond s (a ∷ cond t (b ∷ l) l) (cond t (b ∷ l) l)) (cond t (b ∷ cond s (a ∷ l) l) (cond s (a ∷ l) l))
keep-swap true true a b l = Permᴰ.swap refl refl
keep-swap true false a b l = Permᴰ.refl (a ∷ l)
keep-swap false true a b l = Permᴰ.refl (b ∷ l)
keep-swap false false a b l = Permᴰ.refl l

pub keep-perm : {A : Type 0} (p : A → Bool) {l₁ l₂ : List A} → Permᴰ l₁ l₂ → Permᴰ (keep p l₁) (keep p l₂)
unfolding keep
keep-perm p Permᴰ.nil = Permᴰ.nil
keep-perm p (Permᴰ.cons {a = a} {b = b} {l₁ = l₁} {l₂ = l₂} e π) =
    Permᴰ.trans (go (p a) (keep-perm p π)) (perm_of_eq (λ i. cond (p (e i)) (e i ∷ keep p l₂) (keep p l₂)))
  where
    go : (s : Bool) → Permᴰ (keep p l₁) (keep p l₂) → Permᴰ (cond s (a ∷ keep p l₁) (keep p l₁)) (cond s (a ∷ keep p l₂) (keep p l₂))
    go true ρ = Permᴰ.cons refl ρ
    go false ρ = ρ
keep-perm p (Permᴰ.swap {a = a} {b = b} {l = l} e₁ e₂) =
    Permᴰ.trans (keep-swap (p a) (p b) a b (keep p l))
    (perm_of_eq (λ i. cond (p (e₂ i)) (e₂ i ∷ cond (p (e₁ i)) (e₁ i ∷ keep p l) (keep p l)) (cond (p (e₁ i)) (e₁ i ∷ keep p l) (keep p l))))
keep-perm p (Permᴰ.trans π ρ) = Permᴰ.trans (keep-perm p π) (keep-perm p ρ)

pub mem_perm : {A : Type 0} {x : A} {l₁ l₂ : List A} → Permᴰ l₁ l₂ → Memᴰ x l₁ → Memᴰ x l₂
mem_perm Permᴰ.nil k = k
mem_perm {x = x} (Permᴰ.cons {a = a} {b = b} {l₁ = l₁} {l₂ = l₂} e π) k = go (mem_perm π) (Memᴰ.cases_cons k)
  where
    go : (Memᴰ x l₁ → Memᴰ x l₂) → (x ≡ a) ⊎ Memᴰ x l₁ → Memᴰ x (b ∷ l₂)
    go ih (inl f) = Memᴰ.head (f ∙ e)
    go ih (inr k) = Memᴰ.tail (ih k)
mem_perm {x = x} (Permᴰ.swap {a = a} {b = b} {a' = a'} {b' = b'} {l = l} e₁ e₂) k = go (Memᴰ.cases_cons k)
  where
    more : (x ≡ b) ⊎ Memᴰ x l → Memᴰ x (a' ∷ b' ∷ l)
    more (inl f) = Memᴰ.head (f ∙ e₂)
    more (inr k) = Memᴰ.tail (Memᴰ.tail k)

    go : (x ≡ a) ⊎ Memᴰ x (b ∷ l) → Memᴰ x (a' ∷ b' ∷ l)
    go (inl f) = Memᴰ.tail (Memᴰ.head (f ∙ e₁))
    go (inr k) = more (Memᴰ.cases_cons k)
mem_perm (Permᴰ.trans π ρ) k = mem_perm ρ (mem_perm π k)

insert-cons : {A : Type 0} (c : A → A → Ordering) (x : A) (l : List A) → Permᴰ (insert c x l) (x ∷ l)
unfolding insert
insert-cons c x [] = Permᴰ.refl (x ∷ [])
insert-cons c x (y ∷ l) = go (is_gt (c x y)) (insert-cons c x l)
  where
    go : (s : Bool) → Permᴰ (insert c x l) (x ∷ l) → Permᴰ (cond s (y ∷ insert c x l) (x ∷ y ∷ l)) (x ∷ y ∷ l)
    go true ih = Permᴰ.trans (Permᴰ.cons refl ih) (Permᴰ.swap refl refl)
    go false ih = Permᴰ.refl (x ∷ y ∷ l)

-- a sort lists the same elements
pub sort-is_perm : {A : Type 0} (c : A → A → Ordering) (l : List A) → Permᴰ (sort c l) l
unfolding sort
sort-is_perm c [] = Permᴰ.nil
sort-is_perm c (x ∷ l) = Permᴰ.trans (insert-cons c x (sort c l)) (Permᴰ.cons refl (sort-is_perm c l))

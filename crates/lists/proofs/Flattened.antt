-- The lists of a list, put together: what is in them, how long that is, how many pass a test, something of each element, and what stands at a
-- place where the lists are of one length.
use mathlib.Core.Path.{◌≡◌, refl, ◌∙◌, ap, subst}
use mathlib.Core.Bool.{Bool}
use mathlib.Core.List.Memᴰ
use mathlib.Core.List.{List, [], ◌∷◌, ◌++◌, map, flatten, map-append, Memᴰ}
use mathlib.Core.Logic.{◌⊎◌, inl, inr}
use Prim.Native.Nat.{ℕ, zero, suc, ◌+◌, ◌*◌, ◌<◌}
use native.Mathlib.Nat.{not-suc-le-zero}
use native.Mathlib.Omega.{arith}
use lib.ListN.{length, get_or, length-append, get_or-append}
use lib.Seq.{get_or-append-add}
use Rattle.lists.specs.Upto.{sum}
use Rattle.lists.specs.Tests.{count}
use Rattle.lists.proofs.Steps.{count-append, flatten_append}

module _ {A B : Type 0} (f : A → List B) where
  pub of_flatten_map : (l : List A) (x : B) → Memᴰ x (flatten (map f l)) → (a : A) × Memᴰ a l × Memᴰ x (f a)
  unfolding flatten
  of_flatten_map [] x d = absurd (Memᴰ.not-nil d)
  of_flatten_map (a ∷ l) x d = go (Memᴰ.append_cases (f a) d) (of_flatten_map l x)
    where
      go : Memᴰ x (f a) ⊎ Memᴰ x (flatten (map f l)) → (Memᴰ x (flatten (map f l)) → (b : A) × Memᴰ b l × Memᴰ x (f b))
          → (b : A) × Memᴰ b (a ∷ l) × Memᴰ x (f b)
      go (inl d) ih = (a, Memᴰ.head refl, d)
      go (inr d) ih = let w = ih d in (w.0, Memᴰ.tail w.1, w.2)

  pub mem_flatten_map : (l : List A) (x : B) (a : A) → Memᴰ a l → Memᴰ x (f a) → Memᴰ x (flatten (map f l))
  unfolding flatten
  mem_flatten_map [] x a d e = absurd (Memᴰ.not-nil d)
  mem_flatten_map (b ∷ l) x a d e = go (Memᴰ.cases_cons d) (mem_flatten_map l x a)
    where
      go : (a ≡ b) ⊎ Memᴰ a l → (Memᴰ a l → Memᴰ x (f a) → Memᴰ x (flatten (map f l))) → Memᴰ x (f b ++ flatten (map f l))
      go (inl q) ih = Memᴰ.append_left (flatten (map f l)) (subst (λ (c : A). Memᴰ x (f c)) q e)
      go (inr d) ih = Memᴰ.append_right (f b) (ih d e)

pub length-flatten : {A : Type 0} (ls : List (List A)) → length (flatten ls) ≡ sum (map length ls)
unfolding flatten sum
length-flatten [] = refl
length-flatten (l ∷ ls) = length-append l (flatten ls) ∙ ap (λ k. length l + k) (length-flatten ls)

pub count-flatten : {A : Type 0} (p : A → Bool) (ls : List (List A)) → count (map p (flatten ls)) ≡ sum (map (λ l. count (map p l)) ls)
unfolding flatten sum
count-flatten p [] = refl
count-flatten p (l ∷ ls) = ap count (map-append p l (flatten ls)) ∙ count-append (map p l) (map p (flatten ls)) ∙ ap (λ k. count (map p l) + k) (count-flatten p ls)

pub map-flatten_map : {A B C : Type 0} (g : B → C) (f : A → List B) (l : List A) → map g (flatten (map f l)) ≡ flatten (map (λ a. map g (f a)) l)
unfolding flatten
map-flatten_map g f [] = refl
map-flatten_map g f (a ∷ l) = map-append g (f a) (flatten (map f l)) ∙ ap (λ r. map g (f a) ++ r) (map-flatten_map g f l)

pub flatten_map_flatten : {A B : Type 0} (f : A → List B) (ls : List (List A)) → flatten (map f (flatten ls)) ≡ flatten (map (λ l. flatten (map f l)) ls)
unfolding flatten
flatten_map_flatten f [] = refl
flatten_map_flatten f (l ∷ ls) =
    ap flatten (map-append f l (flatten ls)) ∙ flatten_append (map f l) (map f (flatten ls)) ∙ ap (λ r. flatten (map f l) ++ r) (flatten_map_flatten f ls)

-- pieces of one length w, one after the other
module _ {A B : Type 0} (f : A → List B) (w : ℕ) (wide : (a : A) → length (f a) ≡ w) where
  pub length-pieces : (l : List A) → length (flatten (map f l)) ≡ w * length l
  unfolding flatten
  length-pieces [] = omega arith
  length-pieces (a ∷ l) = omega (arith, length-append (f a) (flatten (map f l)), wide a, length-pieces l)

  pub get_or-pieces : (l : List A) (k i : ℕ) (z : A) (d : B) → k < length l → i < w → get_or (flatten (map f l)) (w * k + i) d ≡ get_or (f (get_or l k z)) i d
  unfolding flatten
  get_or-pieces [] k i z d h m = absurd (not-suc-le-zero h)
  get_or-pieces (a ∷ l) zero i z d h m =
      let e : w * 0 + i ≡ i = omega arith in
      ap (λ j. get_or (f a ++ flatten (map f l)) j d) e ∙ get_or-append (f a) (flatten (map f l)) d i (omega (arith, wide a))
  get_or-pieces (a ∷ l) (suc k) i z d h m =
      let e : w * suc k + i ≡ length (f a) + (w * k + i) = omega (arith, wide a) in
      ap (λ j. get_or (f a ++ flatten (map f l)) j d) e ∙ get_or-append-add (f a) (flatten (map f l)) (w * k + i) d ∙ get_or-pieces l k i z d (omega arith) m

-- The first so many of an array.
use mathlib.Core.List.{List, [], ◌∷◌, ◌++◌, map}
use mathlib.Core.Path.{◌≡◌, refl, ap, ◌∙◌}
use lib.Dec.{eqb}
use Rattle.std.specs.Prelude.{Option, Some, None}
use Rattle.std.specs.Option.{option_eq}
use Rattle.kinds.specs.Known.{kind_in}
use Prim.Native.Nat.{ℕ, zero, suc, ◌+◌, ◌<◌, ◌≤◌}
use native.Mathlib.Nat.{not-suc-le-zero}
use native.Mathlib.Numerals.{add-one}
use native.Mathlib.Omega.{arith}
use lib.ListN.{length, get_or, take, get_or-eq_default}
use Rattle.lists.proofs.Members.{get_or-there}
use lib.Seq.{get_or-take, length-take-le, take-suc}

pub mapped_at : {A B : Type 0} (f : A → B) (l : List A) (p : ℕ) (x : A) (y : B) → p < length l → get_or (map f l) p y ≡ f (get_or l p x)
mapped_at f [] p x y h = absurd (not-suc-le-zero h)
mapped_at f (z ∷ l) zero x y h = refl
mapped_at f (z ∷ l) (suc p) x y h = mapped_at f l p x y (omega arith)

pub mapped_long : {A B : Type 0} (f : A → B) (l : List A) → length (map f l) ≡ length l
mapped_long f [] = refl
mapped_long f (x ∷ l) = ap suc (mapped_long f l)

pub mapped_taken : {A B : Type 0} (f : A → B) (n : ℕ) (l : List A) → map f (take n l) ≡ take n (map f l)
mapped_taken f zero l = refl
mapped_taken f (suc n) [] = refl
mapped_taken f (suc n) (x ∷ l) = ap (λ r. f x ∷ r) (mapped_taken f n l)

-- a kind that may be none is H
pub h_by : (k : Option ℕ) → option_eq eqb k (Some 0) ≡ eqb (kind_in k) 0
h_by (Some k) = refl
h_by None = refl

module _ (l : List ℕ) (n : ℕ) (few : n ≤ length l) where
  pub taken_length : length (take n l) ≡ n
  taken_length = length-take-le n l few

  pub taken_there : (p x : ℕ) → p < n → get_or (take n l) p x ≡ get_or l p 0
  taken_there p x h = get_or-take n l p x h ∙ get_or-there l p x 0 (omega arith)

  pub taken_past : (p x : ℕ) → n ≤ p → get_or (take n l) p x ≡ x
  taken_past p x h = get_or-eq_default (take n l) x (omega (arith, taken_length))

pub taken_next : (l : List ℕ) (p : ℕ) → p < length l → take (p + 1) l ≡ take p l ++ (get_or l p 0 ∷ [])
taken_next l p h = rw (add-one p) (take-suc l p 0 h)

-- the number of an atom's kind in the array
pub number_at : (ks : List (Option ℕ)) (n i : ℕ) (x : Option ℕ) → n ≤ 999 → length ks ≡ 999 → i < n → get_or (map kind_in ks) i 0 ≡ kind_in (get_or ks i x)
number_at ks n i x h l k = mapped_at kind_in ks i x 0 (omega arith)

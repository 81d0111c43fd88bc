-- A text compared with the bytes of a line.
use Prim.Native.Nat.{ℕ, compare, Ordering}
use mathlib.Core.Path.{◌≡◌, refl, sym, ap, ap₂, ◌∙◌}
use mathlib.Core.List.{List, [], ◌∷◌}
use mathlib.Core.Bool.{Bool, ◌&&◌}
use lib.Dec.{eqb, compare_is_eq}
use lib.Pointwise.{pointwise}
use Rattle.lists.specs.Order.{or_else, lex}
use Rattle.lists.proofs.Booleans.{eqb_swap}

-- whether two lists of bytes are the same
abbrev pub same : List ℕ → List ℕ → Bool
same xs ys = compare_is_eq (lex compare xs ys)

both : (o p : Ordering) → compare_is_eq (or_else o p) ≡ (compare_is_eq o && compare_is_eq p)
both Ordering.lt p = refl
both Ordering.eq p = refl
both Ordering.gt p = refl

same_cons : (x y : ℕ) (xs ys : List ℕ) → same (x ∷ xs) (y ∷ ys) ≡ (eqb x y && same xs ys)
unfolding lex
same_cons x y xs ys = both (compare x y) (lex compare xs ys)

pub compared : (xs ys : List ℕ) → pointwise eqb xs ys ≡ same xs ys
unfolding lex
compared [] [] = refl
compared [] (y ∷ ys) = refl
compared (x ∷ xs) [] = refl
compared (x ∷ xs) (y ∷ ys) = ap (λ (b : Bool). eqb x y && b) (compared xs ys) ∙ sym (same_cons x y xs ys)

pub compared_back : (xs ys : List ℕ) → pointwise eqb ys xs ≡ same xs ys
unfolding lex
compared_back [] [] = refl
compared_back [] (y ∷ ys) = refl
compared_back (x ∷ xs) [] = refl
compared_back (x ∷ xs) (y ∷ ys) = ap₂ ◌&&◌ (eqb_swap y x) (compared_back xs ys) ∙ sym (same_cons x y xs ys)

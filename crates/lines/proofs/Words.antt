-- The library's test of two slices, and the same either way round.
use mathlib.Core.Bool.{Bool, ◌&&◌}
use mathlib.Core.List.{List, [], ◌∷◌}
use mathlib.Core.Path.{◌≡◌, refl, ap, ap₂}
use Prim.Native.Nat.{ℕ}
use native.Mathlib.Omega.{arith}
use Rattle.std.proofs.lemmas.Bool.Decides.{nat_tests}
use lib.Dec.{eqb}
use lib.Pointwise.{pointwise}
use Rattle.lines.specs.Fields.{same_bytes}

pub pointwise-same : (l m : List ℕ) → pointwise eqb l m ≡ same_bytes l m
unfolding same_bytes
pointwise-same [] [] = refl
pointwise-same [] (y ∷ m) = refl
pointwise-same (x ∷ l) [] = refl
pointwise-same (x ∷ l) (y ∷ m) = ap (λ (b : Bool). eqb x y && b) (pointwise-same l m)

pub same_swapped : (l m : List ℕ) → same_bytes l m ≡ same_bytes m l
unfolding same_bytes
same_swapped [] [] = refl
same_swapped [] (y ∷ m) = refl
same_swapped (x ∷ l) [] = refl
same_swapped (x ∷ l) (y ∷ m) = ap₂ (λ (a b : Bool). a && b) (swapped x y) (same_swapped l m)
  where
    swapped : (x y : ℕ) → eqb x y ≡ eqb y x
    swapped x y = grind (arith, nat_tests)

-- The end of a buffer, lent and come back.
use mathlib.Core.List.{List, ◌++◌, append-nil}
use mathlib.Core.Path.{◌≡◌, ap, ◌∙◌}
use Prim.Native.Nat.{ℕ, ◌-◌, ◌≤◌}
use native.Mathlib.Omega.{arith}
use lib.ListN.{length, take, drop, drop_of_length-le, length-drop}
use lib.Seq.{take_all}

module _ (l : List ℕ) (a : ℕ) (h : a ≤ length l) where
  pub tail_is : take (length l - a) (drop a l) ≡ drop a l
  tail_is = take_all (length l - a) (drop a l) (omega (arith, length-drop a l))

  pub tail_back : (ys : List ℕ) → take a l ++ (ys ++ drop (length l - a) (drop a l)) ≡ take a l ++ ys
  tail_back ys =
      ap (λ (z : List ℕ). take a l ++ (ys ++ z)) (drop_of_length-le (drop a l) {i = length l - a} (omega (arith, length-drop a l)))
      ∙ ap (λ (z : List ℕ). take a l ++ z) (append-nil ys)

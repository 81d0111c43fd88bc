-- A record with a line behind it, as the newline is put there or is not.
use mathlib.Core.Bool.{Bool, true, false, cond}
use mathlib.Core.List.{List, [], ◌∷◌, ◌++◌, append-nil}
use mathlib.Core.Path.{◌≡◌, sym, ap, ◌∙◌}
use Prim.Native.Nat.{ℕ, ◌+◌, ◌<◌, ◌≤◌}
use native.Mathlib.Numerals.{add-one}
use native.Mathlib.Omega.{arith}
use lib.ListN.{length, set, take, length-append}
use lib.Seq.{take_all, take-take, take-append-le, take-suc-set, length-take-le}
use Rattle.molnaming.specs.Records.{with_line}

module _ (b : List ℕ) (end : ℕ) (h : end ≤ length b) where
  pub held-enough : (ended : Bool) → 65537 ≤ end → take 65537 b ≡ with_line b end ended
  unfolding with_line
  held-enough ended k =
      sym (take-append-le 65537 (take end b) (cond ended (10 ∷ []) []) (omega (arith, length-take-le end b h)) ∙ take-take 65537 end b k)

  pub held-end : end < 65537 → take end b ≡ with_line b end false
  unfolding with_line
  held-end k = sym (ap (take 65537) (append-nil (take end b)) ∙ take_all 65537 (take end b) (omega (arith, length-take-le end b h)))

  pub held-newline : end < 65537 → end < length b → take (end + 1) (set b end 10) ≡ with_line b end true
  unfolding with_line
  held-newline k l =
      ap (λ (n : ℕ). take n (set b end 10)) (add-one end) ∙ take-suc-set b end 10 l
      ∙ sym (take_all 65537 (take end b ++ (10 ∷ [])) (omega (arith, length-take-le end b h, length-append (take end b) (10 ∷ []))))

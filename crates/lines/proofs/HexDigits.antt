-- A digit of a field that is hexadecimal has a value below 16.
use mathlib.Core.Bool.{Bool, true, false, cond, ◌&&◌}
use mathlib.Core.List.{List}
use mathlib.Core.Path.{◌≡◌, refl, sym, ◌∙◌}
use Prim.Native.Nat.{ℕ, ◌-◌, ◌%◌, ◌<◌, ◌≤◌}
use native.Mathlib.Omega.{arith}
use lib.Dec.{eqb, leb, ltb}
use lib.ListN.{length, get_or}
use borrow.Author.Tests.{ltb-true, leb-true}
use Rattle.std.specs.Prelude.{Some, None, is_some}
use Rattle.std.proofs.lemmas.List.Folds.{list_all_at}
use Rattle.lists.proofs.Booleans.{and_both}
use Rattle.lines.specs.Hex.{hex_digit_of, hex_value, is_hex}

pub value_below : (b : ℕ) → is_some (hex_value b) ≡ true → (hex_digit_of b < 16) × (hex_value b ≡ Some (hex_digit_of b))
value_below b = go (ltb (hex_digit_of b) 16) refl
  where
    go : (t : Bool) → ltb (hex_digit_of b) 16 ≡ t → is_some (cond t (Some (hex_digit_of b)) None) ≡ true
        → (hex_digit_of b < 16) × (cond t (Some (hex_digit_of b)) None ≡ Some (hex_digit_of b))
    go true e h = (ltb-true _ _ e, refl)
    go false e h = cc

pub digit_below : (l : List ℕ) → is_hex l ≡ true → (i : ℕ) → i < length l
    → (hex_digit_of (get_or l i 0) < 16) × (hex_value (get_or l i 0) ≡ Some (hex_digit_of (get_or l i 0)))
digit_below l e i h = value_below (get_or l i 0) (go (is_some (hex_value (get_or l i 0))) refl)
  where
    go : (t : Bool) → is_some (hex_value (get_or l i 0)) ≡ t → t ≡ true
    go true q = refl
    go false q = sym (list_all_at (λ b. is_some (hex_value b)) l i 0 h q) ∙ (and_both (eqb (length l % 2) 0) _ e).1

pick_most : (p : Bool) (x y : ℕ) → (p ≡ true → x ≤ 16) → y ≤ 16 → cond p x y ≤ 16
pick_most true x y h k = h refl
pick_most false x y h k = k

hex-most : (b : ℕ) → hex_digit_of b ≤ 16
unfolding hex_digit_of
hex-most b =
    pick_most (leb 48 b && leb b 57) (b - 48) _ (λ e. omega (arith, leb-true b 57 (and_both (leb 48 b) _ e).1))
    (pick_most (leb 97 b && leb b 102) (b - 87) _ (λ e. omega (arith, leb-true b 102 (and_both (leb 97 b) _ e).1))
    (pick_most (leb 65 b && leb b 70) (b - 55) 16 (λ e. omega (arith, leb-true b 70 (and_both (leb 65 b) _ e).1)) (omega arith)))

-- what is not 16 is the value of a digit
pub hex-low : (b d : ℕ) → d ≡ hex_digit_of b → (d ≡ 16 → ⊥) → hex_digit_of b < 16
hex-low b d e h = omega (arith, hex-most b, h)

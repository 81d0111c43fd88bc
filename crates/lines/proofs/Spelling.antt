-- A number read digit by digit: what each answer rests on.
use mathlib.Core.Bool.{Bool, true, false, not, ◌&&◌, and-false}
use mathlib.Core.List.{List, [], ◌∷◌}
use mathlib.Core.Path.{◌≡◌, refl, ap, ◌∙◌}
use Prim.Native.Nat.{ℕ, ◌+◌, ◌-◌, ◌*◌, ◌<◌, ◌≤◌}
use native.Mathlib.Numerals.{add-one}
use native.Mathlib.Omega.{arith}
use lib.Dec.{leb, ltb}
use lib.ListN.{length, get_or, drop, drop_of_length-le}
use lib.Seq.{drop-cons}
use borrow.Author.Tests.{lt-ltb, le-ltb, le-leb, lt-leb, leb-true}
use Rattle.lists.proofs.Booleans.{and_both}
use Rattle.std.specs.Prelude.{Option, Some, None}
use Rattle.lines.specs.Numbers.{is_digit, digit_of, all_digits, leading_zero, worth, spelt, value_if, number_of}
use Rattle.std.proofs.lemmas.List.Folds.{list_all_at}

-- what a digit's value says of the byte
pub no_digit : (b : ℕ) → None ≡ digit_of b → is_digit b ≡ false
no_digit b e = go (is_digit b) refl
  where
    go : (t : Bool) → is_digit b ≡ t → t ≡ false
    go true q = let z : ◌≡◌ {A = Option ℕ} None (Some (b - 48)) = e ∙ rw q in cc
    go false q = refl

pub a_digit : (b d : ℕ) → Some d ≡ digit_of b → (is_digit b ≡ true) × (d ≡ b - 48) × (d ≤ 9)
a_digit b d e = go (is_digit b) refl
  where
    go : (t : Bool) → is_digit b ≡ t → (is_digit b ≡ true) × (d ≡ b - 48) × (d ≤ 9)
    go true q =
        let high : b ≤ 57 = leb-true _ _ (and_both (leb 48 b) (leb b 57) q).1 in
        let s : ◌≡◌ {A = Option ℕ} (Some d) (Some (b - 48)) = e ∙ rw q in
        let v : d ≡ b - 48 = cc in
        (q, v, omega arith)
    go false q = let s : ◌≡◌ {A = Option ℕ} (Some d) None = e ∙ rw q in cc

pub worth-grows : (l : List ℕ) (v : ℕ) → v ≤ worth v l
unfolding worth
worth-grows [] v = omega arith
worth-grows (b ∷ l) v = omega (arith, worth-grows l (10 * v + (b - 48)))

module _ (l : List ℕ) where
  pub worth-next : (v i d : ℕ) → i < length l → d ≡ get_or l i 0 - 48 → worth v (drop i l) ≡ worth (10 * v + d) (drop (i + 1) l)
  unfolding worth
  worth-next v i d h e = ap (worth v) (drop-cons l i 0 h) ∙ rw (e, add-one)

  pub worth-end : (v i : ℕ) → length l ≤ i → worth v (drop i l) ≡ v
  unfolding worth
  worth-end v i h = ap (worth v) (drop_of_length-le l h)

module _ (l : List ℕ) (most : ℕ) where
  unless_spelt : spelt l ≡ false → None ≡ number_of l most
  unfolding number_of
  unless_spelt e = rw e

  pub number-empty : length l ≡ 0 → None ≡ number_of l most
  number-empty h = let e : ltb 0 (length l) ≡ false = le-ltb 0 (length l) (omega arith) in unless_spelt (rw e)

  pub number-leading : leading_zero l ≡ true → None ≡ number_of l most
  number-leading h = unless_spelt (rw h (and-false (ltb 0 (length l))))

  pub number-broken : (i : ℕ) → i < length l → is_digit (get_or l i 0) ≡ false → None ≡ number_of l most
  number-broken i h e =
      let f : all_digits l ≡ false = list_all_at is_digit l i 0 h e in
      unless_spelt (rw (f, and-false (not (leading_zero l)), and-false (ltb 0 (length l))))

  pub number-over : most < worth 0 l → None ≡ number_of l most
  unfolding number_of
  number-over h = rw (lt-leb _ _ h, and-false (spelt l))

  pub number-whole : (v : ℕ) → 0 < length l → leading_zero l ≡ false → all_digits l ≡ true → worth 0 l ≡ v → v ≤ most → Some v ≡ number_of l most
  unfolding number_of
  number-whole v h z d w m = rw (lt-ltb 0 (length l) h, z, d, w, le-leb v most m)

  pub number-most : (v : ℕ) → number_of l most ≡ Some v → v ≤ most
  unfolding number_of
  number-most v = go (spelt l) (leb (worth 0 l) most) refl
    where
      go : (s b : Bool) → leb (worth 0 l) most ≡ b → value_if (s && b) (worth 0 l) ≡ Some v → v ≤ most
      go true true e q = let w : worth 0 l ≡ v = cc in omega (arith, leb-true (worth 0 l) most e)
      go true false e q = let z : ◌≡◌ {A = ℕ} 0 1 = cc in absurd (omega arith)
      go false b e q = let z : ◌≡◌ {A = ℕ} 0 1 = cc in absurd (omega arith)

-- The number at an offset, by the digits there.
use Prim.Native.Nat.{ℕ, suc, ◌+◌, ◌*◌, ◌-◌, ◌≤◌}
use mathlib.Core.Path.{◌≡◌, refl, sym, ap, subst, ◌∙◌}
use mathlib.Core.List.{List, [], ◌∷◌}
use mathlib.Core.Bool.{Bool, true, false}
use native.Mathlib.Numerals.{add-one}
use native.Mathlib.Omega.{arith}
use native.Mathlib.Nat.{add-sub_cancel_left}
use lib.ListN.{length, get_or, drop, drop_of_length-le}
use lib.Seq.{drop-cons}
use lib.Dec.{ltb, leb}
use borrow.Author.Tests.{ltb-true, ltb-false, leb-true, ne_eqb}
use Rattle.std.specs.Prelude.{Option, Some, None}
use Rattle.sling.specs.Scanned.{is_digit, digits, valued, number_at, number}
use Rattle.sling.specs.Scanned as scan
use Rattle.lists.proofs.Booleans.{and_both}
use Rattle.text.specs.Scanning.{digit_at, number_of}

abbrev pub IfDigit : List ℕ → ℕ → Option ℕ → Type 0
IfDigit s at (Some d) = digits (drop at s) ≡ (48 + d) ∷ digits (drop (at + 1) s)
IfDigit s at None = digits (drop at s) ≡ []

pub digit-by : (s : List ℕ) (at : ℕ) → IfDigit s at (digit_at s at)
unfolding digit_at digits
digit-by s at = pick (ltb at (length s)) refl
  where
    there : (b : Bool) → is_digit (get_or s at 0) ≡ b → ltb at (length s) ≡ true → IfDigit s at (digit_at s at)
    there true e h =
        let low : 48 ≤ get_or s at 0 = leb-true _ _ (and_both (leb 48 (get_or s at 0)) _ e).0 in
        let k : 48 + (get_or s at 0 - 48) ≡ get_or s at 0 = omega arith in
        let l : digits (drop at s) ≡ get_or s at 0 ∷ digits (drop (suc at) s) = ap digits (drop-cons s at 0 (ltb-true _ _ h)) ∙ simp e in
        rw (h, e) (l ∙ simp (k, add-one))
    there false e h = rw (h, e) (ap digits (drop-cons s at 0 (ltb-true _ _ h)) ∙ simp e)

    pick : (b : Bool) → ltb at (length s) ≡ b → IfDigit s at (digit_at s at)
    pick true h = there (is_digit (get_or s at 0)) refl h
    pick false h = rw h (simp (drop_of_length-le s (ltb-false _ _ h)))

add_two : (n : ℕ) → n + 1 + 1 ≡ n + 2
add_two n = omega arith

add_three : (n : ℕ) → n + 2 + 1 ≡ n + 3
add_three n = omega arith

-- the six answers, by the digits
module _ (s : List ℕ) (at : ℕ) where
  pub none-0 : None ≡ digit_at s at → number_of None ≡ number_at (drop at s)
  unfolding number_at valued
  none-0 h = simp (subst (IfDigit s at) (sym h) (digit-by s at))

  module _ (a : ℕ) (ea : Some a ≡ digit_at s at) where
    first-is : digits (drop at s) ≡ (48 + a) ∷ digits (drop (at + 1) s)
    first-is = subst (IfDigit s at) (sym ea) (digit-by s at)

    pub num-1 : None ≡ digit_at s (at + 1) → number_of (Some (record { value = a; bytes = 1 })) ≡ number_at (drop at s)
    unfolding number_at valued
    num-1 h = simp (first-is, subst (IfDigit s (at + 1)) (sym h) (digit-by s (at + 1))) (ap (λ (v : ℕ). number v 1) (omega arith))

    module _ (b : ℕ) (eb : Some b ≡ digit_at s (at + 1)) where
      second_is : digits (drop at s) ≡ (48 + a) ∷ (48 + b) ∷ digits (drop (at + 2) s)
      second_is =
          first-is ∙ ap (λ (l : List ℕ). (48 + a) ∷ l) (subst (IfDigit s (at + 1)) (sym eb) (digit-by s (at + 1)) ∙ simp (add_two at))

      -- two digits or more, the first a 0
      lead : (l : List ℕ) → valued (48 ∷ (48 + b) ∷ l) ≡ scan.none
      unfolding valued
      lead [] = refl
      lead (c ∷ []) = refl
      lead (c ∷ d ∷ l) = refl

      pub none_2 : a ≡ 0 → number_of None ≡ number_at (drop at s)
      unfolding number_at
      none_2 h = simp (second_is, h, lead)

      module _ (za : a ≡ 0 → ⊥) where
        pub num-2 : None ≡ digit_at s (at + 2) → number_of (Some (record { value = 10 * a + b; bytes = 2 })) ≡ number_at (drop at s)
        unfolding number_at valued
        num-2 h =
            simp (second_is, subst (IfDigit s (at + 2)) (sym h) (digit-by s (at + 2)), ne_eqb (48 + a) 48 (λ e. za (omega arith)))
            (ap (λ (v : ℕ). number v 2) (omega arith))

        module _ (c : ℕ) (ec : Some c ≡ digit_at s (at + 2)) where
          third_is : digits (drop at s) ≡ (48 + a) ∷ (48 + b) ∷ (48 + c) ∷ digits (drop (at + 3) s)
          third_is =
              second_is ∙ ap (λ (l : List ℕ). (48 + a) ∷ (48 + b) ∷ l) (subst (IfDigit s (at + 2)) (sym ec) (digit-by s (at + 2)) ∙ simp (add_three at))

          pub num-3 : None ≡ digit_at s (at + 3) → number_of (Some (record { value = 100 * a + 10 * b + c; bytes = 3 })) ≡ number_at (drop at s)
          unfolding number_at valued
          num-3 h =
              simp (third_is, subst (IfDigit s (at + 3)) (sym h) (digit-by s (at + 3)), ne_eqb (48 + a) 48 (λ e. za (omega arith)))
              (simp add-sub_cancel_left)

          pub none-4 : (d : ℕ) → Some d ≡ digit_at s (at + 3) → number_of None ≡ number_at (drop at s)
          unfolding number_at valued
          none-4 d h = simp (third_is, subst (IfDigit s (at + 3)) (sym h) (digit-by s (at + 3)))

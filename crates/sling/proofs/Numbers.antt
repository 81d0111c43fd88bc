-- A number printed in decimal is read back, where no digit follows.
use mathlib.Core.Path.{◌≡◌, refl, ap, ◌∙◌}
use mathlib.Core.Bool.{Bool, true, false}
use mathlib.Core.List.{List, [], ◌∷◌, ◌++◌}
use Prim.Native.Nat.{ℕ, ◌+◌, ◌*◌, ◌/◌, ◌%◌, ◌<◌, ◌≤◌}
use native.Mathlib.Omega.{arith}
use lib.ListN.{length}
use lib.Dec.{ltb}
use borrow.Author.Tests.{le-leb, ne_eqb, ltb-true, ltb-false}
use Rattle.sling.specs.Scanned.{number, is_digit, digits, valued, number_at}
use Rattle.sling.specs.Printed.{decimal}

-- a digit stands first
abbrev pub digit_first : List ℕ → Bool
digit_first [] = false
digit_first (b ∷ bs) = is_digit b

pub digit-is : (k : ℕ) → k < 10 → is_digit (48 + k) ≡ true
digit-is k h = simp (le-leb 48 (48 + k) (omega arith), le-leb (48 + k) 57 (omega arith))

digits-stop : (l : List ℕ) → digit_first l ≡ false → digits l ≡ []
unfolding digits
digits-stop [] h = refl
digits-stop (b ∷ bs) h = simp h

digits-cons : (b : ℕ) (l : List ℕ) → is_digit b ≡ true → digits (b ∷ l) ≡ b ∷ digits l
unfolding digits
digits-cons b l h = simp h

one-digit : (n : ℕ) (l : List ℕ) → n < 10 → digit_first l ≡ false → number_at (((48 + n) ∷ []) ++ l) ≡ number n 1
unfolding number_at valued
one-digit n l h s = simp (digits-cons (48 + n) l (digit-is n h), digits-stop l s) (ap (λ (v : ℕ). number v 1) (omega arith))

two_digits : (a b : ℕ) (l : List ℕ) → 0 < a → a < 10 → b < 10 → digit_first l ≡ false → number_at (((48 + a) ∷ (48 + b) ∷ []) ++ l) ≡ number (10 * a + b) 2
unfolding number_at valued
two_digits a b l p ha hb s =
    simp (digits-cons (48 + a) ((48 + b) ∷ l) (digit-is a ha), digits-cons (48 + b) l (digit-is b hb), digits-stop l s, ne_eqb (48 + a) 48 (λ e. omega arith))
    (ap (λ (v : ℕ). number v 2) (omega arith))

three_digits : (a b c : ℕ) (l : List ℕ) → 0 < a → a < 10 → b < 10 → c < 10 → digit_first l ≡ false
    → number_at (((48 + a) ∷ (48 + b) ∷ (48 + c) ∷ []) ++ l) ≡ number (100 * a + 10 * b + c) 3
unfolding number_at valued
three_digits a b c l p ha hb hc s =
    simp (
      digits-cons (48 + a) ((48 + b) ∷ (48 + c) ∷ l) (digit-is a ha),
      digits-cons (48 + b) ((48 + c) ∷ l) (digit-is b hb),
      digits-cons (48 + c) l (digit-is c hc),
      digits-stop l s,
      ne_eqb (48 + a) 48 (λ e. omega arith),
    ) (ap (λ (v : ℕ). number v 3) (omega arith))

-- how many digits a number below 1,000 has, and which
pub data Decimal : ℕ → Type 0 where
  one : {n : ℕ} → n < 10 → decimal n ≡ (48 + n) ∷ [] → Decimal n
  two : {n : ℕ} → 0 < n / 10 → n < 100 → decimal n ≡ (48 + n / 10) ∷ (48 + n % 10) ∷ [] → Decimal n
  three : {n : ℕ} → 0 < n / 100 → n < 1000 → decimal n ≡ (48 + n / 100) ∷ (48 + n / 10 % 10) ∷ (48 + n % 10) ∷ [] → Decimal n

pub decimal-is : (n : ℕ) → n < 1000 → Decimal n
unfolding decimal
decimal-is n h = pick (ltb n 10) (ltb n 100) refl refl
  where
    pick : (s t : Bool) → ltb n 10 ≡ s → ltb n 100 ≡ t → Decimal n
    pick true t e f = one (ltb-true n 10 e) (simp e)
    pick false true e f = let lo : 10 ≤ n = ltb-false n 10 e in let k : 0 < n / 10 = omega arith in two k (ltb-true n 100 f) (simp (e, f))
    pick false false e f = let lo : 100 ≤ n = ltb-false n 100 f in let k : 0 < n / 100 = omega arith in three k h (simp (e, f))

-- the number read, and the length of what was printed
pub decimal-read : (n : ℕ) (l : List ℕ) → n < 1000 → digit_first l ≡ false → number_at (decimal n ++ l) ≡ number n (length (decimal n))
decimal-read n l h s = pick n (decimal-is n h)
  where
    pick : (n : ℕ) → Decimal n → number_at (decimal n ++ l) ≡ number n (length (decimal n))
    pick n (one k e) = simp e (one-digit n l k s)
    pick n (two k m e) = simp e (two_digits (n / 10) (n % 10) l k (omega arith) (omega arith) s ∙ ap (λ (v : ℕ). number v 2) (omega arith))
    pick n (three k m e) =
        simp e (three_digits (n / 100) (n / 10 % 10) (n % 10) l k (omega arith) (omega arith) (omega arith) s ∙ ap (λ (v : ℕ). number v 3) (omega arith))

pub decimal-long : (n : ℕ) → n < 1000 → (0 < length (decimal n)) × (length (decimal n) ≤ 3)
decimal-long n h = pick n (decimal-is n h)
  where
    pick : (n : ℕ) → Decimal n → (0 < length (decimal n)) × (length (decimal n) ≤ 3)
    pick n (one k e) = simp e (omega arith)
    pick n (two k m e) = simp e (omega arith)
    pick n (three k m e) = simp e (omega arith)

-- the first digit
pub decimal-first : (n : ℕ) → n < 1000 → (b : ℕ) × (bs : List ℕ) × (decimal n ≡ b ∷ bs) × (is_digit b ≡ true)
decimal-first n h = pick n (decimal-is n h)
  where
    pick : (n : ℕ) → Decimal n → (b : ℕ) × (bs : List ℕ) × (decimal n ≡ b ∷ bs) × (is_digit b ≡ true)
    pick n (one k e) = (48 + n, [], e, digit-is n k)
    pick n (two k m e) = (48 + n / 10, (48 + n % 10) ∷ [], e, digit-is (n / 10) (omega arith))
    pick n (three k m e) = (48 + n / 100, (48 + n / 10 % 10) ∷ (48 + n % 10) ∷ [], e, digit-is (n / 100) (omega arith))

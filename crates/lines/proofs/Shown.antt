-- A number's text as the library writes it is its decimal digits.
use Rattle.std.proofs.Common.{Bool, true, false, cond, List, [], ◌∷◌, ◌++◌, ◌≡◌, refl, ◌∙◌, ℕ, zero, suc, ◌+◌, ◌*◌, ◌/◌, ◌%◌, ◌^◌, ◌<◌, ◌≤◌, ltb, length, arith, append_assoc, length-append, sym}
use mathlib.Core.List.{append-nil}
use native.Mathlib.Nat.{mod-eq_of_lt, mod-lt, div-lt_iff_lt-mul, pow-suc}
use borrow.Author.Tests.{lt-ltb, ltb-true, ltb-false, ne_eqb}
use Rattle.std.specs.Fmt.{digit_glyph, digits, digits_onto, decimal}
use Rattle.lines.specs.Numbers.{digits_to, decimal_of}

last : (n : ℕ) → digit_glyph false (n % 10) ≡ 48 + n % 10
last n = rw (lt-ltb (n % 10) 10 (mod-lt n (omega arith)))

-- the library writes the digits onto those that stand behind them
digits_onto-are : (f k n : ℕ) (acc : List ℕ) → n < 10 ^ suc f → f < k → digits_onto k 10 false n acc ≡ digits_to (suc f) n ++ acc
unfolding digits_to
digits_onto-are f zero n acc h l = absurd (omega arith)
digits_onto-are zero (suc k) n acc h l =
    let t : n < 10 = omega arith in
    let z : n / 10 ≡ 0 = omega arith in
    rw (last n, z, lt-ltb n 10 t, mod-eq_of_lt t)
digits_onto-are (suc f) (suc k) n acc h l = go (ltb n 10) refl (λ m more under. digits_onto-are f k m more under (omega arith))
  where
    go : (b : Bool) → ltb n 10 ≡ b
        → ((m : ℕ) (more : List ℕ) → m < 10 ^ suc f → digits_onto k 10 false m more ≡ digits_to (suc f) m ++ more)
        → digits_onto (suc k) 10 false n acc ≡ digits_to (suc (suc f)) n ++ acc
    go true e front =
        let t : n < 10 = ltb-true n 10 e in
        let z : n / 10 ≡ 0 = omega arith in
        rw (last n, z, e, mod-eq_of_lt t)
    go false e front =
        let t : 10 ≤ n = ltb-false n 10 e in
        let some : 0 < n / 10 = omega arith in
        let under : n < 10 ^ suc f * 10 = rw (pow-suc 10 (suc f)) at h in
        let high : n / 10 < 10 ^ suc f = (div-lt_iff_lt-mul {k = 10} (omega arith)).1 under in
        let ih = front (n / 10) ((48 + n % 10) ∷ acc) high in
        rw (last n, ne_eqb (n / 10) 0 (omega arith), e) (ih ∙ sym (append_assoc (digits_to (suc f) (n / 10)) ((48 + n % 10) ∷ []) acc))

-- a number below 2 ^ 64 has at most 20 digits
pub decimal-is : (n : ℕ) → n < 2 ^ 64 → decimal n ≡ decimal_of n
unfolding digits
decimal-is n h = digits_onto-are 19 64 n [] (omega arith) (omega arith) ∙ append-nil (decimal_of n)

pub digits-most : (f n : ℕ) → length (digits_to f n) ≤ f
unfolding digits_to
digits-most zero n = omega arith
digits-most (suc f) n = go (ltb n 10) (digits-most f (n / 10))
  where
    go : (b : Bool) → length (digits_to f (n / 10)) ≤ f → length (cond b ((48 + n) ∷ []) (digits_to f (n / 10) ++ ((48 + n % 10) ∷ []))) ≤ suc f
    go true h = omega arith
    go false h = omega (arith, length-append (digits_to f (n / 10)) ((48 + n % 10) ∷ []))

-- Numbers in decimal digits, read with a bound and written.
use Rattle.std.specs.Prelude.{Bool, true, false, cond, not, Option, Some, None, ◌&&◌, List, [], ◌∷◌, ◌++◌, ℕ, zero, suc, ◌+◌, ◌-◌, ◌*◌, ◌/◌, ◌%◌, eqb, leb, ltb, length, get_or}
use Rattle.std.specs.List.{list_all}

abbrev pub is_digit : ℕ → Bool
is_digit b = leb 48 b && leb b 57

-- a digit's value, or none of any other byte
abbrev pub digit_of : ℕ → Option ℕ
digit_of b = cond (is_digit b) (Some (b - 48)) None

abbrev pub all_digits : List ℕ → Bool
all_digits l = list_all is_digit l

-- a 0 with more digits behind it
abbrev pub leading_zero : List ℕ → Bool
leading_zero l = eqb (get_or l 0 0) 48 && ltb 1 (length l)

-- the value of digits that stand behind those of v
unfoldable pub worth : ℕ → List ℕ → ℕ
worth v [] = v
worth v (b ∷ l) = worth (10 * v + (b - 48)) l

abbrev pub spelt : List ℕ → Bool
spelt l = ltb 0 (length l) && (not (leading_zero l) && all_digits l)

abbrev pub value_if : Bool → ℕ → Option ℕ
value_if true v = Some v
value_if false v = None

-- one digit or more, no leading zero but in 0 itself, and a value of at most `most`
unfoldable pub number_of : List ℕ → (most : ℕ) → Option ℕ
number_of l most = value_if (spelt l && leb (worth 0 l) most) (worth 0 l)

-- the digits of a number that has at most so many
unfoldable pub digits_to : ℕ → ℕ → List ℕ
digits_to zero n = []
digits_to (suc k) n =
    let more = digits_to k (n / 10) ++ ((48 + n % 10) ∷ []) in
    cond (ltb n 10) ((48 + n) ∷ []) more

-- a number below 2 ^ 64 has at most 20 digits
abbrev pub decimal_of : ℕ → List ℕ
decimal_of n = digits_to 20 n

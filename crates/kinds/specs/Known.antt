-- "25 is the number of no kind": what a look-up that may find nothing comes to.
use Rattle.std.specs.Prelude.{ℕ, zero, suc, cond, ltb, Option, Some, None}

abbrev pub kind_in : Option ℕ → ℕ
kind_in (Some k) = k
kind_in None = 25

-- a kind by its number, none where the number is no kind's
abbrev pub known_in : Option ℕ → Option ℕ
known_in (Some k) = cond (ltb k 25) (Some k) None
known_in None = None

-- a letter, where 0 stands for none
abbrev pub letter_of : ℕ → Option ℕ
letter_of zero = None
letter_of (suc n) = Some (suc n)

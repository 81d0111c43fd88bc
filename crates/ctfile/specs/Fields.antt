-- Document 02, §1: the columns of a line, and what a field of them holds.
use Rattle.std.specs.Prelude.{Bool, cond, ◌&&◌, ◌||◌, List, [], ◌∷◌, map, eqb, get_or}
use Prim.Native.Nat.{ℕ, compare, ◌+◌, ◌-◌, ◌*◌}
use Prim.Native.String.{String}
use Rattle.std.proofs.Math.Dec.{compare_is_eq}
use Rattle.lists.specs.Upto.{each}
use Rattle.lists.specs.Tests.{every}
use Rattle.lists.specs.Order.{lex}
use Rattle.lists.specs.Quoted.{bytes_of}
use Rattle.sling.specs.Scanned.{is_digit}

abbrev pub is_blank : ℕ → Bool
is_blank b = eqb b 32

abbrev pub are_blank : List ℕ → Bool
are_blank l = every (map is_blank l)

-- "Fixed columns (bytes)": so many bytes of a line behind its first k. What is cut off is blank.
unfoldable pub columns : (k width : ℕ) → List ℕ → List ℕ
columns k width l = each width (λ i. get_or l (k + i) 32)

abbrev pub is_text : String → List ℕ → Bool
is_text t l = compare_is_eq (lex compare (bytes_of t) l)

-- without the blanks before it
unfoldable pub unled : List ℕ → List ℕ
unled [] = []
unled (b ∷ bs) =
    let rest = unled bs in
    cond (is_blank b) rest (b ∷ bs)

-- without the blanks behind it
unfoldable pub untrailed : List ℕ → List ℕ
untrailed [] = []
untrailed (b ∷ bs) =
    let more = b ∷ untrailed bs in
    cond (are_blank (b ∷ bs)) [] more

-- the number that stands for none: three columns hold no more than 999
abbrev pub no_number : ℕ
no_number = 1000

-- digits to the blanks behind them, after digits that come to v
unfoldable pub decimal : ℕ → List ℕ → ℕ
decimal v [] = v
decimal v (b ∷ bs) =
    let more = decimal (10 * v + (b - 48)) bs in
    cond (is_digit b) more (cond (are_blank (b ∷ bs)) v no_number)

-- "A number: blanks, digits, blanks [..]; only blanks is 0 [..]. Anything else (inner blank, tab, letter, point) breaks the line."
unfoldable pub number_in : List ℕ → ℕ
number_in l = decimal 0 (unled l)

abbrev pub is_sign : ℕ → Bool
is_sign b = eqb b 43 || eqb b 45

unfoldable pub unsigned : List ℕ → List ℕ
unsigned [] = []
unsigned (b ∷ []) = b ∷ []
unsigned (b ∷ c ∷ l) = cond (is_sign b && is_digit c) (c ∷ l) (b ∷ c ∷ l)

-- "A sign only in the mass difference and the value of a property entry": how far such a number is from 0
unfoldable pub size_in : List ℕ → ℕ
size_in l = number_in (unsigned (unled l))

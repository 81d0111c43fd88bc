-- Document 01, "The text": "Items, left to right." A text is first cut into items.
use Rattle.std.specs.Prelude.{Bool, false, cond, not, ◌&&◌, ◌||◌, List, [], ◌∷◌, ℕ, zero, suc, ◌+◌, ◌-◌, ◌*◌, eqb, leb, ltb}
use Rattle.molecule.specs.Kinds.{kind_of_symbol}
use Rattle.sling.specs.Items.{Target, at, up, Item, atom, reference, ring}

-- an item and the number of its bytes
pub data Scanned : Type 0 where
  got : Item → ℕ → Scanned
  broken : Scanned

pub data Number : Type 0 where
  number : (value bytes : ℕ) → Number
  none : Number

abbrev pub is_digit : ℕ → Bool
is_digit b = leb 48 b && leb b 57

abbrev pub is_capital : ℕ → Bool
is_capital b = leb 65 b && leb b 90

abbrev pub is_small : ℕ → Bool
is_small b = leb 97 b && leb b 122

-- "A number is the longest run of digits"
unfoldable pub digits : List ℕ → List ℕ
digits [] = []
digits (b ∷ bs) =
    let more = b ∷ digits bs in
    cond (is_digit b) more []

-- "1 to 3 digits, no leading zero except 0 itself"
unfoldable pub valued : List ℕ → Number
valued [] = none
valued (a ∷ []) = number (a - 48) 1
valued (a ∷ b ∷ []) = cond (eqb a 48) none (number (10 * (a - 48) + (b - 48)) 2)
valued (a ∷ b ∷ c ∷ []) = cond (eqb a 48) none (number (100 * (a - 48) + 10 * (b - 48) + (c - 48)) 3)
valued (a ∷ b ∷ c ∷ d ∷ ds) = none

unfoldable pub number_at : List ℕ → Number
number_at l = valued (digits l)

-- a number after k bytes of its item, made into the item
abbrev pub placed : Number → ℕ → (Target → Item) → Scanned
placed none k f = broken
placed (number v n) k f = got (f (at v)) (k + n)

-- "and not 0 after `-`"
abbrev pub stepped : Number → ℕ → (Target → Item) → Scanned
stepped none k f = broken
stepped (number zero n) k f = broken
stepped (number (suc v) n) k f = got (f (up (suc v))) (k + n)

-- "a number or `-` and a number"
unfoldable pub target : List ℕ → ℕ → (Target → Item) → Scanned
target [] k f = broken
target (b ∷ bs) k f = cond (eqb b 45) (stepped (number_at bs) (suc k) f) (placed (number_at (b ∷ bs)) k f)

abbrev pub small_first : List ℕ → Bool
small_first [] = false
small_first (b ∷ bs) = is_small b

-- "or a two-letter symbol in parentheses, capital then small": what follows the `(`
unfoldable pub bracketed : List ℕ → ℕ → ℕ → Scanned
bracketed [] k m = broken
bracketed (c ∷ []) k m = broken
bracketed (c ∷ s ∷ []) k m = broken
bracketed (c ∷ s ∷ e ∷ l) k m =
    cond (is_capital c && is_small s && eqb e 41) (got (atom m (kind_of_symbol (c ∷ s ∷ []))) (k + 4)) broken

-- An atom or a ring bond after its mark of k bytes. "A capital outside parentheses with a small letter directly after it is one broken item"
unfoldable pub body : List ℕ → ℕ → ℕ → Scanned
body [] k m = broken
body (b ∷ bs) k m =
    cond (eqb b 47) (target bs (suc k) (ring m))
    (cond (eqb b 40) (bracketed bs k m)
    (cond (is_capital b && not (small_first bs)) (got (atom m (kind_of_symbol (b ∷ []))) (suc k)) broken))

-- "`=` double, `*` triple, `<` delocalised, none for single"
abbrev pub mark_of : ℕ → ℕ
mark_of b = cond (eqb b 61) 2 (cond (eqb b 42) 3 (cond (eqb b 60) 4 1))

-- The item at the head of a text. "Reference: an optional `+` and a number, or `-` and a number."
unfoldable pub scan : List ℕ → Scanned
scan [] = broken
scan (b ∷ bs) =
    cond (ltb 1 (mark_of b)) (body bs 1 (mark_of b))
    (cond (eqb b 43) (placed (number_at bs) 1 reference)
    (cond (is_digit b || eqb b 45) (target (b ∷ bs) 0 reference) (body (b ∷ bs) 0 1)))

-- An item with the offset of its first byte. Nothing is cut off behind a broken item.
pub data Token : Type 0 where
  tok : (offset : ℕ) → Item → Token
  bad : (offset : ℕ) → Token

-- what was scanned at an offset; `next` cuts what follows after so many bytes more
abbrev pub token : Scanned → ℕ → (ℕ → List Token) → List Token
token (got i n) o next = tok o i ∷ next (n - 1)
token broken o next = bad o ∷ []

-- The tokens of a text from an offset on; the first number is how many bytes of the item before are still to be passed over.
unfoldable pub tokens : List ℕ → ℕ → ℕ → List Token
tokens [] k o = []
tokens (b ∷ bs) (suc k) o = tokens bs k (suc o)
tokens (b ∷ bs) zero o = token (scan (b ∷ bs)) o (λ k. tokens bs k (suc o))

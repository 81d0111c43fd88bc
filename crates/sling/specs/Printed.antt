-- Document 01, "Writing the name": the bytes of the items.
use Rattle.std.specs.Prelude.{Bool, true, false, cond, List, [], ◌∷◌, ◌++◌, ℕ, ◌+◌, ◌/◌, ◌%◌, eqb, ltb, length}
use Rattle.molecule.specs.Kinds.{symbol_of}
use Rattle.molecule.specs.Molecule.{Molecule}
use Rattle.sling.specs.Items.{Target, at, up, Item, atom, reference, ring}
use Rattle.sling.specs.Walk.{written}

-- a number below 1,000 in decimal
unfoldable pub decimal : ℕ → List ℕ
decimal n =
    cond (ltb n 10) ((48 + n) ∷ [])
    (cond (ltb n 100) ((48 + n / 10) ∷ (48 + n % 10) ∷ []) ((48 + n / 100) ∷ (48 + n / 10 % 10) ∷ (48 + n % 10) ∷ []))

-- "`=` double, `*` triple, `<` delocalised, none for single"
abbrev pub mark_bytes : ℕ → List ℕ
mark_bytes m = cond (eqb m 2) (61 ∷ []) (cond (eqb m 3) (42 ∷ []) (cond (eqb m 4) (60 ∷ []) []))

-- "a capital letter [..] or a two-letter symbol in parentheses"
abbrev pub symbol_bytes : ℕ → List ℕ
symbol_bytes k = cond (eqb (length (symbol_of k)) 1) (symbol_of k) (40 ∷ (symbol_of k ++ (41 ∷ [])))

abbrev pub target_bytes : Target → List ℕ
target_bytes (at p) = decimal p
target_bytes (up k) = 45 ∷ decimal k

-- "with `+` only if a digit stands before it"
abbrev pub plus : Bool → Target → List ℕ
plus d (at p) = cond d (43 ∷ []) []
plus d (up k) = []

unfoldable pub item_bytes : Bool → Item → List ℕ
item_bytes d (atom m k) = mark_bytes m ++ symbol_bytes k
item_bytes d (reference t) = plus d t ++ target_bytes t
item_bytes d (ring m t) = mark_bytes m ++ 47 ∷ target_bytes t

abbrev pub ends_in_digit : Item → Bool
ends_in_digit (atom m k) = false
ends_in_digit (reference t) = true
ends_in_digit (ring m t) = true

-- the first argument says whether a digit stands before
unfoldable pub bytes : Bool → List Item → List ℕ
bytes d [] = []
bytes d (i ∷ is) = item_bytes d i ++ bytes (ends_in_digit i) is

-- the name of a molecule whose atom r - 1 has rank r
unfoldable pub name_bytes : Molecule → List ℕ
name_bytes W = bytes false (written W).items

-- Document 01, "Numbers of refusal": an item judged "by 2, 3, 5, 7, 6, 4", and the first faulty item of a text.
use Rattle.std.specs.Prelude.{Bool, true, false, cond, not, ◌&&◌, ◌||◌, List, [], ◌∷◌, map, ℕ, zero, suc, eqb, leb, ltb, length}
use Rattle.lists.specs.Tests.{count, some}
use Rattle.molecule.specs.Bonds.{on, joins}
use Rattle.molecule.specs.Limits.{most_atoms, most_hydrogens_on, most_hydrogens, most_bonds, most_bonds_on}
use Rattle.sling.specs.Items.{Item, atom, reference, ring}
use Rattle.sling.specs.Scanned.{Token, tok, bad}
use Rattle.sling.specs.Reading.{State, place_of, goal, after, is_h, to_h, hydrogens_on, bonds_on}

abbrev pub is_first : State → Bool
is_first st = eqb (length st.kinds) 0

-- 2: "The first is an atom without a mark."
abbrev pub misplaced : State → Item → Bool
misplaced st (atom m k) = is_first st && ltb 1 m
misplaced st (reference t) = is_first st
misplaced st (ring m t) = is_first st

-- 3: "A capital, or a capital and small letter in parentheses, that is no such symbol is refused 3."
abbrev pub unknown : Item → Bool
unknown (atom m k) = ltb 24 k
unknown (reference t) = false
unknown (ring m t) = false

-- 5: "atom or place not there"
abbrev pub missing : State → Item → Bool
missing st (atom m k) = false
missing st (reference t) = leb (length st.kinds) (place_of st t)
missing st (ring m t) = leb (length st.kinds) (place_of st t)

-- does an item draw a bond, and of which code
abbrev pub draws : State → Item → Bool
draws st (atom m k) = not (is_first st)
draws st (reference t) = false
draws st (ring m t) = true

abbrev pub code_of : Item → ℕ
code_of (atom m k) = m
code_of (reference t) = 1
code_of (ring m t) = m

-- 7: "An H has exactly one bond, single, to an atom that isn't H": judged of the ends of the bond drawn, once it is there
abbrev pub wrong_h : State → ℕ → ℕ → ℕ → Bool
wrong_h st p q m = is_h st p && (is_h st q || ltb 1 m || ltb 1 (count (map (on p) st.bonds)))

abbrev pub broken_h : State → Item → Bool
broken_h st i =
    draws st i
    && (wrong_h (after st i) st.cursor (goal st i) (code_of i) || wrong_h (after st i) (goal st i) st.cursor (code_of i))

-- 6: "bond to itself, second bond on a pair"
abbrev pub bad_bond : State → Item → Bool
bad_bond st (atom m k) = false
bad_bond st (reference t) = false
bad_bond st (ring m t) = eqb st.cursor (place_of st t) || some (map (joins st.cursor (place_of st t)) st.bonds)

-- 4: "a limit passed" by the folded table: atoms, hydrogens and bonds in all, and at the two ends
abbrev pub heavy_atoms : State → ℕ
heavy_atoms st = count (map (λ k. not (eqb k 0)) st.kinds)

abbrev pub hydrogen_atoms : State → ℕ
hydrogen_atoms st = count (map (λ k. eqb k 0) st.kinds)

abbrev pub heavy_bonds : State → ℕ
heavy_bonds st = count (map (λ b. not (to_h st b)) st.bonds)

abbrev pub over_at : State → ℕ → Bool
over_at st p = ltb most_hydrogens_on (hydrogens_on st p) || ltb most_bonds_on (bonds_on st p)

abbrev pub over : State → ℕ → ℕ → Bool
over st p q =
    ltb most_atoms (heavy_atoms st) || ltb most_hydrogens (hydrogen_atoms st) || ltb most_bonds (heavy_bonds st) || over_at st p || over_at st q

unfoldable pub item_fault : State → Item → ℕ
item_fault st i =
    cond (misplaced st i) 2
    (cond (unknown i) 3
    (cond (missing st i) 5
    (cond (broken_h st i) 7
    (cond (bad_bond st i) 6
    (cond (over (after st i) st.cursor (goal st i)) 4 0)))))

-- what reading comes to: a refusal with the offset of the item's first byte, or all items read
pub data Outcome : Type 0 where
  stopped : (refusal place : ℕ) → Outcome
  finished : State → Outcome

abbrev pub judged : ℕ → ℕ → State → (State → Outcome) → Outcome
judged zero o st next = next st
judged (suc n) o st next = stopped (suc n) o

-- "the first faulty item"
unfoldable pub run : List Token → State → Outcome
run [] st = finished st
run (bad o ∷ ts) st = stopped 2 o
run (tok o i ∷ ts) st = judged (item_fault st i) o (after st i) (run ts)

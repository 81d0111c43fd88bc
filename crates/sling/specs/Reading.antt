-- Document 01, "The text": what a reader has, and what each item adds to it.
use Rattle.std.specs.Prelude.{Bool, cond, not, ◌&&◌, ◌||◌, List, [], ◌∷◌, ◌++◌, map, ℕ, zero, suc, eqb, length, get_or}
use Rattle.lists.specs.Tests.{count}
use Rattle.molecule.specs.Bonds.{Bond, on}
use Rattle.sling.specs.Items.{Target, at, up, Item, atom, reference, ring}

-- by place, the atoms so far with their kinds and the places at which they were attached; the bonds between places; the cursor's place
pub record State : Type 0 where
  pub kinds : List ℕ
  pub ups : List ℕ
  pub bonds : List Bond
  pub cursor : ℕ

abbrev pub start : State
start = record { kinds = []; ups = []; bonds = []; cursor = 0 }

-- "`-k` means k steps up, a step going to the atom at which the present one was attached": too many steps lead to no place
unfoldable pub climb : State → ℕ → ℕ → ℕ
climb st zero p = p
climb st (suc k) zero = length st.kinds
climb st (suc k) (suc p) = climb st k (get_or st.ups (suc p) 0)

abbrev pub place_of : State → Target → ℕ
place_of st (at p) = p
place_of st (up k) = climb st k st.cursor

-- the place that the cursor moves to: a new atom's is the number of atoms before it
abbrev pub goal : State → Item → ℕ
goal st (atom m k) = length st.kinds
goal st (reference t) = place_of st t
goal st (ring m t) = place_of st t

-- the bond drawn from the cursor, added to those that are there
abbrev pub drawn : State → ℕ → ℕ → List Bond
drawn st p m = st.bonds ++ (record { one = st.cursor; two = p; code = m } ∷ [])

-- Atom: "It is bonded to the cursor's atom and the cursor moves to it." Reference: "The cursor moves, with no bond." Ring bond: "A bond to
-- the atom named; the cursor moves there."
unfoldable pub after : State → Item → State
after st (atom m k) =
    record {
      kinds = st.kinds ++ (k ∷ []);
      ups = st.ups ++ (st.cursor ∷ []);
      bonds = cond (eqb (length st.kinds) 0) [] (drawn st (length st.kinds) m);
      cursor = length st.kinds;
    }
after st (reference t) = record { kinds = st.kinds; ups = st.ups; bonds = st.bonds; cursor = place_of st t }
after st (ring m t) = record { kinds = st.kinds; ups = st.ups; bonds = drawn st (place_of st t) m; cursor = place_of st t }

abbrev pub is_h : State → ℕ → Bool
is_h st p = eqb (get_or st.kinds p 0) 0

-- "it is folded into that atom's hydrogens": a bond to an H counts as a hydrogen, any other as a bond
abbrev pub to_h : State → Bond → Bool
to_h st b = is_h st b.one || is_h st b.two

abbrev pub hydrogens_on : State → ℕ → ℕ
hydrogens_on st p = count (map (λ b. on p b && to_h st b) st.bonds)

abbrev pub bonds_on : State → ℕ → ℕ
bonds_on st p = count (map (λ b. on p b && not (to_h st b)) st.bonds)

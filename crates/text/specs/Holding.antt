-- What a reader has, as the rules have it.
use Rattle.std.specs.Prelude.{ℕ, ◌≤◌, ◌<◌, ◌≡◌, List, [], ◌∷◌, ◌++◌, map, Bool, cond, ◌||◌, length, get_or, eqb}
use Rattle.lists.specs.Upto.{each}
use Rattle.molecule.specs.Bonds.{Bond}
use Rattle.sling.specs.Items as rule
use Rattle.sling.specs.Scanned.{tok}
use Rattle.sling.specs.Reading as rules
use Rattle.sling.specs.Reading.{drawn, hydrogens_on, bonds_on}
use Rattle.sling.specs.Faults.{code_of, heavy_atoms, hydrogen_atoms, heavy_bonds, item_fault, finished, run}
use Rattle.text.specs.declared.state.TextAtom.{TextAtom}
use Rattle.text.specs.declared.state.TextBond.{TextBond}
use Rattle.text.specs.declared.state.State.{State}

abbrev pub no_atom : TextAtom
no_atom = record { kind = 0; up = 0; hydrogens = 0; bonds = 0 }

abbrev pub no_bond : TextBond
no_bond = record { one = 0; two = 0; code = 0 }

abbrev pub atom_at : State → ℕ → TextAtom
atom_at st p = get_or st.placed p no_atom

abbrev pub bond_of : TextBond → Bond
bond_of d = record { one = d.one; two = d.two; code = d.code }

abbrev pub bond_at : State → ℕ → Bond
bond_at st k = bond_of (get_or st.links k no_bond)

abbrev pub view_of : State → rules.State
view_of st =
    record {
      kinds = each st.n (λ p. (atom_at st p).kind);
      ups = each st.n (λ p. (atom_at st p).up);
      bonds = each st.drawn (bond_at st);
      cursor = st.cursor.0;
    }

-- What a state keeps: the arrays have their lengths, an atom was attached no later than it came, and the counts are the rules'.
pub record Tallied (st : State) : Type 0 where
  pub places : st.n ≤ 192
  pub drawn : st.drawn ≤ 208
  pub placed_long : length st.placed ≡ 192
  pub links_long : length st.links ≡ 208
  pub attached : (p : ℕ) → (atom_at st p).up ≤ p
  pub cursor : st.cursor.0 ≤ st.n
  pub heavy_atoms : st.atoms ≡ heavy_atoms (view_of st)
  pub hydrogen_atoms : st.total ≡ hydrogen_atoms (view_of st)
  pub heavy_bonds : st.bonds ≡ heavy_bonds (view_of st)
  pub hydrogens_on : (p : ℕ) → p < 192 → (atom_at st p).hydrogens ≡ hydrogens_on (view_of st) p
  pub bonds_on : (p : ℕ) → p < 192 → (atom_at st p).bonds ≡ bonds_on (view_of st) p

-- each item has the code of a mark
abbrev pub Marked : List rule.Item → Type 0
Marked [] = Unit {0}
Marked (i ∷ is) = ((0 < code_of i) × (code_of i ≤ 4)) × Marked is

-- some items lead to it, and none of them is refused
pub record Reached (s : rules.State) : Type 0 where
  pub items : List rule.Item
  pub marked : Marked items
  pub is : run (map (tok 0) items) rules.start ≡ finished s

pub record Held (st : State) : Type 0 where
  pub tallied : Tallied st
  pub reached : Reached (view_of st)

abbrev pub bit : Bool → ℕ
bit b = cond b 1 0

abbrev pub h_bit : ℕ → Bool
h_bit k = eqb k 0

abbrev pub h_bond : ℕ → ℕ → Bool
h_bond k j = h_bit k || h_bit j

-- the three changes of which an item's are made up
abbrev pub grown_by : rules.State → ℕ → rules.State
grown_by s k = record { kinds = s.kinds ++ (k ∷ []); ups = s.ups ++ (s.cursor ∷ []); bonds = s.bonds; cursor = s.cursor }

abbrev pub moved_to : rules.State → ℕ → rules.State
moved_to s p = record { kinds = s.kinds; ups = s.ups; bonds = s.bonds; cursor = p }

abbrev pub bonded_by : rules.State → ℕ → ℕ → rules.State
bonded_by s p m = record { kinds = s.kinds; ups = s.ups; bonds = drawn s p m; cursor = p }

-- there is room for a bond from the cursor to p
pub record Drawable (st : State) (p : ℕ) : Type 0 where
  pub bonds : st.drawn < 208
  pub heavy : st.bonds ≤ 80
  pub from : st.cursor.0 < st.n
  pub to : p < st.n
  pub apart : st.cursor.0 ≡ p → ⊥
  pub few_h : (atom_at st st.cursor.0).hydrogens ≤ 4
  pub few_h' : (atom_at st p).hydrogens ≤ 4
  pub few : (atom_at st st.cursor.0).bonds ≤ 6
  pub few' : (atom_at st p).bonds ≤ 6

-- an item with the code of a mark, and not refused
pub record Judged (s : rules.State) (i : rule.Item) : Type 0 where
  pub marked : (0 < code_of i) × (code_of i ≤ 4)
  pub clear : item_fault s i ≡ 0

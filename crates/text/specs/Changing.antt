-- What an item changes.
use Rattle.std.specs.Prelude.{ℕ, ◌+◌, ◌≤◌, ◌<◌, ◌≢◌, Bool, true, false, not, ◌≡◌, eqb, length, set}
use Rattle.sling.specs.Items as rule
use Rattle.sling.specs.Reading as rules
use Rattle.text.specs.declared.item.Place.{Place}
use Rattle.text.specs.declared.state.TextAtom.{TextAtom}
use Rattle.text.specs.declared.state.State.{State}
use Rattle.text.specs.Holding.{view_of, atom_at, Held, Judged, bit, h_bit, h_bond}

abbrev pub moved : Place → State → State
moved p st =
    record {
      placed = st.placed;
      links = st.links;
      n = st.n;
      drawn = st.drawn;
      atoms = st.atoms;
      total = st.total;
      bonds = st.bonds;
      cursor = p;
    }

-- an atom with no bond yet
abbrev pub fresh : (kind up : ℕ) → TextAtom
fresh k u = record { kind = k; up = u; hydrogens = 0; bonds = 0 }

-- an atom more of kind k
abbrev pub grown : ℕ → State → State
grown k st =
    record {
      placed = set st.placed st.n (fresh k st.cursor.0);
      links = st.links;
      n = st.n + 1;
      drawn = st.drawn;
      atoms = st.atoms + bit (not (h_bit k));
      total = st.total + bit (h_bit k);
      bonds = st.bonds;
      cursor = st.cursor;
    }

-- a bond more on an atom, to an H or another
abbrev pub raised : Bool → TextAtom → TextAtom
raised h a = record { kind = a.kind; up = a.up; hydrogens = a.hydrogens + bit h; bonds = a.bonds + bit (not h) }

-- would a bond between two places be one to an H
abbrev pub h_between : State → (c p : ℕ) → Bool
h_between st c p = h_bond (atom_at st c).kind (atom_at st p).kind

-- the atom at a place with a bond more
abbrev pub raised_at : Bool → ℕ → State → State
raised_at h p st =
    record {
      placed = set st.placed p (raised h (atom_at st p));
      links = st.links;
      n = st.n;
      drawn = st.drawn;
      atoms = st.atoms;
      total = st.total;
      bonds = st.bonds;
      cursor = st.cursor;
    }

-- a bond more from the cursor to p, which moves there
abbrev pub bonded : Place → ℕ → State → State
bonded p m st =
    let h = h_between st st.cursor.0 p.0 in
    record {
      placed = (raised_at h p.0 (raised_at h st.cursor.0 st)).placed;
      links = set st.links st.drawn (record { one = st.cursor.0; two = p.0; code = m });
      n = st.n;
      drawn = st.drawn + 1;
      atoms = st.atoms;
      total = st.total;
      bonds = st.bonds + bit (not h);
      cursor = p;
    }

-- there is room for an atom more
pub record Growable (st : State) : Type 0 where
  pub long : length st.placed ≡ 192
  pub places : st.n < 192
  pub cursor : st.cursor.0 ≤ st.n
  pub atoms : st.atoms ≤ 64
  pub total : st.total ≤ 128

-- steps can be gone up from the cursor
pub record Climbable (st : State) : Type 0 where
  pub long : length st.placed ≡ 192
  pub from : st.cursor.0 < st.n
  pub places : st.n ≤ 192
  pub attached : (p : ℕ) → (atom_at st p).up ≤ p

-- an item with its atom named by place; where there is no atom yet, as it is
abbrev pub resolved_if : Bool → rules.State → rule.Item → rule.Item
resolved_if true s i = i
resolved_if false s (rule.atom m k) = rule.atom m k
resolved_if false s (rule.reference t) = rule.reference (rule.at (rules.place_of s t))
resolved_if false s (rule.ring m t) = rule.ring m (rule.at (rules.place_of s t))

abbrev pub resolved : rules.State → rule.Item → rule.Item
resolved s i = resolved_if (eqb (length s.kinds) 0) s i

-- there is room for a bond from the cursor to p
pub record Bondable (st : State) (p : ℕ) : Type 0 where
  pub placed_long : length st.placed ≡ 192
  pub links_long : length st.links ≡ 208
  pub drawn : st.drawn < 208
  pub heavy : st.bonds ≤ 80
  pub from : st.cursor.0 < 192
  pub to : p < 192
  pub apart : st.cursor.0 ≢ p
  pub few_h : (atom_at st st.cursor.0).hydrogens ≤ 6
  pub few_h' : (atom_at st p).hydrogens ≤ 6
  pub few : (atom_at st st.cursor.0).bonds ≤ 6
  pub few' : (atom_at st p).bonds ≤ 6

-- a state and an item that can follow it, and the state after it
pub record Continues (st : State) (i : rule.Item) : Type 0 where
  pub held : Held st
  pub judged : Judged (view_of st) i

pub record Follows (st : State) (i : rule.Item) (st' : State) : Type 0 where
  pub is : view_of st' ≡ rules.after (view_of st) i
  pub held : Held st'

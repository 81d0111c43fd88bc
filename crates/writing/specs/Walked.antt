-- A table's atoms in rank order as the walk reads them, and the sheet that it writes.
use Rattle.std.specs.Prelude.{◌≡◌, ℕ, suc, ◌+◌, ◌*◌, ◌<◌, ◌≤◌, length, get_or, take, drop}
use Rattle.molecule.specs.Molecule.{Molecule, kind, hydrogens, neighbours}
use Rattle.sling.specs.Walk.{Written, finish, trace}
use Rattle.table.specs.declared.Table.{Table}
use Rattle.writing.specs.declared.Served.{Served}
use Rattle.writing.specs.declared.walk.Sheet.{Sheet}
use Rattle.writing.specs.Shown.{size, At, Lettered, Noted}

-- the row of atom a: so many neighbours as its degree says, ascending, and beside each the bond's code
pub record Lent (t : Table) (W : Molecule) : Type 0 where
  pub atoms : W.size ≤ 64
  pub kinds_long : length t.kinds ≡ 64
  pub kind_of : (a : ℕ) → a < W.size → kind W a ≡ get_or t.kinds a 0
  pub hydrogens_of : (a : ℕ) → a < W.size → hydrogens W a ≡ get_or t.hydrogens a 0
  pub few : (a : ℕ) → a < W.size → get_or t.rows.degrees a 0 ≤ 6
  pub row : (a : ℕ) → a < W.size → neighbours W a ≡ take (get_or t.rows.degrees a 0) (drop (6 * a) t.rows.near)
  pub near_long : length t.rows.near ≡ 384
  pub inside : (a p : ℕ) → a < W.size → p < get_or t.rows.degrees a 0 → get_or t.rows.near (6 * a + p) 0 < W.size
  pub code_of : (a p : ℕ) → a < W.size → p < get_or t.rows.degrees a 0 → W.code a (get_or t.rows.near (6 * a + p) 0) ≡ get_or t.rows.codes (6 * a + p) 0

pub record Shows (n : ℕ) (s : Sheet) (w : Written) : Type 0 where
  pub text : Lettered s.pen w
  pub notes : Noted n s.places s.traced w

-- the atom served can be finished to a depth of d, and the name has room for what that writes
pub record Finishing (t : Table) (s : Sheet) (v : Served) (d : ℕ) (W : Molecule) (w : Written) : Type 0 where
  pub lent : Lent t W
  pub shown : Shows W.size s w
  pub atom : v.atom.0 < W.size
  pub on : At w (suc v.atom.0) v.place
  pub room : size (finish d W (suc v.atom.0) w) ≤ 2048

-- the bond in slot p of the row of the atom served can be traced
pub record Tracing (t : Table) (s : Sheet) (v : Served) (p d : ℕ) (W : Molecule) (w : Written) : Type 0 where
  pub lent : Lent t W
  pub shown : Shows W.size s w
  pub atom : v.atom.0 < W.size
  pub slot : p < get_or t.rows.degrees v.atom.0 0
  pub on : At w (suc v.atom.0) v.place
  pub room : size (trace (finish d W) W (suc v.atom.0) (suc (get_or t.rows.near (6 * v.atom.0 + p) 0)) w) ≤ 2048

-- what the two functions of the walk ask: some molecule and some walk that the table and the sheet show; and what they give, of each such
abbrev pub Finishable : Table → Sheet → Served → ℕ → Type 0
Finishable t s v d = (W : Molecule) × (w : Written) × Finishing t s v d W w

abbrev pub Finished : Table → (before after : Sheet) → Served → ℕ → Type 0
Finished t s s' v d = (W : Molecule) (w : Written) → Finishing t s v d W w → Shows W.size s' (finish d W (suc v.atom.0) w)

abbrev pub Traceable : Table → Sheet → Served → (p d : ℕ) → Type 0
Traceable t s v p d = (W : Molecule) × (w : Written) × Tracing t s v p d W w

abbrev pub Traced : Table → (before after : Sheet) → Served → (p d : ℕ) → Type 0
Traced t s s' v p d =
    (W : Molecule) (w : Written)
    → Tracing t s v p d W w → Shows W.size s' (trace (finish d W) W (suc v.atom.0) (suc (get_or t.rows.near (6 * v.atom.0 + p) 0)) w)

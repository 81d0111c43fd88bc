-- What the reader of a card gives: a refusal, and where there is none a table whose view is the card's molecule.
use Rattle.std.specs.Prelude.{not, List, [], ◌∷◌, map, ◌≡◌, ℕ, ◌<◌, eqb, length, Result, IfOk}
use Rattle.lists.specs.Tests.{count, some}
use Rattle.molecule.specs.Bonds.{on, joins, code_in}
use Rattle.molecule.specs.Molecule.{neighbours}
use Rattle.molecule.specs.Renumbering.{Renumbered}
use Rattle.molecule.specs.Refusals.{or_next}
use Rattle.molecule.specs.Layout.{atom_count, kind_at, hydrogens_at, bond_count, bonds_to}
use Rattle.molecule.specs.Judged.{molecule_of, atoms_fault, total_fault, bonds_fault, card_fault}
use Rattle.refusal.specs.declared.Refusal.{Refusal}
use Rattle.refusal.specs.Numbers.{refusal_in}
use Rattle.table.specs.declared.Table.{Table}
use Rattle.table.specs.View.{view_of, TidyTable}

-- the table has the card's first atoms, and of its bonds the first k
pub record Holds (s : List ℕ) (atoms k : ℕ) (t : Table) : Type 0 where
  pub tidy : TidyTable t
  pub size : t.n ≡ atoms
  pub label : (a : ℕ) → a < atoms → (view_of t).label a ≡ kind_at s a ∷ hydrogens_at s a ∷ []
  pub code : (x y : ℕ) → x < atoms → y < atoms → (view_of t).code x y ≡ code_in (bonds_to s k) x y
  pub degree : (x : ℕ) → x < atoms → length (neighbours (view_of t) x) ≡ count (map (on x) (bonds_to s k))
  pub paired : (x y : ℕ) → some (map (joins x y) (bonds_to s k)) ≡ not (eqb (code_in (bonds_to s k) x y) 0)

pub record AtomsRead (s : List ℕ) (r : Result Table Refusal) : Type 0 where
  pub refusal : refusal_in r ≡ or_next (atoms_fault s) (total_fault s)
  pub table : IfOk r (Holds s (atom_count s) 0)

-- the bonds are read into a table that has the atoms
pub record BondsRead (s : List ℕ) (r : Result Table Refusal) : Type 0 where
  pub refusal : refusal_in r ≡ bonds_fault s
  pub table : IfOk r (Holds s (atom_count s) (bond_count s))

pub record IsRead (s : List ℕ) (r : Result Table Refusal) : Type 0 where
  pub refusal : refusal_in r ≡ card_fault s
  pub tidy : IfOk r TidyTable
  pub view : IfOk r (λ t. Renumbered (λ a. a) (molecule_of s) (view_of t))

-- The molecule that a text writes, put together atom by atom and bond by bond.
use Rattle.std.specs.Prelude.{ℕ, ◌<◌, ◌≡◌, List, [], ◌∷◌, not, length, get_or}
use Rattle.lists.specs.Upto.{upto}
use Rattle.lists.specs.Tests.{keep}
use Rattle.molecule.specs.Molecule.{Molecule, neighbours}
use Rattle.sling.specs.Reading as rules
use Rattle.sling.specs.Reading.{is_h, hydrogens_on}
use Rattle.table.specs.declared.AtomNo.{AtomNo}
use Rattle.table.specs.declared.Table.{Table}
use Rattle.table.specs.View as table
use Rattle.table.specs.View.{TidyTable}
use Rattle.text.specs.declared.state.State.{State}
use Rattle.text.specs.declared.fold.Bare.{Bare}
use Rattle.text.specs.Holding.{view_of}

abbrev pub molecule_of : Table → Molecule
molecule_of t = table.view_of t

-- the places below i that have no H
abbrev pub heavies_to : rules.State → ℕ → List ℕ
heavies_to s i = keep (λ p. not (is_h s p)) (upto i)

-- the atoms at them, without bonds
pub record BareTo (s : rules.State) (i : ℕ) (M : Molecule) : Type 0 where
  pub size : M.size ≡ length (heavies_to s i)
  pub label : (a : ℕ) → a < M.size → M.label a ≡ get_or s.kinds (get_or (heavies_to s i) a 0) 0 ∷ hydrogens_on s (get_or (heavies_to s i) a 0) ∷ []
  pub code : (a b : ℕ) → a < M.size → b < M.size → M.code a b ≡ 0
  pub none : (a : ℕ) → a < M.size → length (neighbours M a) ≡ 0

-- the number that stands at a place
abbrev pub number_at : List AtomNo → ℕ → ℕ
number_at l p = (get_or l p (record { 0 = 0 })).0

pub record Bares (st : State) (r : Bare) : Type 0 where
  pub tidy : TidyTable r.table
  pub is : BareTo (view_of st) st.n (molecule_of r.table)
  pub long : length r.numbers ≡ 192
  pub numbers : (p : ℕ) → p < st.n → number_at r.numbers p ≡ length (heavies_to (view_of st) p)

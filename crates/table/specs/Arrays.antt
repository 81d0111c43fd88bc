-- A table's number arrays as a molecule: what is said of a function that is lent the arrays and not the table.
use Rattle.std.specs.Prelude.{List, [], ◌∷◌, ◌≡◌, ℕ, suc, ◌+◌, ◌*◌, ◌<◌, ◌≤◌, eqb, length, get_or, take, drop}
use Rattle.lists.specs.Tests.{find}
use Rattle.molecule.specs.Molecule.{Molecule}

-- the number of atoms, and the arrays
pub record Arrays : Type 0 where
  pub n : ℕ
  pub kinds : List ℕ
  pub hydrogens : List ℕ
  pub degrees : List ℕ
  pub near : List ℕ
  pub codes : List ℕ

-- the row of atom a among slots of which each atom has six
abbrev pub row_in : (degrees slots : List ℕ) → ℕ → List ℕ
row_in degrees slots a = take (get_or degrees a 0) (drop (6 * a) slots)

-- the code that stands in the row of a where b does, 0 where b is not in it
unfoldable pub code_found : (degrees near codes : List ℕ) → ℕ → ℕ → ℕ
code_found degrees near codes a b = get_or (row_in degrees codes a) (find (λ x. eqb x b) (row_in degrees near a)) 0

unfoldable pub as_molecule : Arrays → Molecule
as_molecule t =
    record {
      size = t.n;
      label = λ a. get_or t.kinds a 0 ∷ get_or t.hydrogens a 0 ∷ [];
      code = code_found t.degrees t.near t.codes;
    }

-- What every table keeps: the arrays have their lengths, and each row has at most six atoms of the table, ascending.
pub record Tidy (t : Arrays) : Type 0 where
  pub atoms : t.n ≤ 64
  pub kinds_long : length t.kinds ≡ 64
  pub hydrogens_long : length t.hydrogens ≡ 64
  pub degrees_long : length t.degrees ≡ 64
  pub near_long : length t.near ≡ 384
  pub codes_long : length t.codes ≡ 384
  pub few : (a : ℕ) → a < t.n → get_or t.degrees a 0 ≤ 6
  pub inside : (a p : ℕ) → a < t.n → p < get_or t.degrees a 0 → get_or t.near (6 * a + p) 0 < t.n
  pub ascending : (a p : ℕ) → a < t.n → suc p < get_or t.degrees a 0 → get_or t.near (6 * a + p) 0 < get_or t.near (6 * a + suc p) 0
  pub coded : (a p : ℕ) → a < t.n → p < get_or t.degrees a 0 → (0 < get_or t.codes (6 * a + p) 0) × (get_or t.codes (6 * a + p) 0 ≤ 4)

-- The row of a lies within the slots: what is asked where arrays are lent and not the table.
pub record HasRow (degrees slots : List ℕ) (a : ℕ) : Type 0 where
  pub atom : a < 64
  pub few : get_or degrees a 0 ≤ 6
  pub long : length slots ≡ 384

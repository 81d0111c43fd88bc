-- A table as the rules' molecule: the only thing that callers' proofs use of it.
use Rattle.std.specs.Prelude.{◌≡◌, ℕ, ◌<◌}
use Rattle.molecule.specs.Molecule.{Molecule}
use Rattle.table.specs.declared.Table.{Table}
use Rattle.table.specs.Arrays.{Arrays, as_molecule, Tidy}

abbrev pub arrays_of : Table → Arrays
arrays_of t =
    record { n = t.n; kinds = t.kinds; hydrogens = t.hydrogens; degrees = t.rows.degrees; near = t.rows.near; codes = t.rows.codes }

abbrev pub view_of : Table → Molecule
view_of t = as_molecule (arrays_of t)

abbrev pub TidyTable : Table → Type 0
TidyTable t = Tidy (arrays_of t)

-- the code of two atoms does not depend on which comes first
abbrev pub EvenTable : Table → Type 0
EvenTable t = (a b : ℕ) → a < t.n → b < t.n → (view_of t).code a b ≡ (view_of t).code b a

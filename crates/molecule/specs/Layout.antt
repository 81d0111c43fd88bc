-- Document 01, "The card": where its parts stand.
use Rattle.std.specs.Prelude.{Bool, ◌&&◌, List, ℕ, suc, ◌+◌, ◌*◌, ◌/◌, ◌%◌, eqb, length, get_or}
use Rattle.lists.specs.Upto.{each}
use Rattle.molecule.specs.Bonds.{Bond}
use Rattle.molecule.specs.Kinds.{kind_of_number}

-- "two bytes length (high byte first)"
abbrev pub length_at : List ℕ → ℕ → ℕ
length_at s i = 256 * get_or s i 0 + get_or s (suc i) 0

-- "Tagged fields: one byte tag, two bytes length, value. Tag 1, then tag 2"
abbrev pub atoms_length : List ℕ → ℕ
atoms_length s = length_at s 1

abbrev pub bonds_length : List ℕ → ℕ
bonds_length s = length_at s (atoms_length s + 4)

-- "each once and nothing after [..] A length that is not a whole number of atoms, or in tag 2 of bonds, breaks the layout."
unfoldable pub in_layout : List ℕ → Bool
in_layout s =
    eqb (get_or s 0 0) 1
    && eqb (atoms_length s % 2) 0
    && eqb (get_or s (atoms_length s + 3) 0) 2
    && eqb (bonds_length s % 3) 0
    && eqb (length s) (atoms_length s + bonds_length s + 6)

-- "Tag 1: two bytes per atom, atomic number and hydrogens. Atoms count from 0."
unfoldable pub atom_count : List ℕ → ℕ
atom_count s = atoms_length s / 2

unfoldable pub kind_at : List ℕ → ℕ → ℕ
kind_at s a = kind_of_number (get_or s (2 * a + 3) 0)

unfoldable pub hydrogens_at : List ℕ → ℕ → ℕ
hydrogens_at s a = get_or s (2 * a + 4) 0

-- "Tag 2: three bytes per bond: two atoms and the code. Length 0 is allowed."
unfoldable pub bond_count : List ℕ → ℕ
bond_count s = bonds_length s / 3

unfoldable pub bond_at : List ℕ → ℕ → Bond
bond_at s k =
    let i = atoms_length s + 3 * k + 6 in
    record { one = get_or s i 0; two = get_or s (i + 1) 0; code = get_or s (i + 2) 0 }

-- the first k bonds
unfoldable pub bonds_to : List ℕ → ℕ → List Bond
bonds_to s k = each k (bond_at s)

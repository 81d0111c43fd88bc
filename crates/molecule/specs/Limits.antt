-- Document 01, "What a molecule is here": the limits.
use Rattle.std.specs.Prelude.{ℕ}

-- "A table has 1 to 64 atoms"
abbrev pub most_atoms : ℕ
most_atoms = 64

-- "0 to 4 hydrogens"
abbrev pub most_hydrogens_on : ℕ
most_hydrogens_on = 4

-- "hydrogens total at most 128"
abbrev pub most_hydrogens : ℕ
most_hydrogens = 128

-- "at most 80 bonds"
abbrev pub most_bonds : ℕ
most_bonds = 80

-- "at most 6 on one atom"
abbrev pub most_bonds_on : ℕ
most_bonds_on = 6

-- "code 1 single, 2 double, 3 triple, 4 delocalised"
abbrev pub most_code : ℕ
most_code = 4

-- A drawing kept in arrays.
use Rattle.std.specs.Prelude.{None, List, map, replicate, ℕ, ◌≤◌, ◌≡◌, length, take}
use Rattle.molecule.specs.Bonds as molecule
use Rattle.ctfile.specs.Filed as rules
use Rattle.kinds.specs.Known.{kind_in}
use Rattle.drawing.specs.declared.Bond.{Bond}
use Rattle.drawing.specs.declared.Drawing.{Drawing}

-- the kinds by their numbers, 25 for a symbol that is unknown
abbrev pub numbers_of : Drawing → List ℕ
numbers_of d = map kind_in d.kinds

abbrev pub bond_in : Bond → molecule.Bond
bond_in b = record { one = b.one; two = b.two; code = b.code }

-- the first so many atoms and bonds
abbrev pub kinds_in : Drawing → List ℕ
kinds_in d = take d.counts.atoms (numbers_of d)

abbrev pub bonds_in : Drawing → List molecule.Bond
bonds_in d = map bond_in (take d.counts.bonds d.bonds)

abbrev pub drawing_in : Drawing → rules.Drawing
drawing_in d = record { kinds = kinds_in d; bonds = bonds_in d }

abbrev pub empty_drawing : Drawing
empty_drawing = record {
  counts = record { atoms = 0; bonds = 0 };
  kinds = replicate 999 None;
  bonds = replicate 999 (record { one = 0; two = 0; code = 0 });
}

-- no more are counted than the arrays have
pub record Fits (d : Drawing) : Type 0 where
  pub atoms : d.counts.atoms ≤ 999
  pub bonds : d.counts.bonds ≤ 999
  pub kinds_long : length d.kinds ≡ 999
  pub bonds_long : length d.bonds ≡ 999

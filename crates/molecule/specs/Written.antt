-- Document 01, "The card": the card written from a molecule.
use mathlib.Core.List.{List, [], ◌∷◌, ◌++◌, map, flatten}
use Rattle.std.specs.Prelude.{ℕ, ◌/◌, ◌%◌, ltb, length}
use Rattle.lists.specs.Upto.{each}
use Rattle.lists.specs.Tests.{keep}
use Rattle.molecule.specs.Kinds.{number_of}
use Rattle.molecule.specs.Molecule.{Molecule, kind, hydrogens, neighbours}

-- "one byte tag, two bytes length (high byte first), value"
unfoldable pub field : ℕ → List ℕ → List ℕ
field tag v = tag ∷ (length v / 256) ∷ (length v % 256) ∷ v

unfoldable pub atom_bytes : Molecule → ℕ → List ℕ
atom_bytes M a = number_of (kind M a) ∷ hydrogens M a ∷ []

-- "each bond has its lower atom first, and bonds ascend by first then second atom": those of a to higher atoms
unfoldable pub bond_bytes : Molecule → ℕ → List ℕ
bond_bytes M a = flatten (map (λ b. a ∷ b ∷ M.code a b ∷ []) (keep (ltb a) (neighbours M a)))

unfoldable pub card_bytes : Molecule → List ℕ
card_bytes M = field 1 (flatten (each M.size (atom_bytes M))) ++ field 2 (flatten (each M.size (bond_bytes M)))

-- What the reader finds in a written card: the molecule's atoms, two bytes each, and its bonds, three bytes each.
use mathlib.Core.Bool.{true}
use mathlib.Core.List.{List, map, flatten}
use mathlib.Core.Path.{◌≡◌, refl, sym, ◌∙◌, ap}
use Prim.Native.Nat.{ℕ, ◌+◌, ◌*◌, ◌<◌, ◌≤◌}
use native.Mathlib.Omega.{arith}
use lib.ListN.{length, get_or, take}
use Rattle.lists.specs.Upto.{upto, each}
use Rattle.lists.proofs.Upto.{each-eq, length-upto, get_or-upto, each_take}
use Rattle.lists.proofs.Flattened.{length-pieces, get_or-pieces}
use Rattle.molecule.specs.Bonds.{Bond}
use Rattle.molecule.specs.Kinds.{number_of, kind_of_number}
use Rattle.molecule.specs.Layout.{atoms_length, in_layout, atom_count, kind_at, hydrogens_at, bond_count, bond_at, bonds_to}
use Rattle.molecule.specs.Molecule.{Molecule, kind, hydrogens}
use Rattle.molecule.specs.Written.{atom_bytes, card_bytes}
use Rattle.molecule.proofs.Fields.{fields, fields_atoms, fields_bonds, fields_atoms_length, fields_bonds_length, fields_in_layout}
use Rattle.molecule.proofs.BondsOf.{bonds_of, bytes, bonds_of-bytes}

abbrev pub no_bond : Bond
no_bond = record { one = 0; two = 0; code = 0 }

module _ (M : Molecule) where
  abbrev atom_field : List ℕ
  atom_field = flatten (each M.size (atom_bytes M))

  abbrev bond_field : List ℕ
  bond_field = flatten (map bytes (bonds_of M))

  abbrev pub card : List ℕ
  card = fields atom_field bond_field

  pub card_bytes-card : card_bytes M ≡ card
  unfolding card_bytes
  card_bytes-card = ap (fields atom_field) (sym (bonds_of-bytes M))

  atom_field_length : length atom_field ≡ 2 * M.size
  unfolding each atom_bytes
  atom_field_length = omega (arith, length-pieces (atom_bytes M) 2 (λ a. refl) (upto M.size), length-upto M.size)

  bond_field_length : length bond_field ≡ 3 * length (bonds_of M)
  bond_field_length = length-pieces bytes 3 (λ b. refl) (bonds_of M)

  pub card-in_layout : in_layout card ≡ true
  card-in_layout = fields_in_layout atom_field bond_field (omega (arith, atom_field_length)) (omega (arith, bond_field_length))

  pub card-atom_count : atom_count card ≡ M.size
  unfolding atom_count
  card-atom_count = omega (arith, fields_atoms_length atom_field bond_field, atom_field_length)

  atom-at : (a i : ℕ) → a < M.size → i < 2 → get_or card (2 * a + i + 3) 0 ≡ get_or (atom_bytes M a) i 0
  unfolding each atom_bytes
  atom-at a i h k =
      fields_atoms atom_field bond_field (2 * a + i) (omega (arith, atom_field_length))
      ∙ get_or-pieces (atom_bytes M) 2 (λ b. refl) (upto M.size) a i 0 0 (omega (arith, length-upto M.size)) k
      ∙ ap (λ b. get_or (atom_bytes M b) i 0) (get_or-upto M.size a 0 h)

  pub card-kind_at : (a : ℕ) → a < M.size → kind_at card a ≡ kind_of_number (number_of (kind M a))
  unfolding kind_at atom_bytes
  card-kind_at a h = let e : 2 * a + 3 ≡ 2 * a + 0 + 3 = omega arith in ap kind_of_number (ap (λ i. get_or card i 0) e ∙ atom-at a 0 h (omega arith))

  pub card-hydrogens_at : (a : ℕ) → a < M.size → hydrogens_at card a ≡ hydrogens M a
  unfolding hydrogens_at atom_bytes
  card-hydrogens_at a h = let e : 2 * a + 4 ≡ 2 * a + 1 + 3 = omega arith in ap (λ i. get_or card i 0) e ∙ atom-at a 1 h (omega arith)

  pub card-bond_count : bond_count card ≡ length (bonds_of M)
  unfolding bond_count
  card-bond_count = omega (arith, fields_bonds_length atom_field bond_field, bond_field_length)

  bond-at : (k i j : ℕ) → k < length (bonds_of M) → i < 3 → j ≡ atoms_length card + 3 * k + 6 + i → get_or card j 0 ≡ get_or (bytes (get_or (bonds_of M) k no_bond)) i 0
  bond-at k i j h l e =
      let f : j ≡ length atom_field + (3 * k + i) + 6 = omega (arith, fields_atoms_length atom_field bond_field) in
      ap (λ x. get_or card x 0) f ∙ fields_bonds atom_field bond_field (3 * k + i) ∙ get_or-pieces bytes 3 (λ b. refl) (bonds_of M) k i no_bond 0 h l

  pub card-bond_at : (k : ℕ) → k < length (bonds_of M) → bond_at card k ≡ get_or (bonds_of M) k no_bond
  unfolding bond_at
  card-bond_at k h = λ i. record {
    one = bond-at k 0 (atoms_length card + 3 * k + 6) h (omega arith) (omega arith) i;
    two = bond-at k 1 (atoms_length card + 3 * k + 6 + 1) h (omega arith) (omega arith) i;
    code = bond-at k 2 (atoms_length card + 3 * k + 6 + 2) h (omega arith) (omega arith) i;
  }

  pub card-bonds_to : (k : ℕ) → k ≤ length (bonds_of M) → bonds_to card k ≡ take k (bonds_of M)
  unfolding bonds_to
  card-bonds_to k h =
      each-eq k (bond_at card) (λ i. get_or (bonds_of M) i no_bond) (λ i l. card-bond_at i (omega arith)) ∙ each_take (bonds_of M) k no_bond h

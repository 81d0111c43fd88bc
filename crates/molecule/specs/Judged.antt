-- Document 01, "Numbers of refusal": a card judged by 1 to 8, and the molecule that it lists.
use Rattle.std.specs.Prelude.{cond, not, ◌||◌, List, [], ◌∷◌, map, ◌≡◌, ℕ, eqb, leb, ltb}
use Rattle.lists.specs.Upto.{each, sum}
use Rattle.lists.specs.Tests.{count, some}
use Rattle.molecule.specs.Kinds.{is_kind}
use Rattle.molecule.specs.Limits.{most_atoms, most_hydrogens_on, most_hydrogens, most_bonds, most_bonds_on, most_code}
use Rattle.molecule.specs.Bonds.{Bond, on, joins, code_in}
use Rattle.molecule.specs.Molecule.{Molecule, connected}
use Rattle.molecule.specs.Refusals.{or_next, first_fault}
use Rattle.molecule.specs.Layout.{in_layout, atom_count, kind_at, hydrogens_at, bond_count, bond_at, bonds_to}

-- "Cards that come in may list bonds in any order."
unfoldable pub molecule_of : List ℕ → Molecule
molecule_of s =
    let bonds = bonds_to s (bond_count s) in
    record { size = atom_count s; label = λ a. kind_at s a ∷ hydrogens_at s a ∷ []; code = code_in bonds }

-- "1 [..] card with no atoms", "4 for counts of atoms, then bonds"
unfoldable pub counts_fault : List ℕ → ℕ
counts_fault s =
    cond (eqb (atom_count s) 0) 1
    (cond (ltb most_atoms (atom_count s) || ltb most_bonds (bond_count s)) 4 0)

-- "atoms in order (3, then 4 for its hydrogens)"; "3: kind not in the table; H on a card"
unfoldable pub atom_fault : List ℕ → ℕ → ℕ
atom_fault s a = cond (not (is_kind (kind_at s a))) 3 (cond (ltb most_hydrogens_on (hydrogens_at s a)) 4 0)

-- "4 for their total"
unfoldable pub total_fault : List ℕ → ℕ
total_fault s = cond (ltb most_hydrogens (sum (each (atom_count s) (hydrogens_at s)))) 4 0

-- "bonds in order (5, 6, 4)"; "5: atom not there"; "6: bond to itself, second bond on a pair, code not 1 to 4"; 4: a seventh on one atom
abbrev pub bond_judged : ℕ → List Bond → Bond → ℕ
bond_judged n before b =
    cond (leb n b.one || leb n b.two) 5
    (cond (eqb b.one b.two || some (map (joins b.one b.two) before) || eqb b.code 0 || ltb most_code b.code) 6
    (cond (leb most_bonds_on (count (map (on b.one) before)) || leb most_bonds_on (count (map (on b.two) before))) 4 0))

unfoldable pub bond_fault : List ℕ → ℕ → ℕ
bond_fault s k = bond_judged (atom_count s) (bonds_to s k) (bond_at s k)

unfoldable pub atoms_fault : List ℕ → ℕ
atoms_fault s = first_fault (each (atom_count s) (atom_fault s))

unfoldable pub bonds_fault : List ℕ → ℕ
bonds_fault s = first_fault (each (bond_count s) (bond_fault s))

unfoldable pub apart_fault : List ℕ → ℕ
apart_fault s = cond (connected (molecule_of s)) 0 8

unfoldable pub content_fault : List ℕ → ℕ
content_fault s = or_next (counts_fault s) (or_next (atoms_fault s) (or_next (total_fault s) (or_next (bonds_fault s) (apart_fault s))))

-- "Order for a card: 2 for the whole layout; 1; 4 for counts of atoms, then bonds; atoms in order (3, then 4 for its hydrogens); 4 for their
-- total; bonds in order (5, 6, 4); 8"
unfoldable pub card_fault : List ℕ → ℕ
card_fault s = cond (in_layout s) (content_fault s) 2

-- "A card is well formed if none of 1 to 8 refuses it."
abbrev pub WellFormed : List ℕ → Type 0
WellFormed s = card_fault s ≡ 0

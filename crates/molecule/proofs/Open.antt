-- The definitions of this crate opened, so that an example computes.
use Rattle.lists.proofs.Open.{lists}
use Rattle.molecule.specs.Kinds.{kinds, symbol_of, number_of, kind_of_symbol, kind_of_number}
use Rattle.molecule.specs.Molecule.{neighbours, reached, connected}
use Rattle.molecule.specs.Refusals.{first_fault}
use Rattle.molecule.specs.Layout.{in_layout, atom_count, kind_at, hydrogens_at, bond_count, bond_at, bonds_to}
use Rattle.molecule.specs.Judged.{molecule_of, counts_fault, atom_fault, total_fault, bond_fault, atoms_fault, bonds_fault, apart_fault, content_fault, card_fault}
use Rattle.molecule.specs.Written.{field, atom_bytes, bond_bytes, card_bytes}

unfoldable pub molecule : Unit {0}
unfolding lists kinds symbol_of number_of kind_of_symbol kind_of_number neighbours reached connected first_fault in_layout atom_count kind_at hydrogens_at bond_count bond_at bonds_to molecule_of counts_fault atom_fault total_fault bond_fault atoms_fault bonds_fault apart_fault content_fault card_fault field atom_bytes bond_bytes card_bytes
molecule = tt

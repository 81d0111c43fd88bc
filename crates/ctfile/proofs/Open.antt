-- The definitions of this crate opened, so that an example computes.
use Rattle.rules.proofs.Open.{rules}
use Rattle.ctfile.specs.Lines.{line_bytes, lines_from, lines_of}
use Rattle.ctfile.specs.Fields.{columns, unled, untrailed, decimal, number_in, unsigned, size_in}
use Rattle.ctfile.specs.Forms.{atom_count_in, bond_count_in, is_version, is_counts_line, kind_in, is_atom_line, is_bond_line, bond_in, is_entry, lists_entries, is_property_line, is_end_line}
use Rattle.ctfile.specs.Filed.{forms, judged_by, properties, verdict, drawing_of}
use Rattle.ctfile.specs.Drawings.{folded, counts_fault, kinds_fault, wrong_h, bond_fault, bonds_fault, lone_fault, hydrogens_fault, apart_fault, drawing_fault}
use Rattle.ctfile.specs.Molfiles.{name_of_drawing, name_of_molfile}

unfoldable pub ctfile : Unit {0}
unfolding rules line_bytes lines_from lines_of columns unled untrailed decimal number_in unsigned size_in atom_count_in bond_count_in is_version is_counts_line kind_in is_atom_line is_bond_line bond_in is_entry lists_entries is_property_line is_end_line forms judged_by properties verdict drawing_of folded counts_fault kinds_fault wrong_h bond_fault bonds_fault lone_fault hydrogens_fault apart_fault drawing_fault name_of_drawing name_of_molfile
ctfile = tt

-- Document 02, §1: a file read line by line, and what it draws.
use Rattle.std.specs.Prelude.{Bool, true, cond, List, [], ◌∷◌, ◌++◌, map, ℕ, ◌+◌, length, get_or, take, drop, replicate}
use Rattle.molecule.specs.Bonds.{Bond}
use Rattle.ctfile.specs.Lines.{Line, lines_of}
use Rattle.ctfile.specs.Forms.{atom_count_in, bond_count_in, is_counts_line, kind_in, is_atom_line, bond_in, is_bond_line, is_property_line, is_end_line}

-- "11 for a broken or unsupported line, with the line's byte offset (the file's length if missing) as place"
pub data Verdict : Type 0 where
  sound : Verdict
  broken : (place : ℕ) → Verdict

abbrev pub Form : Type 0
Form = List ℕ → Bool

abbrev pub no_line : Line
no_line = record { offset = 0; bytes = [] }

abbrev pub counts_line : List Line → List ℕ
counts_line ls = (get_or ls 3 no_line).bytes

abbrev pub atom_count : List Line → ℕ
atom_count ls = atom_count_in (counts_line ls)

abbrev pub bond_count : List Line → ℕ
bond_count ls = bond_count_in (counts_line ls)

-- "three header lines, counts line, atom lines, bond lines": "Header lines hold anything."
unfoldable pub forms : List Line → List Form
forms ls =
    replicate 3 (λ l. true)
    ++ (is_counts_line ∷ (replicate (atom_count ls) is_atom_line ++ replicate (bond_count ls) is_bond_line))

-- "Lines are judged in order, each in the form due at its place"; "the first faulty line wins"
unfoldable pub judged_by : List Form → (size : ℕ) → (List Line → Verdict) → List Line → Verdict
judged_by [] size next ls = next ls
judged_by (f ∷ fs) size next [] = broken size
judged_by (f ∷ fs) size next (l ∷ ls) =
    let rest = judged_by fs size next ls in
    cond (f l.bytes) rest (broken l.offset)

-- "property lines to `M  END`, where reading ends"; "Every other line after the bonds is 11"
unfoldable pub properties : (size atoms : ℕ) → List Line → Verdict
properties size atoms [] = broken size
properties size atoms (l ∷ ls) =
    let rest = properties size atoms ls in
    cond (is_end_line l.bytes) sound (cond (is_property_line atoms l.bytes) rest (broken l.offset))

unfoldable pub verdict : List ℕ → Verdict
verdict s =
    let ls = lines_of s in
    judged_by (forms ls) (length s) (properties (length s) (atom_count ls)) ls

-- the kinds of the atoms in the file's order, 0 for H and 25 for no symbol, and the bonds
pub record Drawing : Type 0 where
  pub kinds : List ℕ
  pub bonds : List Bond

abbrev pub atom_lines : List Line → List Line
atom_lines ls = take (atom_count ls) (drop 4 ls)

abbrev pub bond_lines : List Line → List Line
bond_lines ls = take (bond_count ls) (drop (4 + atom_count ls) ls)

unfoldable pub drawing_of : List ℕ → Drawing
drawing_of s =
    let ls = lines_of s in
    record { kinds = map (λ l. kind_in l.bytes) (atom_lines ls); bonds = map (λ l. bond_in l.bytes) (bond_lines ls) }

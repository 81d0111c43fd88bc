-- Document 02, §1: the lines in their forms, "as the published CTfile description lays them out".
use Rattle.std.specs.Prelude.{Bool, not, ◌&&◌, ◌||◌, List, ℕ, zero, suc, ◌+◌, ◌*◌, eqb, leb, ltb, length, get_or, take, drop}
use Rattle.lists.specs.Upto.{each}
use Rattle.lists.specs.Tests.{every}
use Rattle.molecule.specs.Bonds.{Bond}
use Rattle.molecule.specs.Kinds.{kind_of_symbol}
use Rattle.ctfile.specs.Fields.{is_blank, are_blank, columns, is_text, unled, untrailed, no_number, number_in, size_in}

-- a number in three columns behind the first k
abbrev pub number_at : ℕ → List ℕ → ℕ
number_at k l = number_in (columns k 3 l)

abbrev pub has_number : ℕ → List ℕ → Bool
has_number k l = ltb (number_at k l) no_number

-- ---- Counts line: "1-3, 4-6, 34-39"

unfoldable pub atom_count_in : List ℕ → ℕ
atom_count_in = number_at 0

unfoldable pub bond_count_in : List ℕ → ℕ
bond_count_in = number_at 3

-- "columns 34-39 without the blanks around them are exactly `V2000`": six columns have one blank, before it or behind
unfoldable pub is_version : List ℕ → Bool
is_version l = is_text " V2000" (columns 33 6 l) || is_text "V2000 " (columns 33 6 l)

unfoldable pub is_counts_line : List ℕ → Bool
is_counts_line l = is_version l && has_number 0 l && has_number 3 l

-- ---- Atom line: symbol "32-34", mass difference "35-36", charge "37-39"

-- "Symbol: blanks around it cut off [..] anything but H and the 24 is 3 in its turn": 0 for H, 25 for no symbol
unfoldable pub kind_in : List ℕ → ℕ
kind_in l = kind_of_symbol (untrailed (unled (columns 31 3 l)))

-- "an atom line must have a symbol that is not blank"; "Non-zero mass difference, charge or radical code [..]: 11 at that line"
unfoldable pub is_atom_line : List ℕ → Bool
is_atom_line l = not (are_blank (columns 31 3 l)) && eqb (size_in (columns 34 2 l)) 0 && eqb (number_at 36 l) 0

-- ---- Bond line: "1-3, 4-6, 7-9", the two atoms and the code

-- "a bond line needs 9 columns"
unfoldable pub is_bond_line : List ℕ → Bool
is_bond_line l = leb 9 (length l) && has_number 0 l && has_number 3 l && has_number 6 l

-- "atoms count from 1, others are 5": 1,000 is no atom of a file, which has at most 999
abbrev pub from_one : ℕ → ℕ
from_one zero = no_number
from_one (suc a) = a

unfoldable pub bond_in : List ℕ → Bond
bond_in l = record { one = from_one (number_at 0 l); two = from_one (number_at 3 l); code = number_at 6 l }

-- ---- Property lines

-- where the entries begin, and entry e
abbrev pub entries_to : ℕ → ℕ
entries_to e = 9 + 8 * e

-- "separating columns blank"; "an entry that names an atom not there is 11"; "Entries of value 0 are accepted"
unfoldable pub is_entry : (atoms : ℕ) → List ℕ → ℕ → Bool
is_entry atoms l e =
    is_blank (get_or l (entries_to e) 32)
    && is_blank (get_or l (entries_to e + 4) 32)
    && ltb 0 (number_at (entries_to e + 1) l)
    && leb (number_at (entries_to e + 1) l) atoms
    && eqb (size_in (columns (entries_to e + 5) 3 l)) 0

-- "`M  CHG`, `M  RAD`, `M  ISO`"
unfoldable pub lists_entries : List ℕ → Bool
lists_entries l = is_text "M  CHG" (take 6 l) || is_text "M  RAD" (take 6 l) || is_text "M  ISO" (take 6 l)

-- "Entries: 1 to 8 as counted [..] only blanks after the last"; "a property line [needs] 9 + 8 per entry"
unfoldable pub is_property_line : (atoms : ℕ) → List ℕ → Bool
is_property_line atoms l =
    let entries = number_at 6 l in
    lists_entries l
    && ltb 0 entries && leb entries 8
    && leb (entries_to entries) (length l)
    && every (each entries (is_entry atoms l))
    && are_blank (drop (entries_to entries) l)

-- "`M  END` may be followed by blanks only"
unfoldable pub is_end_line : List ℕ → Bool
is_end_line l = is_text "M  END" (take 6 l) && are_blank (drop 6 l)

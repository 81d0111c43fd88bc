-- The line that the program `molname` prints for a molfile.
use Rattle.std.specs.Prelude.{cond, List, [], ◌∷◌, ◌++◌, ℕ, suc, eqb, length, take}
use Rattle.lists.specs.Quoted as quoted
use Rattle.rules.specs.Answers.{Answer}
use Rattle.ctfile.specs.Lines.{lines_of}
use Rattle.ctfile.specs.Molfiles.{name_of_molfile}
use Rattle.lines.specs.Numbers.{decimal_of}

-- "the refusal in plain words where refused"
unfoldable pub words_of : (refusal : ℕ) → List ℕ
words_of r =
    cond (eqb r 1) (quoted.bytes_of "no atom but hydrogen")
    (cond (eqb r 3) (quoted.bytes_of "an element that is not among the 24")
    (cond (eqb r 4) (quoted.bytes_of "too large: more than 65536 bytes, 64 atoms, 80 bonds, 128 hydrogens, 4 hydrogens or 6 bonds on one atom")
    (cond (eqb r 5) (quoted.bytes_of "a bond to an atom that the file does not have")
    (cond (eqb r 6) (quoted.bytes_of "a bond from an atom to itself, a second bond between two atoms, or a bond type other than 1 to 4")
    (cond (eqb r 7) (quoted.bytes_of "a hydrogen with no bond, two bonds, a bond that is not single, or a bond to another hydrogen")
    (cond (eqb r 8) (quoted.bytes_of "more than one piece")
    (cond (eqb r 9) (quoted.bytes_of "more numberings than the allowance of 4096")
    (cond (eqb r 10) (quoted.bytes_of "a name longer than 2048 bytes")
    (cond (eqb r 11) (quoted.bytes_of "a broken or unsupported line") (quoted.bytes_of "not named"))))))))))

-- the number of a line that begins at a place, counted from 1; a line that is missing has the number it would have
unfoldable pub line_number : (file : List ℕ) (place : ℕ) → ℕ
line_number file place = suc (length (lines_of (take place file)))

-- "for 11, the line's number beside the place"
unfoldable pub place_of : (file : List ℕ) (refusal place : ℕ) → List ℕ
place_of file refusal place =
    let there = quoted.bytes_of " at byte " ++ (decimal_of place ++ (quoted.bytes_of ", line " ++ decimal_of (line_number file place))) in
    cond (eqb refusal 11) there []

unfoldable pub refused_line : (file : List ℕ) (refusal place : ℕ) → List ℕ
refused_line file refusal place =
    quoted.bytes_of "refused " ++ (decimal_of refusal ++ (place_of file refusal place ++ (quoted.bytes_of ": " ++ (words_of refusal ++ (10 ∷ [])))))

unfoldable pub named_line : (name : List ℕ) → List ℕ
named_line name = name ++ (10 ∷ [])

abbrev pub shown_answer : (file : List ℕ) → Answer → List ℕ
shown_answer file a = cond (eqb a.refusal 0) (named_line a.bytes) (refused_line file a.refusal a.place)

-- "one line for each file with its name"; the allowance and the room are those of the program `name`
unfoldable pub mol_line : (file : List ℕ) → List ℕ
mol_line file = shown_answer file (name_of_molfile file 4096 2048)

-- "names each record": a record's number from 1, and the line of its bytes
unfoldable pub record_line : (number : ℕ) (file : List ℕ) → List ℕ
record_line n file = decimal_of n ++ (quoted.bytes_of ": " ++ mol_line file)

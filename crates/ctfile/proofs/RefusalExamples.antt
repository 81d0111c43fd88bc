-- Drawings refused, by computation: for each of 1 to 10 the place in the order where it is due.
use mathlib.Core.List.{List, [], ◌∷◌, ◌++◌, map}
use mathlib.Core.Path.{◌≡◌, refl}
use Prim.Native.Nat.{ℕ, ◌+◌, ◌*◌, ◌/◌, ◌%◌}
use Prim.Native.String.{String, ◌++◌ as ◌then◌}
use lib.ListN.{get_or, take, replicate}
use Rattle.lists.specs.Upto.{each}
use Rattle.lists.specs.Quoted.{bytes_of}
use Rattle.rules.specs.Answers.{refused, accepted}
use Rattle.ctfile.specs.Molfiles.{name_of_molfile}
use Rattle.ctfile.proofs.Files.{file_of, answer, files}

-- a file by the two numbers of its counts line, its symbols and its bond lines
unfoldable drawn : (numbers : String) (symbols bonds : List String) → List String
drawn numbers symbols bonds =
    ""
    ∷ ""
    ∷ ""
    ∷ (numbers then "  0  0  0  0  0  0  0  0999 V2000")
    ∷ (map (λ s. "    0.0000    0.0000    0.0000 " then s) symbols ++ (bonds ++ ("M  END" ∷ [])))

-- its refusal, and 0 where it is named
unfoldable fault : (numbers : String) (symbols bonds : List String) → ℕ
fault numbers symbols bonds = (answer (drawn numbers symbols bonds)).refusal

-- hydrogen, a lone H, and no atom at all; 1 before 5
h_alone :
    answer (drawn "  2  1" ("H" ∷ "H" ∷ []) ("  1  2  1" ∷ []))
    ∷ answer (drawn "  1  0" ("H" ∷ []) [])
    ∷ answer (drawn "  0  0" [] [])
    ∷ answer (drawn "  0  1" [] ("  1  2  1" ∷ []))
    ∷ []
    ≡ replicate 4 (refused 1 0)
unfolding files drawn
h_alone = refl

-- "anything but H and the 24 is 3 in its turn": it counts as an atom, and 3 comes before 5
no_kind : map (λ s. fault "  2  1" ("C" ∷ s ∷ []) ("  1  3  9" ∷ [])) ("D" ∷ "T" ∷ "A" ∷ "Q" ∷ "*" ∷ "R#" ∷ "CL" ∷ "c" ∷ "Xyz" ∷ []) ≡ replicate 9 3
unfolding files drawn fault
no_kind = refl

unknown-alone : answer (drawn "  1  0" ("D" ∷ []) []) ≡ refused 3 0
unfolding files drawn
unknown-alone = refl

-- "atoms count from 1, others are 5"; 5 before 7 and 6
not_there : map (λ b. fault "  2  1" ("C" ∷ "H" ∷ []) (b ∷ [])) ("  1  3  1" ∷ "  0  1  1" ∷ "  2  3  2" ∷ "  3  3  9" ∷ "  1     1" ∷ []) ≡ replicate 5 5
unfolding files drawn fault
not_there = refl

-- 7: an H with a code that is not 1, an H to itself, also where 6 would fit; an H to an H; a second bond of an H, also on the same pair
h_rule :
    map (λ b. fault "  2  1" ("C" ∷ "H" ∷ []) (b ∷ [])) ("  1  2  2" ∷ "  1  2  0" ∷ "  2  1  5" ∷ "  2  2  1" ∷ "  2  2  9" ∷ [])
    ++ (fault "  3  1" ("C" ∷ "H" ∷ "H" ∷ []) ("  2  3  1" ∷ [])
    ∷ fault "  3  2" ("C" ∷ "H" ∷ "O" ∷ []) ("  1  2  1" ∷ "  2  3  1" ∷ [])
    ∷ fault "  2  2" ("C" ∷ "H" ∷ []) ("  1  2  1" ∷ "  2  1  1" ∷ [])
    ∷ [])
    ≡ replicate 8 7
unfolding files drawn fault
h_rule = refl

-- 6: a code that is none, a bond to itself, a second bond on a pair
bad-bond :
    map (λ b. fault "  2  1" ("C" ∷ "O" ∷ []) (b ∷ [])) ("  1  2  0" ∷ "  1  2  5" ∷ "  1  2   " ∷ "  1  1  1" ∷ [])
    ++ (fault "  2  2" ("C" ∷ "O" ∷ []) ("  1  2  1" ∷ "  2  1  2" ∷ []) ∷ [])
    ≡ replicate 5 6
unfolding files drawn fault
bad-bond = refl

-- the first faulty bond decides, and only then an H without a bond
in_order :
    fault "  3  2" ("C" ∷ "O" ∷ "H" ∷ []) ("  1  1  1" ∷ "  1  9  1" ∷ [])
    ∷ fault "  3  2" ("C" ∷ "O" ∷ "H" ∷ []) ("  1  9  1" ∷ "  1  1  1" ∷ [])
    ∷ fault "  3  2" ("C" ∷ "O" ∷ "H" ∷ []) ("  3  2  2" ∷ "  1  1  1" ∷ [])
    ∷ fault "  3  1" ("C" ∷ "O" ∷ "H" ∷ []) ("  1  2  1" ∷ [])
    ∷ fault "  3  0" ("C" ∷ "O" ∷ "H" ∷ []) []
    ∷ []
    ≡ 6 ∷ 5 ∷ 7 ∷ 7 ∷ 7 ∷ []
unfolding files drawn fault
in_order = refl

-- ---- 4

-- the first atom bonded to the others
spokes : List String
spokes =
    "  1  2  1" ∷ "  1  3  1" ∷ "  1  4  1" ∷ "  1  5  1" ∷ "  1  6  1" ∷ "  1  7  1" ∷ "  1  8  1" ∷ "  1  9  1" ∷ "  1 10  1" ∷ "  1 11  1" ∷ []

-- six bonds and four hydrogens; a seventh bond, a fifth hydrogen, which comes before 8
crowded :
    fault " 11 10" ("S" ∷ "N" ∷ "O" ∷ "F" ∷ "Cl" ∷ "Br" ∷ "I" ∷ replicate 4 "H") spokes
    ∷ fault "  8  7" ("S" ∷ replicate 7 "F") (take 7 spokes)
    ∷ fault "  6  5" ("C" ∷ replicate 5 "H") (take 5 spokes)
    ∷ fault "  7  5" ("C" ∷ (replicate 5 "H" ++ ("C" ∷ []))) (take 5 spokes)
    ∷ []
    ≡ 0 ∷ 4 ∷ 4 ∷ 4 ∷ []
unfolding files drawn fault spokes
crowded = refl

-- 64 atoms and 65, H not among them, "unknown symbols count"
atoms-limited :
    fault " 65  0" (replicate 64 "C" ++ ("H" ∷ [])) []
    ∷ fault " 65  0" (replicate 65 "C") []
    ∷ fault " 64  0" (replicate 64 "Q") []
    ∷ fault " 65  0" (replicate 65 "Q") []
    ∷ []
    ≡ 7 ∷ 4 ∷ 3 ∷ 4 ∷ []
unfolding files drawn fault
atoms-limited = refl

-- 80 bonds and 81, those of which an end is an H that is there not among them
bonds-limited :
    map (λ bs. fault "  3 81" ("C" ∷ "C" ∷ "H" ∷ []) (replicate 80 "  1  2  1" ++ bs)) (("  1  2  1" ∷ []) ∷ ("  1  9  1" ∷ []) ∷ ("  1  3  1" ∷ []) ∷ ("  3  9  1" ∷ []) ∷ [])
    ≡ 4 ∷ 4 ∷ 6 ∷ 6 ∷ []
unfolding files drawn fault
bonds-limited = refl

digit : ℕ → String
digit d = get_or ("0" ∷ "1" ∷ "2" ∷ "3" ∷ "4" ∷ "5" ∷ "6" ∷ "7" ∷ "8" ∷ "9" ∷ []) d ""

three : ℕ → String
unfolding digit
three n = digit (n / 100) then digit (n / 10 % 10) then digit (n % 10)

-- so many times methane
methanes : ℕ → ℕ
unfolding fault three
methanes n =
    fault (three (5 * n) then three (4 * n)) (replicate n "C" ++ replicate (4 * n) "H") (each (4 * n) (λ i. three (i / 4 + 1) then three (n + i + 1) then "  1"))

-- 128 hydrogens and 132
hydrogens-limited : methanes 32 ∷ methanes 33 ∷ [] ≡ 8 ∷ 4 ∷ []
unfolding files drawn methanes
hydrogens-limited = refl

-- ---- 8, 9 and 10

apart : fault "  2  0" ("C" ∷ "O" ∷ []) [] ∷ fault "  4  2" ("C" ∷ "O" ∷ "H" ∷ "H" ∷ []) ("  1  3  1" ∷ "  2  4  1" ∷ []) ∷ [] ≡ replicate 2 8
unfolding files drawn fault
apart = refl

-- two carbons have two numberings, and their name two bytes
carbons : List ℕ
unfolding files drawn
carbons = file_of (drawn "  2  1" ("C" ∷ "C" ∷ []) ("  1  2  1" ∷ []))

allowance_and_room :
    name_of_molfile carbons 2 2 ∷ name_of_molfile carbons 1 2 ∷ name_of_molfile carbons 2 1 ∷ name_of_molfile carbons 0 0 ∷ []
    ≡ accepted 2 (bytes_of "CC") ∷ refused 9 0 ∷ refused 10 0 ∷ refused 9 0 ∷ []
unfolding files carbons
allowance_and_room = refl

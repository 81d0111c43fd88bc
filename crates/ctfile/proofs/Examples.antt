-- Molfiles read, and lines refused, by computation: "None are invented", and every 11 with its place.
use mathlib.Core.List.{List, [], ◌∷◌, ◌++◌, map}
use mathlib.Core.Path.{◌≡◌, refl}
use Prim.Native.Nat.{ℕ}
use Prim.Native.String.{String}
use lib.ListN.{length, take, replicate}
use Rattle.lists.specs.Quoted.{bytes_of}
use Rattle.rules.specs.Answers.{refused, accepted}
use Rattle.ctfile.specs.Molfiles.{name_of_molfile}
use Rattle.ctfile.proofs.Files.{ended_by, file_of, answer, broken_after, files}

-- ---- Read

methane : List String
methane =
    "methane"
    ∷ "  drawn by hand"
    ∷ ""
    ∷ "  5  4  0  0  0  0  0  0  0  0999 V2000"
    ∷ "    0.0000    0.0000    0.0000 H   0  0"
    ∷ "    1.0000    0.0000    0.0000 C   0  0"
    ∷ "    1.0000    1.0000    0.0000 H   0  0"
    ∷ "    1.0000   -1.0000    0.0000 H   0  0"
    ∷ "    2.0000    0.0000    0.0000 H   0  0"
    ∷ "  1  2  1  0"
    ∷ "  2  3  1  0"
    ∷ "  2  4  1  0"
    ∷ "  5  2  1  0"
    ∷ "M  END"
    ∷ []

methane_named : answer methane ≡ accepted 1 (bytes_of "CH0H0H0H")
unfolding files methane
methane_named = refl

-- "None are invented": where two of the four are listed, there are two
two-listed :
    answer
    (""
    ∷ ""
    ∷ ""
    ∷ "  3  2  0  0  0  0  0  0  0  0999 V2000"
    ∷ "    0.0000    0.0000    0.0000 C   0  0  0  4"
    ∷ "    1.0000    0.0000    0.0000 H   0  0"
    ∷ "    2.0000    0.0000    0.0000 H   0  0"
    ∷ "  1  2  1"
    ∷ "  1  3  1"
    ∷ "M  END"
    ∷ [])
    ≡ accepted 1 (bytes_of "CH0H")
unfolding files
two-listed = refl

water : List String
water =
    "water"
    ∷ ""
    ∷ ""
    ∷ "  3  2  0  0  0  0  0  0  0  0999 V2000"
    ∷ "    0.0000    0.0000    0.0000 H   0  0"
    ∷ "    1.0000    0.0000    0.0000 O   0  0"
    ∷ "    2.0000    0.0000    0.0000 H   0  0"
    ∷ "  1  2  1  0"
    ∷ "  2  3  1  0"
    ∷ []

-- "one CR directly before it belongs to the line's end"; "The last line needs no LF"; "nothing after that line is looked at"
water_named :
    map (λ file. name_of_molfile file 1 4)
    (ended_by (13 ∷ 10 ∷ []) (water ++ ("M  END" ∷ []))
    ∷ (file_of water ++ bytes_of "M  END")
    ∷ file_of (water ++ ("M  END   " ∷ "$$$$" ∷ "anything" ∷ []))
    ∷ [])
    ≡ replicate 3 (accepted 1 (bytes_of "OH0H"))
unfolding files water
water_named = refl

-- "A lone CR is an ordinary byte": here all is one header line
lone_cr : name_of_molfile (ended_by (13 ∷ []) (water ++ ("M  END" ∷ []))) 1 4 ≡ refused 11 (length (ended_by (13 ∷ []) (water ++ ("M  END" ∷ []))))
unfolding files water
lone_cr = refl

-- ---- 11: one line of this file is written in many ways

abbrev chlorine : (counts atom bond property : String) → List String
chlorine counts atom bond property =
    "chloromethane without its hydrogens"
    ∷ ""
    ∷ "M  END"
    ∷ counts
    ∷ "    0.0000    0.0000    0.0000 C   0  0"
    ∷ atom
    ∷ bond
    ∷ property
    ∷ "M  END"
    ∷ []

abbrev counts : String
counts = "  2  1  0  0  0  0  0  0  0  0999 V2000"

abbrev atom : String
atom = "    1.0000    0.0000    0.0000 Cl  0  0"

abbrev bond : String
bond = "  1  2  1  0"

abbrev property : String
property = "M  CHG  2   1   0   2   0"

-- fields to the left or the right of their columns, with zeros before, cut off or skipped; entries of value 0
variants : List (List String)
variants =
    chlorine counts atom bond property
    ∷ chlorine "2  1   anything is skipped here   V2000" atom bond property
    ∷ chlorine "002 1                            V2000" atom bond property
    ∷ chlorine counts "                                Cl" bond property
    ∷ chlorine counts "anything up to the symbol      Cl -0   anything" bond property
    ∷ chlorine counts atom "1  2  1  " property
    ∷ chlorine counts atom "  2  1001  6" property
    ∷ chlorine counts atom bond "M  RAD  1   1      "
    ∷ chlorine counts atom bond "M  ISO  1   2  +0    "
    ∷ []

variants_named : map answer variants ≡ replicate 9 (accepted 1 (bytes_of "C(Cl)"))
unfolding files variants
variants_named = refl

-- a file, and how many lines stand before the one that is blamed
record Case : Type 0 where
  after : ℕ
  file : List String

broken : List Case → Type 0
broken cases = map (λ (c : Case). answer c.file) cases ≡ map (λ (c : Case). broken_after c.after c.file) cases

-- the version, the two numbers
abbrev no_counts : String → Case
no_counts line = record { after = 3; file = chlorine line atom bond property }

broken-counts : broken
    (no_counts "  2  1  0  0  0  0  0  0  0  0999 V3000"
    ∷ no_counts "  2  1  0  0  0  0  0  0  0  0999 v2000"
    ∷ no_counts "  2  1  0  0  0  0  0  0  0  0999  V2000"
    ∷ no_counts "  2  1  0  0  0  0  0  0  0  0999"
    ∷ no_counts "  2 -1  0  0  0  0  0  0  0  0999 V2000"
    ∷ no_counts "2 1  1  0  0  0  0  0  0  0  0999 V2000"
    ∷ no_counts ""
    ∷ [])
unfolding files broken
broken-counts = refl

-- no symbol; a mass difference, a charge, or what is neither
abbrev no_atom : String → Case
no_atom line = record { after = 5; file = chlorine counts line bond property }

broken-atom : broken
    (no_atom "    1.0000    0.0000    0.0000     0  0"
    ∷ no_atom "    1.0000    0.0000    0.0000"
    ∷ no_atom "    1.0000    0.0000    0.0000 Cl  1  0"
    ∷ no_atom "    1.0000    0.0000    0.0000 Cl -1  0"
    ∷ no_atom "    1.0000    0.0000    0.0000 Cl  0  5"
    ∷ no_atom "    1.0000    0.0000    0.0000 Cl  0 -0"
    ∷ no_atom "    1.0000    0.0000    0.0000 Cl  . 0"
    ∷ [])
unfolding files broken
broken-atom = refl

abbrev no_bond : String → Case
no_bond line = record { after = 6; file = chlorine counts atom line property }

broken-bond : broken (no_bond "  1  2" ∷ no_bond "  1  2 1" ∷ no_bond "  1  2 +1" ∷ no_bond "  1  2  A" ∷ no_bond " 1 2 1  0" ∷ no_bond "M  END" ∷ [])
unfolding files broken
broken-bond = refl

-- an entry that is not 0, of an atom that is not there, or that is missing; bytes after the last; another property; `M  END` and more
abbrev no_property : String → Case
no_property line = record { after = 7; file = chlorine counts atom bond line }

broken-property : broken
    (no_property "M  CHG  1   1   1"
    ∷ no_property "M  CHG  2   1   0   2  -1"
    ∷ no_property "M  RAD  1   1   2"
    ∷ no_property "M  ISO  1   1  13"
    ∷ no_property "M  CHG  1   0   0"
    ∷ no_property "M  CHG  1   3   0"
    ∷ no_property "M  CHG  2   1   0"
    ∷ no_property "M  CHG  1   1  0"
    ∷ no_property "M  CHG  1   1   0   2   0"
    ∷ no_property "M  CHG  0"
    ∷ no_property "M  CHG  1 001 000."
    ∷ no_property "M  STY  1   1 DAT"
    ∷ no_property "A    1"
    ∷ no_property "$$$$"
    ∷ no_property ""
    ∷ no_property "M  ENDX"
    ∷ no_property "M END"
    ∷ no_property " M  END"
    ∷ [])
unfolding files broken
broken-property = refl

-- "the file's length if missing": no line, the counts line, an atom line, a bond line, `M  END`
missing-line : broken (map (λ k. record { after = k; file = take k (chlorine counts atom bond property) }) (0 ∷ 1 ∷ 3 ∷ 5 ∷ 6 ∷ 7 ∷ 8 ∷ []))
unfolding files broken
missing-line = refl

-- "too few atom lines means that a bond line or `M  END` is read as an atom line"; too many, that one is read as a bond line
other_counts : broken
    (record { after = 6; file = chlorine "  3  1  0  0  0  0  0  0  0  0999 V2000" atom bond property }
    ∷ record { after = 5; file = chlorine "  1  1  0  0  0  0  0  0  0  0999 V2000" atom bond property }
    ∷ record { after = 7; file = chlorine "  2  2  0  0  0  0  0  0  0  0999 V2000" atom bond property }
    ∷ record { after = 6; file = chlorine "  2  0  0  0  0  0  0  0  0  0999 V2000" atom bond property }
    ∷ [])
unfolding files broken
other_counts = refl

-- "the line's byte offset": the first faulty line wins, and with CR LF each line before it counts for one byte more
offsets :
    map (λ file. name_of_molfile file 65535 2048)
    (file_of (chlorine counts "" "" "") ∷ file_of (chlorine counts atom "" "") ∷ file_of (chlorine counts atom bond "")
    ∷ ended_by (13 ∷ 10 ∷ []) (chlorine counts atom bond "") ∷ [])
    ≡ refused 11 124 ∷ refused 11 164 ∷ refused 11 177 ∷ refused 11 184 ∷ []
unfolding files
offsets = refl

-- "A file longer than 65,536 bytes is 4 before all else."
longest : map (λ n. name_of_molfile (replicate n 32) 65535 2048) (65536 ∷ 65537 ∷ []) ≡ refused 11 65536 ∷ refused 4 0 ∷ []
unfolding files
longest = refl

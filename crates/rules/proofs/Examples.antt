-- Document 01, "Run and compared", and the molecules that pin what the ten examples leave open, by computation from bytes to bytes.
use mathlib.Core.List.{List, [], ◌∷◌, map}
use mathlib.Core.Path.{◌≡◌, refl}
use Prim.Native.Nat.{ℕ}
use Prim.Native.String.{String}
use lib.ListN.{replicate}
use Rattle.lists.specs.Quoted.{bytes_of, hex}
use Rattle.rules.specs.Answers.{refused, accepted, at_exit, name_of, canonical_of, marks_of, card_of}
use Rattle.rules.proofs.Open.{rules}

named : String → ℕ → String → Type 0
named card k name = name_of (hex card) 65535 2048 ≡ accepted k (bytes_of name)

-- 001's second example, its atoms numbered so that the first numbering does not give the least table; its eight numberings give two tables
second_example : named "01 0018 0601 0900 0700 0601 0900 0700 0601 0900 0601 0900 0700 0700 02 002a 000101 000201 000b01 020301 020501 030401 030501 050601 060701 060a01 080901 080a01 080b01 0a0b01" 8 "CH0NCH3NCH6NCH9N/0+11/2+9F8/5+6F3F0F"
unfolding rules named
second_example = refl

-- the same in the order of 001's Figure 24
second_example_drawn : named "01 0018 0601 0900 0700 0700 0601 0900 0700 0601 0900 0700 0601 0900 02 002a 000101 000201 000301 020301 020a01 030401 040501 040601 060701 060901 070801 070901 090a01 0a0b01" 8 "CH0NCH3NCH6NCH9N/0+11/2+9F8/5+6F3F0F"
unfolding rules named
second_example_drawn = refl

-- "Choosing the least written line instead of the least table: as text, 10 comes before 9." Of this one's numberings another is written
-- `..N/0+15/11+7/3`, which is less as text.
table-not_line : named "01 0010 0602 0700 0602 0700 0602 0700 0602 0700 02 001e 000101 000701 010201 010301 020301 030401 040501 050601 050701 060701" 8 "CH0H0NCH4H4NCH8H8NCH12H12N/0+15/3+11/7"
unfolding rules named
table-not_line = refl

benzene : named "01 000c 0601 0601 0601 0601 0601 0601 02 0012 000104 010204 020304 030404 040504 050004" 12 "CH0<CH2<CH4<CH6<CH8<CH10</0"
unfolding rules named
benzene = refl

cyclohexane : named "01 000c 0602 0602 0602 0602 0602 0602 02 0012 000101 010201 020301 030401 040501 050001" 12 "CH0H0CH3H3CH6H6CH9H9CH12H12CH15H15/0"
unfolding rules named
cyclohexane = refl

-- "Decalin and bicyclopentyl refine alike and must differ in name."
decalin : named "01 0014 0602 0602 0602 0602 0601 0602 0602 0602 0602 0601 02 0021 000101 000901 010201 020301 030401 040501 040901 050601 060701 070801 080901" 4 "CH0CH2CH4H4CH7H7CH10H10CH13H13/0+2CH16H16CH19H19CH22H22CH25H25/0"
unfolding rules named
decalin = refl

bicyclopentyl : named "01 0014 0601 0602 0602 0602 0602 0601 0602 0602 0602 0602 02 0021 000101 000401 000501 010201 020301 030401 050601 050901 060701 070801 080901" 8 "CH0CH2CH4H4CH7H7CH10H10CH13H13/2+0CH16H16CH19H19CH22H22CH25H25/0"
unfolding rules named
bicyclopentyl = refl

cubane : String
cubane = "01 0010 0601 0601 0601 0601 0601 0601 0601 0601 02 0024 000101 000301 000401 010201 010501 020301 020601 030701 040501 040701 050601 060701"

-- "cubane is named at allowance 48 and refused 9 at 47"
cubane_allowance :
    map (λ allowance. name_of (hex cubane) allowance 2048) (48 ∷ 47 ∷ [])
    ≡ accepted 48 (bytes_of "CH0CH2CH4CH6/0+6CH8CH10/0+10CH12/2+12CH14/4+14/8") ∷ refused 9 0 ∷ []
unfolding rules cubane
cubane_allowance = refl

cyclopropane : List ℕ
cyclopropane = hex "01 0006 0602 0602 0602 02 0009 000101 010201 020001"

-- "cyclopropane in 16 bytes of room is 10, in 17 is named"; 9 comes before 10, and allowance 0 refuses
cyclopropane_room :
    map (λ room. name_of cyclopropane 6 room) (16 ∷ 17 ∷ []) ≡ refused 10 0 ∷ accepted 6 (bytes_of "CH0H0CH3H3CH6H6/0") ∷ []
unfolding rules cyclopropane
cyclopropane_room = refl

allowance_before_room : map (λ allowance. name_of cyclopropane allowance 16) (0 ∷ 5 ∷ 6 ∷ []) ≡ refused 9 0 ∷ refused 9 0 ∷ refused 10 0 ∷ []
unfolding rules cyclopropane
allowance_before_room = refl

-- a card's faults come before 9 and 10
card-before_allowance : name_of (hex "01 0004 0603 0603 02 0000") 0 0 ≡ refused 8 0
unfolding rules
card-before_allowance = refl

-- azete N=C-C=C: canonical card and class marks by the second of its two numberings
azete : List ℕ
azete = hex "01 0008 0700 0601 0601 0601 02 000c 000102 000301 010201 020302"

azete_canonical : canonical_of azete 2 26 ≡ accepted 2 (hex "01 0008 0601 0601 0601 0700 02 000c 000102 000201 010301 020302")
unfolding rules azete
azete_canonical = refl

azete_marks : marks_of azete 2 4 ≡ accepted 2 (4 ∷ 3 ∷ 1 ∷ 2 ∷ [])
unfolding rules azete
azete_marks = refl

-- "`HOCH-1H-1CH-1H-1H` reads as ethanol": as the card of its name does
ethanol_read : card_of (bytes_of "HOCH-1H-1CH-1H-1H") 18 ≡ accepted 0 (hex "01 0006 0801 0602 0603 02 0006 000101 010201")
unfolding rules
ethanol_read = refl

ethanol_named : name_of (card_of (bytes_of "HOCH-1H-1CH-1H-1H") 18).bytes 1 14 ≡ accepted 1 (bytes_of "CH0H0CH3H3H0OH")
unfolding rules
ethanol_named = refl

-- 10 in a text has the text's length as its place
ethanol_room : card_of (bytes_of "HOCH-1H-1CH-1H-1H") 17 ≡ refused 10 17
unfolding rules
ethanol_room = refl

texts_refused :
    map (λ text. card_of text 4096) (bytes_of "C/0" ∷ bytes_of "CC/0" ∷ bytes_of "HH" ∷ bytes_of "=C" ∷ replicate 65 67 ∷ [])
    ≡ refused 6 1 ∷ refused 6 2 ∷ refused 7 1 ∷ refused 2 0 ∷ refused 4 64 ∷ []
unfolding rules
texts_refused = refl

-- the lent bytes at exit, whatever their number
lent-bytes :
    map (λ lent. at_exit (marks_of azete 2 4) lent) ((9 ∷ 9 ∷ 9 ∷ 9 ∷ []) ∷ (9 ∷ 9 ∷ 9 ∷ 9 ∷ 7 ∷ 8 ∷ []) ∷ [])
    ≡ (4 ∷ 3 ∷ 1 ∷ 2 ∷ []) ∷ (4 ∷ 3 ∷ 1 ∷ 2 ∷ 7 ∷ 8 ∷ []) ∷ []
unfolding rules azete
lent-bytes = refl

lent-bytes_refused : at_exit (marks_of azete 2 3) (9 ∷ 9 ∷ 9 ∷ []) ≡ 9 ∷ 9 ∷ 9 ∷ []
unfolding rules azete
lent-bytes_refused = refl

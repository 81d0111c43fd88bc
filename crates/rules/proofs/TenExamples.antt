-- Document 01, "Examples with their numbers": rows 1 to 10, name and leaf count, proved together from the bytes of a card to those of its name.
use mathlib.Core.List.{List, [], ◌∷◌, map}
use mathlib.Core.Path.{◌≡◌, refl}
use Prim.Native.Nat.{ℕ}
use Prim.Native.String.{String}
use Rattle.lists.specs.Quoted.{bytes_of, hex}
use Rattle.rules.specs.Answers.{accepted, name_of}
use Rattle.rules.proofs.Open.{rules}

record Row : Type 0 where
  card : String
  name : String
  leaves : ℕ

rows : List Row
rows =
    -- water, methane, ethane, ethanol, acetic acid
    record { card = "01 0002 0802 02 0000"; name = "OH0H"; leaves = 1 }
    ∷ record { card = "01 0002 0604 02 0000"; name = "CH0H0H0H"; leaves = 1 }
    ∷ record { card = "01 0004 0603 0603 02 0003 000101"; name = "CH0H0H0CH4H4H"; leaves = 2 }
    ∷ record { card = "01 0006 0603 0602 0801 02 0006 000101 010201"; name = "CH0H0CH3H3H0OH"; leaves = 1 }
    ∷ record { card = "01 0008 0603 0600 0800 0801 02 0009 000101 010202 010301"; name = "CCH1H1H0=O0OH"; leaves = 1 }
    -- propene, hydrogen cyanide, dichloromethane, cyclopropane, bicyclobutane
    ∷ record { card = "01 0006 0602 0601 0603 02 0006 000102 010201"; name = "CH0=CH2H0CH5H5H"; leaves = 1 }
    ∷ record { card = "01 0004 0601 0700 02 0003 000103"; name = "CH0*N"; leaves = 1 }
    ∷ record { card = "01 0006 0602 1100 1100 02 0006 000101 000201"; name = "CH0H0(Cl)0(Cl)"; leaves = 2 }
    ∷ record { card = "01 0006 0602 0602 0602 02 0009 000101 010201 020001"; name = "CH0H0CH3H3CH6H6/0"; leaves = 6 }
    ∷ record { card = "01 0008 0601 0602 0601 0602 02 000f 000101 010201 020301 030001 000201"; name = "CH0CH2CH4H4/0+2CH7H7/0"; leaves = 4 }
    ∷ []

-- under the greatest allowance, in room for any name
ten_examples : map (λ (e : Row). name_of (hex e.card) 65535 2048) rows ≡ map (λ (e : Row). accepted e.leaves (bytes_of e.name)) rows
unfolding rules rows
ten_examples = refl

-- Names of molecules whose atoms stand in rank order, by computation.
use mathlib.Core.List.{List, [], ◌∷◌, map}
use mathlib.Core.Path.{◌≡◌, refl}
use Prim.Native.String.{String}
use Rattle.lists.specs.Quoted.{bytes_of, hex}
use Rattle.molecule.specs.Judged.{molecule_of}
use Rattle.sling.specs.Printed.{name_bytes}
use Rattle.sling.proofs.Open.{sling}

record Case : Type 0 where
  card : String
  name : String

cases : List Case
cases =
    record { card = "01 0002 0802 02 0000"; name = "OH0H" }
    ∷ record { card = "01 0006 0602 0603 0801 02 0006 000101 000201"; name = "CH0H0CH3H3H0OH" }
    ∷ record { card = "01 0004 0601 0700 02 0003 000103"; name = "CH0*N" }
    ∷ record { card = "01 0006 0602 1100 1100 02 0006 000101 000201"; name = "CH0H0(Cl)0(Cl)" }
    -- `+` after the digit of a ring bond, and none after a letter
    ∷ record { card = "01 0008 0601 0601 0602 0602 02 000f 000101 000201 000301 010201 010301"; name = "CH0CH2CH4H4/0+2CH7H7/0" }
    -- places of two digits, and a marked ring bond
    ∷ record { card = "01 000c 0601 0601 0601 0601 0601 0601 02 0012 000104 000204 010304 020404 030504 040504"; name = "CH0<CH2<CH4<CH6<CH8<CH10</0" }
    -- azete: the double bond is traced at its turn
    ∷ record { card = "01 0008 0601 0601 0601 0700 02 000c 000102 000201 010301 020302"; name = "CH0=CH2N=CH5/0" }
    ∷ []

names : map (λ (c : Case). name_bytes (molecule_of (hex c.card))) cases ≡ map (λ (c : Case). bytes_of c.name) cases
unfolding sling cases
names = refl

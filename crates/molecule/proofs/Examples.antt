-- Cards judged and written, by computation: for each refusal the place in the order where it is due.
use mathlib.Core.List.{List, [], ◌∷◌, ◌++◌, map, flatten}
use mathlib.Core.Path.{◌≡◌, refl}
use Prim.Native.Nat.{ℕ}
use Prim.Native.String.{String}
use Rattle.lists.specs.Upto.{each}
use Rattle.lists.specs.Quoted.{bytes_of, hex}
use Rattle.molecule.specs.Kinds.{symbol_of, number_of, kind_of_symbol, kind_of_number}
use Rattle.molecule.specs.Judged.{molecule_of, card_fault}
use Rattle.molecule.specs.Written.{field, card_bytes}
use Rattle.molecule.proofs.Open.{molecule}

-- each kind is found again by its number and by its symbol, and what is no kind is 25
numbers-found : each 26 (λ k. kind_of_number (number_of k)) ≡ each 26 (λ k. k)
unfolding molecule
numbers-found = refl

symbols_found : each 26 (λ k. kind_of_symbol (symbol_of k)) ≡ each 26 (λ k. k)
unfolding molecule
symbols_found = refl

some-kinds : map (λ s. kind_of_symbol (bytes_of s)) ("H" ∷ "C" ∷ "Cl" ∷ "Mg" ∷ "X" ∷ "CL" ∷ []) ≡ 0 ∷ 1 ∷ 16 ∷ 24 ∷ 25 ∷ 25 ∷ []
unfolding molecule
some-kinds = refl

-- cyclopropane's bonds come in drawn round the ring, and are written lower atom first, ascending
cyclopropane_written :
    card_bytes (molecule_of (hex "01 0006 0602 0602 0602 02 0009 000101 010201 020001")) ≡ hex "01 0006 0602 0602 0602 02 0009 000101 000201 010201"
unfolding molecule
cyclopropane_written = refl

record Case : Type 0 where
  card : String
  fault : ℕ

cases : List Case
cases =
    -- accepted: one atom without bonds; ethane, its bond either way round
    record { card = "01 0002 0604 02 0000"; fault = 0 }
    ∷ record { card = "01 0004 0603 0603 02 0003 010001"; fault = 0 }
    -- 2 for the whole layout: no bytes, a tag missing, a byte after, half an atom, half a bond, a length past the end; also before 1
    ∷ record { card = ""; fault = 2 }
    ∷ record { card = "01 0002 0604"; fault = 2 }
    ∷ record { card = "01 0002 0604 02 0000 00"; fault = 2 }
    ∷ record { card = "01 0003 060406 02 0000"; fault = 2 }
    ∷ record { card = "01 0004 0603 0603 02 0002 0001"; fault = 2 }
    ∷ record { card = "01 0006 0603 0603 02 0000"; fault = 2 }
    ∷ record { card = "02 0000 01 0000"; fault = 2 }
    -- 1 for no atoms, also where bonds are listed
    ∷ record { card = "01 0000 02 0000"; fault = 1 }
    ∷ record { card = "01 0000 02 0003 000101"; fault = 1 }
    -- atoms in order, 3 before 4, and both before any bond
    ∷ record { card = "01 0002 0100 02 0000"; fault = 3 }
    ∷ record { card = "01 0002 0205 02 0000"; fault = 3 }
    ∷ record { card = "01 0004 0605 0200 02 0003 000505"; fault = 4 }
    -- bonds in order: 5 before 6 before 4
    ∷ record { card = "01 0004 0603 0603 02 0003 000205"; fault = 5 }
    ∷ record { card = "01 0004 0603 0603 02 0003 000001"; fault = 6 }
    ∷ record { card = "01 0004 0603 0603 02 0006 000101 010002"; fault = 6 }
    ∷ record { card = "01 0004 0603 0603 02 0003 000100"; fault = 6 }
    ∷ record { card = "01 0004 0603 0603 02 0003 000105"; fault = 6 }
    ∷ record { card = "01 0010 0600 0600 0600 0600 0600 0600 0600 0600 02 0015 000101 000201 000301 000401 000501 000601 070001"; fault = 4 }
    ∷ record { card = "01 0010 0600 0600 0600 0600 0600 0600 0600 0600 02 0015 000101 000201 000301 000401 000501 000601 070009"; fault = 6 }
    -- 8 last
    ∷ record { card = "01 0004 0603 0603 02 0000"; fault = 8 }
    ∷ record { card = "01 0008 0600 0600 0600 0600 02 0006 000101 020301"; fault = 8 }
    ∷ []

judged : map (λ (c : Case). card_fault (hex c.card)) cases ≡ map (λ (c : Case). c.fault) cases
unfolding molecule cases
judged = refl

-- n carbons with h hydrogens each, and k times the same bond
unfoldable alike : (n h k : ℕ) → List ℕ
unfolding molecule
alike n h k = field 1 (flatten (each n (λ _. 6 ∷ h ∷ []))) ++ field 2 (flatten (each k (λ _. 0 ∷ 1 ∷ 1 ∷ [])))

-- the limits: at the bound another fault is found, and past it 4
limits :
    map card_fault (alike 64 2 0 ∷ alike 65 0 0 ∷ alike 2 0 80 ∷ alike 2 0 81 ∷ alike 32 4 0 ∷ alike 33 4 0 ∷ alike 2 4 0 ∷ alike 2 5 0 ∷ [])
    ≡ 8 ∷ 4 ∷ 6 ∷ 4 ∷ 8 ∷ 4 ∷ 8 ∷ 4 ∷ []
unfolding alike
limits = refl

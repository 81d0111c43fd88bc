-- Document 01, "Kinds".
use Rattle.std.specs.Prelude.{Bool, ◌&&◌, List, [], ◌∷◌, eqb, leb, ltb, get_or}
use Prim.Native.Nat.{ℕ, compare}
use Prim.Native.String.{String}
use Rattle.std.proofs.Math.Dec.{compare_is_eq}
use Rattle.lists.specs.Order.{lex}
use Rattle.lists.specs.Tests.{find}
use Rattle.lists.specs.Quoted.{bytes_of}

pub record Kind : Type 0 where
  pub symbol : List ℕ
  pub number : ℕ

abbrev entry : String → ℕ → Kind
entry s z = record { symbol = bytes_of s; number = z }

-- "A fixed table of 24 kinds, in this order, with atomic numbers [..]. Kind numbers run 1 to 24. H (1) occurs only in text."
-- H stands before them, at 0, and 25 is the number of no kind.
unfoldable pub kinds : List Kind
kinds =
    entry "H" 1
    ∷ entry "C" 6 ∷ entry "Si" 14 ∷ entry "Ge" 32 ∷ entry "Sn" 50 ∷ entry "Pb" 82
    ∷ entry "N" 7 ∷ entry "P" 15 ∷ entry "As" 33 ∷ entry "Sb" 51 ∷ entry "Bi" 83
    ∷ entry "O" 8 ∷ entry "S" 16 ∷ entry "Se" 34 ∷ entry "Te" 52
    ∷ entry "F" 9 ∷ entry "Cl" 17 ∷ entry "Br" 35 ∷ entry "I" 53
    ∷ entry "B" 5 ∷ entry "Al" 13 ∷ entry "Li" 3 ∷ entry "Na" 11 ∷ entry "K" 19 ∷ entry "Mg" 12
    ∷ []

abbrev no_kind : Kind
no_kind = record { symbol = []; number = 0 }

unfoldable pub symbol_of : ℕ → List ℕ
symbol_of k = (get_or kinds k no_kind).symbol

unfoldable pub number_of : ℕ → ℕ
number_of k = (get_or kinds k no_kind).number

unfoldable pub kind_of_symbol : List ℕ → ℕ
kind_of_symbol s = find (λ e. compare_is_eq (lex compare e.symbol s)) kinds

unfoldable pub kind_of_number : ℕ → ℕ
kind_of_number z = find (λ e. eqb e.number z) kinds

-- one of the 24
abbrev pub is_kind : ℕ → Bool
is_kind k = ltb 0 k && leb k 24

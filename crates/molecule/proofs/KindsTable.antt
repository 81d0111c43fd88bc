-- The table of kinds read both ways: from a kind and back is one test computed over the 25 rows, from a number or symbol and back is what `find` finds.
use mathlib.Core.Bool.{true}
use mathlib.Core.List.{List}
use mathlib.Core.Path.{◌≡◌, refl}
use Prim.Native.Nat.{ℕ, ◌≤◌, compare}
use native.Mathlib.Omega.{arith}
use lib.Dec.{eqb, compare_is_eq}
use borrow.Author.Tests.{eqb-true}
use Rattle.lists.specs.Upto.{from, each}
use Rattle.lists.specs.Tests.{every}
use Rattle.lists.specs.Order.{lex}
use Rattle.lists.proofs.Order.{number-order, lex-order, is_eq_true}
use Rattle.lists.proofs.Tested.{every-true_below}
use Rattle.lists.proofs.Found.{find-passes}
use Rattle.molecule.specs.Kinds.{kinds, symbol_of, number_of, kind_of_symbol, kind_of_number}

all_numbers : every (each 25 (λ k. eqb (kind_of_number (number_of k)) k)) ≡ true
unfolding every each from kinds number_of kind_of_number
all_numbers = refl

all_symbols : every (each 25 (λ k. eqb (kind_of_symbol (symbol_of k)) k)) ≡ true
unfolding every each from kinds symbol_of kind_of_symbol lex
all_symbols = refl

pub kind_of_number-number_of : (k : ℕ) → k ≤ 24 → kind_of_number (number_of k) ≡ k
kind_of_number-number_of k h = eqb-true _ k (every-true_below 25 (λ i. eqb (kind_of_number (number_of i)) i) all_numbers k (omega arith))

pub kind_of_symbol-symbol_of : (k : ℕ) → k ≤ 24 → kind_of_symbol (symbol_of k) ≡ k
kind_of_symbol-symbol_of k h = eqb-true _ k (every-true_below 25 (λ i. eqb (kind_of_symbol (symbol_of i)) i) all_symbols k (omega arith))

pub number_of-kind_of_number : (z : ℕ) → kind_of_number z ≤ 24 → number_of (kind_of_number z) ≡ z
unfolding number_of kind_of_number kinds
number_of-kind_of_number z h = eqb-true _ z (find-passes (λ e. eqb e.number z) kinds _ (omega arith))

pub symbol_of-kind_of_symbol : (s : List ℕ) → kind_of_symbol s ≤ 24 → symbol_of (kind_of_symbol s) ≡ s
unfolding symbol_of kind_of_symbol kinds
symbol_of-kind_of_symbol s h = (lex-order number-order).same _ s (is_eq_true _ (find-passes (λ e. compare_is_eq (lex compare e.symbol s)) kinds _ (omega arith)))

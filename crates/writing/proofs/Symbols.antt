-- A symbol's bytes by its two letters: one test computed over the 25 kinds.
use mathlib.Core.Bool.{true, cond}
use mathlib.Core.List.{List, [], ◌∷◌, ◌++◌}
use mathlib.Core.Path.{◌≡◌, refl, ap, ◌∙◌}
use Prim.Native.Nat.{ℕ, zero, suc, ◌≤◌, compare}
use native.Mathlib.Omega.{arith}
use lib.ListN.{length, get_or}
use lib.Dec.{eqb, compare_is_eq}
use borrow.Author.Tests.{ne_eqb}
use Rattle.lists.specs.Upto.{from, each}
use Rattle.lists.specs.Tests.{every}
use Rattle.lists.specs.Order.{lex}
use Rattle.lists.proofs.Order.{number-order, lex-order, is_eq_true}
use Rattle.lists.proofs.Tested.{every-true_below}
use Rattle.molecule.specs.Kinds.{kinds, symbol_of}
use Rattle.std.specs.Prelude.{Some, None}
use Rattle.kinds.specs.Known.{known_in, letter_of}
use Rattle.kinds.proofs.Arrays.{no_symbol}
use Rattle.kinds.proofs.Known.{known_none}
use Rattle.sling.specs.Printed.{symbol_bytes}

abbrev spelled : ℕ → ℕ → List ℕ
spelled capital small = cond (eqb small 0) (capital ∷ []) (40 ∷ capital ∷ small ∷ 41 ∷ [])

all_spelled : every (each 25 (λ k. compare_is_eq (lex compare (symbol_bytes k) (spelled (get_or (symbol_of k) 0 0) (get_or (symbol_of k) 1 0))))) ≡ true
unfolding every each from symbol_of kinds lex
all_spelled = refl

symbol-spelled : (k : ℕ) → k ≤ 24 → symbol_bytes k ≡ spelled (get_or (symbol_of k) 0 0) (get_or (symbol_of k) 1 0)
symbol-spelled k h =
    (lex-order number-order).same _ _ (is_eq_true _ (every-true_below 25 (λ j. compare_is_eq (lex compare (symbol_bytes j) (spelled (get_or (symbol_of j) 0 0) (get_or (symbol_of j) 1 0)))) all_spelled k (omega arith)))

-- by its letters, where the second is there or is not
pub symbol_one : (k : ℕ) → k ≤ 24 → letter_of (get_or (symbol_of k) 1 0) ≡ None → symbol_bytes k ≡ get_or (symbol_of k) 0 0 ∷ []
symbol_one k h e = symbol-spelled k h ∙ spell (get_or (symbol_of k) 0 0) (get_or (symbol_of k) 1 0) e
  where
    spell : (c s : ℕ) → letter_of s ≡ None → spelled c s ≡ c ∷ []
    spell c zero e = refl
    spell c (suc s) e = cc

pub symbol_two : (k x : ℕ) → k ≤ 24 → letter_of (get_or (symbol_of k) 1 0) ≡ Some x → symbol_bytes k ≡ 40 ∷ get_or (symbol_of k) 0 0 ∷ x ∷ 41 ∷ []
symbol_two k x h e = symbol-spelled k h ∙ spell (get_or (symbol_of k) 0 0) (get_or (symbol_of k) 1 0) e
  where
    spell : (c s : ℕ) → letter_of s ≡ Some x → spelled c s ≡ 40 ∷ c ∷ x ∷ 41 ∷ []
    spell c zero e = cc
    spell c (suc s) e = let f : suc s ≡ x = cc in rw (ne_eqb (suc s) 0 (λ (z : suc s ≡ 0). omega arith)) (ap (λ (y : ℕ). 40 ∷ c ∷ y ∷ 41 ∷ []) f)

-- of a number that no kind has
pub symbol_none : (k : ℕ) → known_in (Some k) ≡ None → symbol_bytes k ≡ 40 ∷ 41 ∷ []
symbol_none k e = ap (λ (l : List ℕ). cond (eqb (length l) 1) l (40 ∷ (l ++ (41 ∷ [])))) (no_symbol k (known_none (Some k) e))

-- The constant arrays against the rules' table of kinds: each by one test, computed over all its entries.
use mathlib.Core.Bool.{Bool, true, false, cond, ◌&&◌}
use mathlib.Core.List.{List, [], ◌∷◌}
use mathlib.Core.Logic.{◌≢◌}
use mathlib.Core.Path.{◌≡◌, refl, sym, ◌∙◌, ap, ap₂}
use Prim.Native.Nat.{ℕ, suc, ◌+◌, ◌-◌, ◌<◌, ◌≤◌, compare}
use native.Mathlib.Decide.{dec_lt}
use native.Mathlib.Omega.{arith}
use lib.Dec.{eqb, leb, compare_is_eq}
use lib.ListN.{length, get_or}
use borrow.Author.Tests.{eqb-true, leb-true, eq-eqb, ne_eqb}
use Rattle.lists.specs.Upto.{from, each}
use Rattle.lists.specs.Tests.{every, find}
use Rattle.lists.specs.Order.{lex}
use Rattle.lists.proofs.Order.{number-order, lex-order, is_eq_true}
use Rattle.lists.proofs.Booleans.{and_both}
use Rattle.lists.proofs.Tested.{every-true_below}
use Rattle.std.proofs.lemmas.List.{get_or_past}
use Rattle.molecule.specs.Kinds.{Kind, kinds, symbol_of, number_of, kind_of_symbol, kind_of_number}
use Rattle.molecule.proofs.KindsTable.{symbol_of-kind_of_symbol, kind_of_symbol-symbol_of, number_of-kind_of_number}

unfoldable pub numbers : List ℕ
numbers =
    1 ∷ 6 ∷ 14 ∷ 32 ∷ 50 ∷ 82 ∷ 7 ∷ 15 ∷ 33 ∷ 51 ∷ 83 ∷ 8 ∷ 16 ∷ 34 ∷ 52 ∷ 9 ∷ 17 ∷ 35 ∷ 53 ∷ 5 ∷ 13
    ∷ 3 ∷ 11 ∷ 19 ∷ 12 ∷ []

unfoldable pub capitals : List ℕ
capitals =
    72 ∷ 67 ∷ 83 ∷ 71 ∷ 83 ∷ 80 ∷ 78 ∷ 80 ∷ 65 ∷ 83 ∷ 66 ∷ 79 ∷ 83 ∷ 83 ∷ 84 ∷ 70 ∷ 67 ∷ 66 ∷ 73 ∷ 66 ∷ 65
    ∷ 76 ∷ 78 ∷ 75 ∷ 77 ∷ []

unfoldable pub smalls : List ℕ
smalls =
    0 ∷ 0 ∷ 105 ∷ 101 ∷ 110 ∷ 98 ∷ 0 ∷ 0 ∷ 115 ∷ 98 ∷ 105 ∷ 0 ∷ 0 ∷ 101 ∷ 101 ∷ 0 ∷ 108 ∷ 114 ∷ 0 ∷ 0 ∷ 108
    ∷ 105 ∷ 97 ∷ 0 ∷ 103 ∷ []

unfoldable pub by_number : List ℕ
by_number =
    25 ∷ 0 ∷ 25 ∷ 21 ∷ 25 ∷ 19 ∷ 1 ∷ 6 ∷ 11 ∷ 15 ∷ 25 ∷ 22 ∷ 24 ∷ 20 ∷ 2 ∷ 7 ∷ 12 ∷ 16 ∷ 25 ∷ 23 ∷ 25
    ∷ 25 ∷ 25 ∷ 25 ∷ 25 ∷ 25 ∷ 25 ∷ 25 ∷ 25 ∷ 25 ∷ 25 ∷ 25 ∷ 3 ∷ 8 ∷ 13 ∷ 17 ∷ 25 ∷ 25 ∷ 25 ∷ 25 ∷ 25 ∷ 25
    ∷ 25 ∷ 25 ∷ 25 ∷ 25 ∷ 25 ∷ 25 ∷ 25 ∷ 25 ∷ 4 ∷ 9 ∷ 14 ∷ 18 ∷ 25 ∷ 25 ∷ 25 ∷ 25 ∷ 25 ∷ 25 ∷ 25 ∷ 25 ∷ 25
    ∷ 25 ∷ 25 ∷ 25 ∷ 25 ∷ 25 ∷ 25 ∷ 25 ∷ 25 ∷ 25 ∷ 25 ∷ 25 ∷ 25 ∷ 25 ∷ 25 ∷ 25 ∷ 25 ∷ 25 ∷ 25 ∷ 25 ∷ 5 ∷ 10 ∷ []

unfoldable pub by_capital : List ℕ
by_capital =
    25 ∷ 19 ∷ 1 ∷ 25 ∷ 25 ∷ 15 ∷ 25 ∷ 0 ∷ 18 ∷ 25 ∷ 23 ∷ 25 ∷ 25 ∷ 6 ∷ 11 ∷ 7 ∷ 25 ∷ 25 ∷ 12 ∷ 25 ∷ 25
    ∷ 25 ∷ 25 ∷ 25 ∷ 25 ∷ 25 ∷ []

all_numbers : every (each 25 (λ k. eqb (get_or numbers k 0) (number_of k))) ≡ true
unfolding every each from kinds number_of numbers
all_numbers = refl

pub number-at : (k : ℕ) → k ≤ 24 → get_or numbers k 0 ≡ number_of k
number-at k h = eqb-true _ _ (every-true_below 25 (λ k. eqb (get_or numbers k 0) (number_of k)) all_numbers k (omega arith))

all_kinds : every (each 84 (λ z. eqb (get_or by_number z 0) (kind_of_number z))) ≡ true
unfolding every each from kinds kind_of_number by_number
all_kinds = refl

pub kind-at : (z : ℕ) → z ≤ 83 → get_or by_number z 0 ≡ kind_of_number z
kind-at z h = eqb-true _ _ (every-true_below 84 (λ z. eqb (get_or by_number z 0) (kind_of_number z)) all_kinds z (omega arith))

all_letters : every (each 26 (λ i. eqb (get_or by_capital i 0) (kind_of_symbol ((65 + i) ∷ [])))) ≡ true
unfolding every each from kinds kind_of_symbol lex by_capital
all_letters = refl

pub capital_at : (c : ℕ) → 65 ≤ c → c ≤ 90 → get_or by_capital (c - 65) 0 ≡ kind_of_symbol (c ∷ [])
capital_at c h k =
    let e : 65 + (c - 65) ≡ c = omega arith in
    eqb-true _ _ (every-true_below 26 (λ i. eqb (get_or by_capital i 0) (kind_of_symbol ((65 + i) ∷ []))) all_letters (c - 65) (omega arith))
    ∙ ap (λ (x : ℕ). kind_of_symbol (x ∷ [])) e

-- the symbol of the letters in the arrays
abbrev letters : ℕ → ℕ → List ℕ
letters c d = cond (eqb d 0) (c ∷ []) (c ∷ d ∷ [])

all_symbols : every (each 25 (λ k. compare_is_eq (lex compare (symbol_of k) (letters (get_or capitals k 0) (get_or smalls k 0))))) ≡ true
unfolding every each from kinds symbol_of lex capitals smalls
all_symbols = refl

symbol-at : (k : ℕ) → k ≤ 24 → symbol_of k ≡ letters (get_or capitals k 0) (get_or smalls k 0)
symbol-at k h =
    (lex-order number-order).same _ _
    (is_eq_true _ (every-true_below 25 (λ k. compare_is_eq (lex compare (symbol_of k) (letters (get_or capitals k 0) (get_or smalls k 0)))) all_symbols k (omega arith)))

letters_first : (c d : ℕ) → get_or (letters c d) 0 0 ≡ c
letters_first c d = go (eqb d 0)
  where
    go : (s : Bool) → get_or (cond s (c ∷ []) (c ∷ d ∷ [])) 0 0 ≡ c
    go true = refl
    go false = refl

letters_second : (c d : ℕ) → get_or (letters c d) 1 0 ≡ d
letters_second c d = go (eqb d 0) refl
  where
    go : (s : Bool) → eqb d 0 ≡ s → get_or (cond s (c ∷ []) (c ∷ d ∷ [])) 1 0 ≡ d
    go true e = sym (eqb-true d 0 e)
    go false e = refl

pub first-at : (k : ℕ) → k ≤ 24 → get_or capitals k 0 ≡ get_or (symbol_of k) 0 0
first-at k h = sym (ap (λ (l : List ℕ). get_or l 0 0) (symbol-at k h) ∙ letters_first (get_or capitals k 0) (get_or smalls k 0))

pub second_at : (k : ℕ) → k ≤ 24 → get_or smalls k 0 ≡ get_or (symbol_of k) 1 0
second_at k h = sym (ap (λ (l : List ℕ). get_or l 1 0) (symbol-at k h) ∙ letters_second (get_or capitals k 0) (get_or smalls k 0))

-- A number that no kind has has the rules' atomic number 0 and no letters, and no entry in the arrays.

pub no_symbol : (k : ℕ) → 24 < k → symbol_of k ≡ []
unfolding symbol_of kinds
no_symbol k h = ap (λ (e : Kind). e.symbol) (get_or_past kinds k (record { symbol = []; number = 0 }) (omega arith))

no_atomic : (k : ℕ) → 24 < k → number_of k ≡ 0
unfolding number_of kinds
no_atomic k h = ap (λ (e : Kind). e.number) (get_or_past kinds k (record { symbol = []; number = 0 }) (omega arith))

-- an array over the kinds that follows a rule follows it at every number, where the rule gives 0 past the kinds
module _ (array : List ℕ) (rule : ℕ → ℕ) (long : length array ≡ 25) (known : (k : ℕ) → k ≤ 24 → get_or array k 0 ≡ rule k) (past : (k : ℕ) → 24 < k → rule k ≡ 0) where
  everywhere : (k : ℕ) → get_or array k 0 ≡ rule k
  everywhere k = pick (dec_lt k 25)
    where
      pick : Dec (k < 25) → get_or array k 0 ≡ rule k
      pick (yes l) = known k (omega arith)
      pick (no l) = get_or_past array k 0 (omega (arith, long)) ∙ sym (past k (omega arith))

pub number-everywhere : (k : ℕ) → get_or numbers k 0 ≡ number_of k
unfolding numbers
number-everywhere = everywhere numbers number_of refl number-at no_atomic

pub first-everywhere : (k : ℕ) → get_or capitals k 0 ≡ get_or (symbol_of k) 0 0
unfolding capitals
first-everywhere = everywhere capitals (λ k. get_or (symbol_of k) 0 0) refl first-at (λ k h. ap (λ (l : List ℕ). get_or l 0 0) (no_symbol k h))

pub second_everywhere : (k : ℕ) → get_or smalls k 0 ≡ get_or (symbol_of k) 1 0
unfolding smalls
second_everywhere = everywhere smalls (λ k. get_or (symbol_of k) 1 0) refl second_at (λ k h. ap (λ (l : List ℕ). get_or l 1 0) (no_symbol k h))

-- What is not in the table is kind 25: a kind below that would have the number or the symbol.

find-le : {A : Type 0} (p : A → Bool) (l : List A) → find p l ≤ length l
find-le p [] = omega arith
find-le p (x ∷ l) = go (p x) (find-le p l)
  where
    go : (b : Bool) → find p l ≤ length l → cond b 0 (suc (find p l)) ≤ suc (length l)
    go true h = omega arith
    go false h = omega arith

unknown-number : (z : ℕ) → (kind_of_number z ≤ 24 → ⊥) → kind_of_number z ≡ 25
unfolding kind_of_number kinds
unknown-number z h = go (dec_lt (kind_of_number z) 25)
  where
    go : Dec (kind_of_number z < 25) → kind_of_number z ≡ 25
    go (yes l) = absurd (h (omega arith))
    go (no l) = omega (arith, find-le (λ e. eqb e.number z) kinds)

unknown-symbol : (s : List ℕ) → (kind_of_symbol s ≤ 24 → ⊥) → kind_of_symbol s ≡ 25
unfolding kind_of_symbol kinds
unknown-symbol s h = go (dec_lt (kind_of_symbol s) 25)
  where
    go : Dec (kind_of_symbol s < 25) → kind_of_symbol s ≡ 25
    go (yes l) = absurd (h (omega arith))
    go (no l) = omega (arith, find-le (λ e. compare_is_eq (lex compare e.symbol s)) kinds)

-- what is looked up is a kind or the number of none
pub kind_of_number-low : (z : ℕ) → kind_of_number z ≤ 25
unfolding kind_of_number kinds
kind_of_number-low z = find-le (λ e. eqb e.number z) kinds

pub kind_of_symbol-low : (s : List ℕ) → kind_of_symbol s ≤ 25
unfolding kind_of_symbol kinds
kind_of_symbol-low s = find-le (λ e. compare_is_eq (lex compare e.symbol s)) kinds

low-numbers : every (each 25 (λ k. leb (number_of k) 83)) ≡ true
unfolding every each from kinds number_of
low-numbers = refl

pub no_number : (z : ℕ) → 83 < z → kind_of_number z ≡ 25
no_number z h =
    unknown-number z
    (λ l.
    let e = number_of-kind_of_number z l in
    omega (arith, leb-true (number_of (kind_of_number z)) 83 (every-true_below 25 (λ k. leb (number_of k) 83) low-numbers (kind_of_number z) (omega arith))))

all_capitals : every (each 25 (λ k. leb 65 (get_or capitals k 0) && leb (get_or capitals k 0) 90)) ≡ true
unfolding every each from capitals
all_capitals = refl

-- a symbol begins with a capital
pub no_capital : (c : ℕ) (s : List ℕ) → (65 ≤ c → c ≤ 90 → ⊥) → kind_of_symbol (c ∷ s) ≡ 25
no_capital c s h =
    unknown-symbol (c ∷ s)
    (λ l.
    let e = first-at (kind_of_symbol (c ∷ s)) l ∙ ap (λ (r : List ℕ). get_or r 0 0) (symbol_of-kind_of_symbol (c ∷ s) l) in
    let w =
    and_both (leb 65 (get_or capitals (kind_of_symbol (c ∷ s)) 0)) (leb (get_or capitals (kind_of_symbol (c ∷ s)) 0) 90)
    (every-true_below 25 (λ k. leb 65 (get_or capitals k 0) && leb (get_or capitals k 0) 90) all_capitals (kind_of_symbol (c ∷ s)) (omega arith)) in
    h (omega (arith, leb-true 65 (get_or capitals (kind_of_symbol (c ∷ s)) 0) w.0)) (omega (arith, leb-true (get_or capitals (kind_of_symbol (c ∷ s)) 0) 90 w.1)))

module _ (c d : ℕ) where
  pub letters_found : (k : ℕ) → k ≤ 24 → get_or capitals k 0 ≡ c → get_or smalls k 0 ≡ d → d ≢ 0 → kind_of_symbol (c ∷ d ∷ []) ≡ k
  letters_found k h e f z =
      let two : letters c d ≡ c ∷ d ∷ [] = rw (ne_eqb d 0 z) in
      let s : symbol_of k ≡ c ∷ d ∷ [] = symbol-at k h ∙ ap₂ letters e f ∙ two in
      ap kind_of_symbol (sym s) ∙ kind_of_symbol-symbol_of k h

  pub letters_none : ((k : ℕ) → k < 25 → get_or capitals k 0 ≡ c → get_or smalls k 0 ≡ d → ⊥) → kind_of_symbol (c ∷ d ∷ []) ≡ 25
  letters_none h =
      unknown-symbol (c ∷ d ∷ [])
      (λ k.
      let e = symbol_of-kind_of_symbol (c ∷ d ∷ []) k in
      h (kind_of_symbol (c ∷ d ∷ [])) (omega arith) (first-at (kind_of_symbol (c ∷ d ∷ [])) k ∙ ap (λ (r : List ℕ). get_or r 0 0) e)
      (second_at (kind_of_symbol (c ∷ d ∷ [])) k ∙ ap (λ (r : List ℕ). get_or r 1 0) e))

  -- a symbol of two letters has no 0 in the second place
  pub no_second : d ≡ 0 → kind_of_symbol (c ∷ d ∷ []) ≡ 25
  no_second z =
      unknown-symbol (c ∷ d ∷ [])
      (λ k. one (get_or capitals (kind_of_symbol (c ∷ d ∷ [])) 0) (get_or smalls (kind_of_symbol (c ∷ d ∷ [])) 0) (sym (symbol-at (kind_of_symbol (c ∷ d ∷ [])) k) ∙ symbol_of-kind_of_symbol (c ∷ d ∷ []) k))
    where
      one : (x y : ℕ) → letters x y ≡ c ∷ d ∷ [] → ⊥
      one x y e =
          let f : y ≡ 0 = sym (letters_second x y) ∙ ap (λ (r : List ℕ). get_or r 1 0) e ∙ z in
          let g : letters x y ≡ x ∷ [] = rw (eq-eqb y 0 f) in
          omega (arith, ap length (sym g ∙ e))

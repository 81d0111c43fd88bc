-- The symbol of a kind, as it is printed, is scanned as that kind: by the table of kinds, looked through once.
use mathlib.Core.Path.{◌≡◌, refl, sym, ap, ◌∙◌}
use mathlib.Core.Bool.{Bool, true, false, ◌&&◌, true≢false}
use mathlib.Core.List.{List, [], ◌∷◌, ◌++◌}
use Prim.Native.Nat.{ℕ, suc, ◌+◌, ◌<◌, ◌≤◌}
use native.Mathlib.Omega.{arith}
use lib.ListN.{length}
use lib.Dec.{eqb, leb}
use borrow.Author.Tests.{le-leb, lt-leb, ne_eqb, eqb-true, leb-true}
use Rattle.lists.specs.Order.{lex}
use Rattle.lists.specs.Tests.{every}
use Rattle.lists.specs.Upto.{each, from}
use Rattle.lists.proofs.Booleans.{and_both}
use Rattle.lists.proofs.Tested.{every-true_below}
use Rattle.molecule.specs.Kinds.{kinds, symbol_of, kind_of_symbol}
use Rattle.sling.specs.Items.{atom}
use Rattle.sling.specs.Scanned.{got, is_capital, is_small, small_first, bracketed, body, scan}
use Rattle.sling.specs.Printed.{symbol_bytes}
use Rattle.sling.proofs.Numbers.{digit_first}

-- a capital, or a capital and a small letter, that stand for k
abbrev symbol_fits : ℕ → List ℕ → Bool
symbol_fits k [] = false
symbol_fits k (c ∷ []) = is_capital c && eqb (kind_of_symbol (c ∷ [])) k
symbol_fits k (c ∷ s ∷ []) = is_capital c && (is_small s && eqb (kind_of_symbol (c ∷ s ∷ [])) k)
symbol_fits k (c ∷ s ∷ e ∷ l) = false

symbols_fit : every (each 25 (λ k. symbol_fits k (symbol_of k))) ≡ true
unfolding every each from symbol_of kind_of_symbol kinds lex
symbols_fit = refl

pub data Symbol (k : ℕ) : Type 0 where
  one : (c : ℕ) → symbol_of k ≡ c ∷ [] → is_capital c ≡ true → kind_of_symbol (c ∷ []) ≡ k → Symbol k
  two : (c s : ℕ) → symbol_of k ≡ c ∷ s ∷ [] → is_capital c ≡ true → is_small s ≡ true → kind_of_symbol (c ∷ s ∷ []) ≡ k → Symbol k

symbol-is : (k : ℕ) → k ≤ 24 → Symbol k
symbol-is k h = pick (symbol_of k) refl (every-true_below 25 (λ j. symbol_fits j (symbol_of j)) symbols_fit k (omega arith))
  where
    pick : (l : List ℕ) → symbol_of k ≡ l → symbol_fits k l ≡ true → Symbol k
    pick [] e f = absurd (true≢false (sym f))
    pick (c ∷ []) e f = let g = and_both (is_capital c) _ f in one c e g.0 (eqb-true _ k g.1)
    pick (c ∷ s ∷ []) e f =
        let g = and_both (is_capital c) _ f in
        let h = and_both (is_small s) _ g.1 in
        two c s e g.0 h.0 (eqb-true _ k h.1)
    pick (c ∷ s ∷ d ∷ l) e f = absurd (true≢false (sym f))

pub capital_low : (c : ℕ) → is_capital c ≡ true → 65 ≤ c
capital_low c e = leb-true 65 c (and_both (leb 65 c) (leb c 90) e).0

capital_high : (c : ℕ) → is_capital c ≡ true → c ≤ 90
capital_high c e = leb-true c 90 (and_both (leb 65 c) (leb c 90) e).1

body-capital : (c n m : ℕ) (l : List ℕ) → is_capital c ≡ true → small_first l ≡ false → body (c ∷ l) n m ≡ got (atom m (kind_of_symbol (c ∷ []))) (suc n)
unfolding body
body-capital c n m l h s =
    let lo : 65 ≤ c = capital_low c h in
    simp (ne_eqb c 47 (λ q. omega arith), ne_eqb c 40 (λ q. omega arith), h, s)

body-bracketed : (c d n m : ℕ) (l : List ℕ) → is_capital c ≡ true → is_small d ≡ true
    → body (40 ∷ c ∷ d ∷ 41 ∷ l) n m ≡ got (atom m (kind_of_symbol (c ∷ d ∷ []))) (n + 4)
unfolding body bracketed
body-bracketed c d n m l h s = simp (h, s)

-- a symbol after a mark of n bytes
pub body-symbol : (k n m : ℕ) (l : List ℕ) → k ≤ 24 → small_first l ≡ false → body (symbol_bytes k ++ l) n m ≡ got (atom m k) (n + length (symbol_bytes k))
body-symbol k n m l h s = pick (symbol-is k h)
  where
    pick : Symbol k → body (symbol_bytes k ++ l) n m ≡ got (atom m k) (n + length (symbol_bytes k))
    pick (one c e p q) = simp e (body-capital c n m l p s ∙ simp q (ap (got (atom m k)) (omega arith)))
    pick (two c d e p r q) = simp e (body-bracketed c d n m l p r ∙ simp q)

scan-capital : (c : ℕ) (l : List ℕ) → is_capital c ≡ true → scan (c ∷ l) ≡ body (c ∷ l) 0 1
unfolding scan
scan-capital c l h =
    let lo : 65 ≤ c = capital_low c h in
    simp (ne_eqb c 61 (λ q. omega arith), ne_eqb c 42 (λ q. omega arith), ne_eqb c 60 (λ q. omega arith))
    (simp (ne_eqb c 43 (λ q. omega arith)) (simp (ne_eqb c 45 (λ q. omega arith), le-leb 48 c (omega arith), lt-leb c 57 (omega arith))))

pub scan-symbol : (k : ℕ) (l : List ℕ) → k ≤ 24 → scan (symbol_bytes k ++ l) ≡ body (symbol_bytes k ++ l) 0 1
unfolding scan
scan-symbol k l h = pick (symbol-is k h)
  where
    pick : Symbol k → scan (symbol_bytes k ++ l) ≡ body (symbol_bytes k ++ l) 0 1
    pick (one c e p q) = simp e (scan-capital c l p)
    pick (two c d e p r q) = simp e

-- it begins with neither a small letter nor a digit
pub symbol-first : (k : ℕ) (l : List ℕ) → k ≤ 24 → (small_first (symbol_bytes k ++ l) ≡ false) × (digit_first (symbol_bytes k ++ l) ≡ false)
symbol-first k l h = pick (symbol-is k h)
  where
    pick : Symbol k → (small_first (symbol_bytes k ++ l) ≡ false) × (digit_first (symbol_bytes k ++ l) ≡ false)
    pick (one c e p q) =
        let lo : 65 ≤ c = capital_low c p in
        let hi : c ≤ 90 = capital_high c p in
        (simp (e, lt-leb 97 c (omega arith)), simp (e, lt-leb c 57 (omega arith), le-leb 48 c (omega arith)))
    pick (two c d e p r q) = (simp e, simp e)

pub symbol-long : (k : ℕ) → k ≤ 24 → (0 < length (symbol_bytes k)) × (length (symbol_bytes k) ≤ 4)
symbol-long k h = pick (symbol-is k h)
  where
    pick : Symbol k → (0 < length (symbol_bytes k)) × (length (symbol_bytes k) ≤ 4)
    pick (one c e p q) = simp e (omega arith)
    pick (two c d e p r q) = simp e (omega arith)

-- The items that a writer writes, printed, are the tokens scanned: each item is scanned whole, because what follows it begins with no small
-- letter and, where the item ends in a digit, with no digit.
use mathlib.Core.Path.{◌≡◌, refl, ap, ◌∙◌}
use mathlib.Core.Bool.{Bool, true, false}
use mathlib.Core.List.{List, [], ◌∷◌, ◌++◌}
use Prim.Native.Nat.{ℕ, zero, suc, ◌+◌, ◌-◌, ◌<◌, ◌≤◌}
use native.Mathlib.Nat.{not-suc-le-zero}
use native.Mathlib.Omega.{arith}
use lib.ListN.{length, length-append}
use lib.Dec.{leb}
use borrow.Author.Tests.{lt-leb, ne_eqb, leb-true}
use Rattle.lists.proofs.Booleans.{and_both}
use Rattle.lists.proofs.All.{All}
use Rattle.sling.specs.Items.{Target, at, up, Item, atom, reference, ring}
use Rattle.sling.specs.Scanned.{got, is_digit, small_first, number_at, placed, target, body, scan, Token, tok, tokens}
use Rattle.sling.specs.Printed.{decimal, mark_bytes, symbol_bytes, plus, item_bytes, ends_in_digit, bytes}
use Rattle.sling.proofs.Numbers.{digit_first, decimal-read, decimal-long, decimal-first}
use Rattle.sling.proofs.Symbols.{body-symbol, scan-symbol, symbol-first, symbol-long}

pub data IsMark : ℕ → Type 0 where
  single : IsMark 1
  double : IsMark 2
  triple : IsMark 3
  delocalised : IsMark 4

pub mark_is : (m : ℕ) → 0 < m → m ≤ 4 → IsMark m
mark_is zero p h = absurd (not-suc-le-zero p)
mark_is (suc zero) p h = single
mark_is (suc (suc zero)) p h = double
mark_is (suc (suc (suc zero))) p h = triple
mark_is (suc (suc (suc (suc zero)))) p h = delocalised
mark_is (suc (suc (suc (suc (suc m))))) p h = absurd (omega arith)

-- what a writer writes: marks of the four codes, kinds of the table or H, places below 1,000 and no steps up
abbrev pub Plain : Item → Type 0
Plain (atom m k) = IsMark m × (k ≤ 24)
Plain (reference (at p)) = p < 1000
Plain (reference (up k)) = ⊥
Plain (ring m (at p)) = IsMark m × (p < 1000)
Plain (ring m (up k)) = ⊥

digit_low : (b : ℕ) → is_digit b ≡ true → 48 ≤ b
digit_low b e = leb-true 48 b (and_both (leb 48 b) (leb b 57) e).0

digit-high : (b : ℕ) → is_digit b ≡ true → b ≤ 57
digit-high b e = leb-true b 57 (and_both (leb 48 b) (leb b 57) e).1

target-digit : (b : ℕ) (l : List ℕ) (k : ℕ) (f : Target → Item) → is_digit b ≡ true → target (b ∷ l) k f ≡ placed (number_at (b ∷ l)) k f
unfolding target
target-digit b l k f h = let lo : 48 ≤ b = digit_low b h in simp (ne_eqb b 45 (λ q. omega arith))

target-decimal : (p : ℕ) (l : List ℕ) (k : ℕ) (f : Target → Item) → p < 1000 → digit_first l ≡ false
    → target (decimal p ++ l) k f ≡ got (f (at p)) (k + length (decimal p))
target-decimal p l k f h s =
    let d = decimal-first p h in
    let e : target (decimal p ++ l) k f ≡ placed (number_at (decimal p ++ l)) k f = simp d.2 (target-digit d.0 (d.1 ++ l) k f d.3) in
    e ∙ simp (decimal-read p l h s)

scan-digit : (b : ℕ) (l : List ℕ) → is_digit b ≡ true → scan (b ∷ l) ≡ target (b ∷ l) 0 reference
unfolding scan
scan-digit b l h =
    let lo : 48 ≤ b = digit_low b h in
    let hi : b ≤ 57 = digit-high b h in
    simp (ne_eqb b 61 (λ q. omega arith), ne_eqb b 42 (λ q. omega arith), ne_eqb b 60 (λ q. omega arith))
    (simp (ne_eqb b 43 (λ q. omega arith)) (simp h))

scan-atom : (m : ℕ) → IsMark m → (k : ℕ) (l : List ℕ) → k ≤ 24 → small_first l ≡ false
    → scan (mark_bytes m ++ symbol_bytes k ++ l) ≡ got (atom m k) (length (mark_bytes m ++ symbol_bytes k))
unfolding scan
scan-atom m single k l h s = scan-symbol k l h ∙ body-symbol k 0 1 l h s ∙ ap (got (atom 1 k)) (omega arith)
scan-atom m double k l h s = body-symbol k 1 2 l h s ∙ ap (got (atom 2 k)) (omega arith)
scan-atom m triple k l h s = body-symbol k 1 3 l h s ∙ ap (got (atom 3 k)) (omega arith)
scan-atom m delocalised k l h s = body-symbol k 1 4 l h s ∙ ap (got (atom 4 k)) (omega arith)

scan-ring : (m : ℕ) → IsMark m → (p : ℕ) (l : List ℕ) → p < 1000 → digit_first l ≡ false
    → scan (mark_bytes m ++ 47 ∷ decimal p ++ l) ≡ got (ring m (at p)) (length (mark_bytes m ++ 47 ∷ decimal p))
unfolding scan body
scan-ring m single p l h s = target-decimal p l 1 (ring 1) h s ∙ ap (got (ring 1 (at p))) (omega arith)
scan-ring m double p l h s = target-decimal p l 2 (ring 2) h s ∙ ap (got (ring 2 (at p))) (omega arith)
scan-ring m triple p l h s = target-decimal p l 2 (ring 3) h s ∙ ap (got (ring 3 (at p))) (omega arith)
scan-ring m delocalised p l h s = target-decimal p l 2 (ring 4) h s ∙ ap (got (ring 4 (at p))) (omega arith)

scan-reference : (d : Bool) (p : ℕ) (l : List ℕ) → p < 1000 → digit_first l ≡ false
    → scan ((plus d (at p) ++ decimal p) ++ l) ≡ got (reference (at p)) (length (plus d (at p) ++ decimal p))
unfolding scan
scan-reference true p l h s = simp (decimal-read p l h s) (ap (got (reference (at p))) (omega arith))
scan-reference false p l h s =
    let d = decimal-first p h in
    let e : scan (decimal p ++ l) ≡ target (decimal p ++ l) 0 reference = simp d.2 (scan-digit d.0 (d.1 ++ l) d.3) in
    e ∙ target-decimal p l 0 reference h s ∙ ap (got (reference (at p))) (omega arith)

scan-item : (d : Bool) (i : Item) (l : List ℕ) → Plain i → small_first l ≡ false → (ends_in_digit i ≡ true → digit_first l ≡ false)
    → scan (item_bytes d i ++ l) ≡ got i (length (item_bytes d i))
unfolding item_bytes
scan-item d (atom m k) l h s t = scan-atom m h.0 k l h.1 s
scan-item d (reference (at p)) l h s t = scan-reference d p l h (t refl)
scan-item d (reference (up k)) l h s t = absurd h
scan-item d (ring m (at p)) l h s t = scan-ring m h.0 p l h.1 (t refl)
scan-item d (ring m (up k)) l h s t = absurd h

-- what an item begins with
abbrev Begins : Bool → List ℕ → Type 0
Begins d l = (small_first l ≡ false) × (d ≡ true → digit_first l ≡ false)

atom-first : (d : Bool) (m k : ℕ) (l : List ℕ) → IsMark m → k ≤ 24 → Begins d (item_bytes d (atom m k) ++ l)
unfolding item_bytes
atom-first d m k l single h = ((symbol-first k l h).0, λ e. (symbol-first k l h).1)
atom-first d m k l double h = (refl, λ e. refl)
atom-first d m k l triple h = (refl, λ e. refl)
atom-first d m k l delocalised h = (refl, λ e. refl)

reference-first : (d : Bool) (p : ℕ) (l : List ℕ) → p < 1000 → Begins d (item_bytes d (reference (at p)) ++ l)
unfolding item_bytes
reference-first true p l h = (refl, λ e. refl)
reference-first false p l h =
    let f = decimal-first p h in
    let hi : f.0 ≤ 57 = digit-high f.0 f.3 in
    (simp (f.2, lt-leb 97 f.0 (omega arith)), λ e. cc)

ring-first : (d : Bool) (m p : ℕ) (l : List ℕ) → IsMark m → Begins d (item_bytes d (ring m (at p)) ++ l)
unfolding item_bytes
ring-first d m p l single = (refl, λ e. refl)
ring-first d m p l double = (refl, λ e. refl)
ring-first d m p l triple = (refl, λ e. refl)
ring-first d m p l delocalised = (refl, λ e. refl)

bytes-first : (d : Bool) (is : List Item) → All Plain is → Begins d (bytes d is)
unfolding bytes
bytes-first d [] h = (refl, λ e. refl)
bytes-first d (atom m k ∷ is) h = atom-first d m k _ h.0.0 h.0.1
bytes-first d (reference (at p) ∷ is) h = reference-first d p _ h.0
bytes-first d (reference (up k) ∷ is) h = absurd h.0
bytes-first d (ring m (at p) ∷ is) h = ring-first d m p _ h.0.0
bytes-first d (ring m (up k) ∷ is) h = absurd h.0

-- how many bytes an item has at most, and that it has one
abbrev pub cost : Item → ℕ
cost (atom m k) = 5
cost (reference t) = 4
cost (ring m t) = 5

mark_long : (m : ℕ) → IsMark m → length (mark_bytes m) ≤ 1
mark_long m single = omega arith
mark_long m double = omega arith
mark_long m triple = omega arith
mark_long m delocalised = omega arith

plus-long : (d : Bool) (p : ℕ) → length (plus d (at p)) ≤ 1
plus-long true p = omega arith
plus-long false p = omega arith

pub item_long : (d : Bool) (i : Item) → Plain i → (0 < length (item_bytes d i)) × (length (item_bytes d i) ≤ cost i)
unfolding item_bytes
item_long d (atom m k) h = simp length-append (omega (arith, symbol-long k h.1, mark_long m h.0))
item_long d (reference (at p)) h = simp length-append (omega (arith, plus-long d p, decimal-long p h))
item_long d (reference (up k)) h = absurd h
item_long d (ring m (at p)) h = simp length-append (omega (arith, mark_long m h.0, decimal-long p h.1))
item_long d (ring m (up k)) h = absurd h

-- the bytes of an item are passed over
skip : (xs l : List ℕ) (o : ℕ) → tokens (xs ++ l) (length xs) o ≡ tokens l 0 (o + length xs)
unfolding tokens
skip [] l o = ap (tokens l 0) (omega arith)
skip (x ∷ xs) l o = skip xs l (suc o) ∙ ap (tokens l 0) (omega arith)

suc-sub_one : (n : ℕ) → suc n - 1 ≡ n
suc-sub_one n = omega arith

tokens-got : (xs l : List ℕ) (i : Item) (o : ℕ) → scan (xs ++ l) ≡ got i (length xs) → 0 < length xs
    → tokens (xs ++ l) 0 o ≡ tok o i ∷ tokens l 0 (o + length xs)
unfolding tokens
tokens-got [] l i o e p = absurd (not-suc-le-zero p)
tokens-got (x ∷ xs) l i o e p =
    simp (e, suc-sub_one) (ap (λ (ts : List Token). tok o i ∷ ts) (skip xs l (suc o) ∙ ap (tokens l 0) (omega arith)))

-- the tokens that items make when they are printed from an offset on
unfoldable pub tokens_of : ℕ → Bool → List Item → List Token
tokens_of o d [] = []
tokens_of o d (i ∷ is) = tok o i ∷ tokens_of (o + length (item_bytes d i)) (ends_in_digit i) is

pub tokens-bytes : (d : Bool) (is : List Item) (o : ℕ) → All Plain is → tokens (bytes d is) 0 o ≡ tokens_of o d is
unfolding bytes tokens_of tokens
tokens-bytes d [] o h = refl
tokens-bytes d (i ∷ is) o h =
    let f = bytes-first (ends_in_digit i) is h.1 in
    tokens-got (item_bytes d i) (bytes (ends_in_digit i) is) i o (scan-item d i (bytes (ends_in_digit i) is) h.0 f.0 f.1) (item_long d i h.0).0
    ∙ ap (λ (ts : List Token). tok o i ∷ ts) (tokens-bytes (ends_in_digit i) is (o + length (item_bytes d i)) h.1)

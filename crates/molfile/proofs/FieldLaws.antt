-- A field by its bytes, one at a time.
use Prim.Native.Nat.{ℕ, zero, suc, ◌+◌, ◌-◌, ◌*◌, ◌≤◌, ◌<◌}
use mathlib.Core.Path.{◌≡◌, refl, sym, ap, ap₂, ◌∙◌}
use mathlib.Core.List.{List, [], ◌∷◌}
use mathlib.Core.Bool.{Bool, true, false, cond, ◌&&◌}
use native.Mathlib.Omega.{arith}
use native.Mathlib.Numerals.{add-one}
use lib.ListN.{length, get_or, take, drop, drop_of_length-le, length-drop}
use lib.Seq.{drop-cons, take_all, get_or-take, get_or-drop}
use lib.Dec.{eqb, leb}
use borrow.Author.Tests.{ne_eqb, eq-eqb, leb-true}
use Rattle.std.specs.List.{list_all}
use Rattle.lists.specs.Tests.{every}
use Rattle.lists.proofs.Booleans.{and_both}
use Rattle.lists.proofs.Upto.{get_or-each, length-each}
use Rattle.sling.specs.Scanned.{is_digit}
use Rattle.ctfile.specs.Fields.{are_blank, columns, unled, untrailed, decimal, is_sign, unsigned}

-- what a slice from a place on has
pub rest : (l : List ℕ) (i : ℕ) → take (length l - i) (drop i l) ≡ drop i l
rest l i = take_all (length l - i) (drop i l) (omega (arith, length-drop i l))

pub all_blank : (l : List ℕ) → list_all (λ b. eqb b 32) l ≡ are_blank l
unfolding every
all_blank [] = refl
all_blank (b ∷ bs) = ap (λ (r : Bool). eqb b 32 && r) (all_blank bs)

-- ---- The blanks around what a field holds

module _ (l : List ℕ) (i : ℕ) (h : i < length l) where
  pub unled_on : get_or l i 0 ≡ 32 → unled (drop i l) ≡ unled (drop (i + 1) l)
  unfolding unled
  unled_on e = rw (drop-cons l i 0 h, add-one) (simp (eq-eqb _ _ e))

  pub unled_here : (get_or l i 0 ≡ 32 → ⊥) → unled (drop i l) ≡ drop i l
  unfolding unled
  unled_here n = rw (drop-cons l i 0 h) (simp (ne_eqb _ _ n))

pub unled_end : (l : List ℕ) (i : ℕ) → length l ≤ i → unled (drop i l) ≡ []
unfolding unled
unled_end l i h = rw (drop_of_length-le l h)

pub untrailed_at : (l : List ℕ) (i : ℕ) → ((j : ℕ) → j < i → are_blank (drop j l) ≡ false) → are_blank (drop i l) ≡ true → untrailed l ≡ take i l
unfolding untrailed every
untrailed_at [] zero f e = refl
untrailed_at [] (suc i) f e = refl
untrailed_at (b ∷ bs) zero f e = simp e
untrailed_at (b ∷ bs) (suc i) f e = simp (f 0 (omega arith)) (ap (λ (r : List ℕ). b ∷ r) (untrailed_at bs i (λ j h. f (suc j) (omega arith)) e))

pub untrailed-whole : (l : List ℕ) → ((j : ℕ) → j < length l → are_blank (drop j l) ≡ false) → untrailed l ≡ l
unfolding untrailed every
untrailed-whole [] f = refl
untrailed-whole (b ∷ bs) f = simp (f 0 (omega arith)) (ap (λ (r : List ℕ). b ∷ r) (untrailed-whole bs (λ j h. f (suc j) (omega arith))))

-- ---- Digits, one by one

pub digit_low : (b : ℕ) → is_digit b ≡ true → (48 ≤ b) × (b ≤ 57)
digit_low b e = let w = and_both (leb 48 b) _ e in (leb-true 48 b w.0, leb-true b 57 w.1)

module _ (v : ℕ) (l : List ℕ) (i : ℕ) (h : i < length l) where
  pub decimal_digit : is_digit (get_or l i 0) ≡ true → decimal v (drop i l) ≡ decimal (10 * v + (get_or l i 0 - 48)) (drop (i + 1) l)
  unfolding decimal
  decimal_digit e = rw (drop-cons l i 0 h, add-one) (simp e)

  pub decimal_blank : is_digit (get_or l i 0) ≡ false → are_blank (drop i l) ≡ true → decimal v (drop i l) ≡ v
  unfolding decimal
  decimal_blank e f = rw (drop-cons l i 0 h) (simp (e, rw (drop-cons l i 0 h) at f))

  pub decimal_none : is_digit (get_or l i 0) ≡ false → are_blank (drop i l) ≡ false → decimal v (drop i l) ≡ 1000
  unfolding decimal
  decimal_none e f = rw (drop-cons l i 0 h) (simp (e, rw (drop-cons l i 0 h) at f))

pub decimal-end : (v : ℕ) (l : List ℕ) (i : ℕ) → length l ≤ i → decimal v (drop i l) ≡ v
unfolding decimal
decimal-end v l i h = rw (drop_of_length-le l h)

-- ---- A sign before a digit

pub unsigned_drops : (l : List ℕ) → 2 ≤ length l → (is_sign (get_or l 0 0) && is_digit (get_or l 1 0)) ≡ true → unsigned l ≡ drop 1 l
unfolding unsigned
unsigned_drops [] h e = absurd (omega arith)
unsigned_drops (b ∷ []) h e = absurd (omega arith)
unsigned_drops (b ∷ c ∷ l) h e = simp e

pub unsigned_short : (l : List ℕ) → length l ≤ 1 → unsigned l ≡ l
unfolding unsigned
unsigned_short [] h = refl
unsigned_short (b ∷ []) h = refl
unsigned_short (b ∷ c ∷ l) h = absurd (omega arith)

pub unsigned_keeps : (l : List ℕ) → (is_sign (get_or l 0 0) && is_digit (get_or l 1 0)) ≡ false → unsigned l ≡ l
unfolding unsigned
unsigned_keeps [] e = refl
unsigned_keeps (b ∷ []) e = refl
unsigned_keeps (b ∷ c ∷ l) e = simp e

-- ---- How long a field is without what is cut off

pub unled_long : (l : List ℕ) → length (unled l) ≤ length l
unfolding unled
unled_long [] = omega arith
unled_long (b ∷ bs) = pick (eqb b 32) (unled_long bs)
  where
    pick : (c : Bool) → length (unled bs) ≤ length bs → length (cond c (unled bs) (b ∷ bs)) ≤ suc (length bs)
    pick true h = omega arith
    pick false h = omega arith

pub unsigned_long : (l : List ℕ) → length (unsigned l) ≤ length l
unfolding unsigned
unsigned_long [] = omega arith
unsigned_long (b ∷ []) = omega arith
unsigned_long (b ∷ c ∷ l) = pick (is_sign b && is_digit c)
  where
    pick : (x : Bool) → length (cond x (c ∷ l) (b ∷ c ∷ l)) ≤ suc (suc (length l))
    pick true = omega arith
    pick false = omega arith

-- ---- Columns

list-eq : (xs ys : List ℕ) → length xs ≡ length ys → ((i : ℕ) → i < length xs → get_or xs i 0 ≡ get_or ys i 0) → xs ≡ ys
list-eq [] [] e f = refl
list-eq [] (y ∷ ys) e f = absurd (omega arith)
list-eq (x ∷ xs) [] e f = absurd (omega arith)
list-eq (x ∷ xs) (y ∷ ys) e f = ap₂ ◌∷◌ (f 0 (omega arith)) (list-eq xs ys (omega arith) (λ i h. f (suc i) (omega arith)))

module _ (k n : ℕ) (l : List ℕ) where
  pub columns-long : length (columns k n l) ≡ n
  unfolding columns
  columns-long = length-each n (λ i. get_or l (k + i) 32)

  pub columns-at : (i : ℕ) → i < n → get_or (columns k n l) i 0 ≡ get_or l (k + i) 32
  unfolding columns
  columns-at i h = get_or-each n (λ i. get_or l (k + i) 32) i 0 h

pub columns-are : (k n : ℕ) (l : List ℕ) (xs : List ℕ) → length xs ≡ n → ((i : ℕ) → i < n → get_or xs i 0 ≡ get_or l (k + i) 32) → xs ≡ columns k n l
columns-are k n l xs e f =
    list-eq xs (columns k n l) (e ∙ sym (columns-long k n l)) (λ i h. f i (omega arith) ∙ sym (columns-at k n l i (omega arith)))

-- the columns of a slice of a line are columns of the line
module _ (j m : ℕ) (l : List ℕ) where
  pub slice-column : (i : ℕ) → i < m → get_or (take m (drop j l)) i 32 ≡ get_or l (j + i) 32
  slice-column i h = get_or-take m (drop j l) i 32 h ∙ get_or-drop j l i 32

  pub slice-columns : (k n : ℕ) → k + n ≤ m → columns k n (take m (drop j l)) ≡ columns (j + k) n l
  slice-columns k n h =
      let s = take m (drop j l) in
      columns-are (j + k) n l (columns k n s) (columns-long k n s)
      (λ i g. columns-at k n s i g ∙ slice-column (k + i) (omega arith) ∙ ap (λ (x : ℕ). get_or l x 32) (omega arith))

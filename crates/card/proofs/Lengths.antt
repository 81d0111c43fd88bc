-- How many bytes the bonds take: counted before anything is written.
use mathlib.Core.Bool.{Bool, true, false, cond}
use mathlib.Core.List.{List, [], ◌∷◌, map}
use mathlib.Core.Path.{◌≡◌, refl, sym, ◌∙◌, ap}
use Prim.Native.Nat.{ℕ, suc, ◌+◌, ◌*◌, ◌≤◌}
use native.Mathlib.Omega.{arith}
use lib.Dec.{ltb}
use lib.ListN.{length, get_or}
use Rattle.lists.specs.Upto.{each, sum}
use Rattle.lists.proofs.Steps.{each-zero, sum-next}
use Rattle.lists.proofs.Sums.{sum-eq, sum-le, sum-const}
use Rattle.std.specs.List.{count_by}
use Rattle.std.proofs.lemmas.List.Recursion.{is_count_by}
use Rattle.lists.specs.Tests.{count}
use Rattle.lists.proofs.Upto.{each-get_or}
use Rattle.table.specs.Arrays.{HasRow, row_in}
use Rattle.table.proofs.RowLaws.{row_at, row-long}
use Rattle.card.specs.Writing.{bond_piece, slot_piece, row_bytes, row_length}
use Rattle.card.proofs.Written.{pieces_length}

pub sum-start : (f : ℕ → ℕ) → 0 ≡ sum (each 0 f)
unfolding sum
sum-start f = sym (ap sum (each-zero f))

pub sum_more : (p : ℕ) (f : ℕ → ℕ) → sum (each (p + 1) f) ≡ sum (each p f) + f p
sum_more p f = let e : p + 1 ≡ suc p = omega arith in ap (λ (k : ℕ). sum (each k f)) e ∙ sum-next p f

pub three_or_none : (b : Bool) → cond {A = ℕ} b 3 0 ≤ 3
three_or_none true = omega arith
three_or_none false = omega arith

pub row_low : (degrees near : List ℕ) (a : ℕ) → HasRow degrees near a → row_length degrees near a ≤ 18
unfolding row_length
row_low degrees near a H =
    omega (
      arith,
      H.few,
      sum-le (get_or degrees a 0) (λ p. cond (ltb a (get_or near (6 * a + p) 0)) 3 0) (λ p. 3) (λ p h. three_or_none (ltb a (get_or near (6 * a + p) 0))),
      sum-const (get_or degrees a 0) 3,
    )

threes : (p : ℕ → Bool) (l : List ℕ) → sum (map (λ x. cond (p x) 3 0) l) ≡ 3 * count (map p l)
unfolding sum
threes p [] = refl
threes p (x ∷ l) = go (p x) (threes p l)
  where
    go : (b : Bool) → sum (map (λ y. cond (p y) 3 0) l) ≡ 3 * count (map p l)
        → cond {A = ℕ} b 3 0 + sum (map (λ y. cond (p y) 3 0) l) ≡ 3 * (cond b 1 0 + count (map p l))
    go true e = omega arith
    go false e = omega arith

counted : (p : ℕ → Bool) (l : List ℕ) → count (map p l) ≡ count_by p l
counted p = is_count_by (λ l. count (map p l)) p refl (λ x l. go (p x) (count (map p l)))
  where
    go : (b : Bool) (n : ℕ) → cond {A = ℕ} b 1 0 + n ≡ cond b (1 + n) n
    go true n = refl
    go false n = omega arith

-- three bytes for each neighbour that comes after the atom
pub row-counted : (degrees near : List ℕ) (a : ℕ) → HasRow degrees near a → row_length degrees near a ≡ 3 * count_by (ltb a) (row_in degrees near a)
unfolding row_length
row-counted degrees near a H =
    sum-eq (get_or degrees a 0) _ (λ p. cond (ltb a (get_or (row_in degrees near a) p 0)) 3 0)
    (λ p h. ap (λ (x : ℕ). cond {A = ℕ} (ltb a x) 3 0) (sym (row_at degrees near a p h)))
    ∙ ap (λ (n : ℕ). sum (each n (λ p. cond (ltb a (get_or (row_in degrees near a) p 0)) 3 0))) (sym (row-long degrees near a (omega (arith, H))))
    ∙ ap sum (each-get_or (λ x. cond (ltb a x) 3 0) (row_in degrees near a) 0)
    ∙ threes (ltb a) (row_in degrees near a)
    ∙ ap (λ (n : ℕ). 3 * n) (counted (ltb a) (row_in degrees near a))

piece_long : (a b c : ℕ) → length (bond_piece a b c) ≡ cond (ltb a b) 3 0
piece_long a b c = go (ltb a b)
  where
    go : (s : Bool) → length (cond s (a ∷ b ∷ c ∷ []) []) ≡ cond s 3 0
    go true = refl
    go false = refl

pub row-length : (degrees near codes : List ℕ) (a : ℕ) → length (row_bytes degrees near codes a) ≡ row_length degrees near a
unfolding row_bytes row_length
row-length degrees near codes a =
    pieces_length (slot_piece near codes a) (get_or degrees a 0)
    ∙ sum-eq (get_or degrees a 0) _ (λ p. cond (ltb a (get_or near (6 * a + p) 0)) 3 0) (λ p h. piece_long a (get_or near (6 * a + p) 0) (get_or codes (6 * a + p) 0))

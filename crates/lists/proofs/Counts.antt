-- How many numbers below n pass a test, told from how many pass another: counting is a sum of 0 and 1.
use mathlib.Core.Path.{◌≡◌, refl, sym, ◌∙◌, ap}
use mathlib.Core.Bool.{Bool, true, false, cond, ◌&&◌, and-false, false≢true}
use mathlib.Core.Logic.{◌⊎◌, ⊎_elim}
use Prim.Native.Nat.{ℕ, ◌+◌, ◌≤◌, ◌<◌}
use native.Mathlib.Decide.{dec_lt, ℕ_discrete}
use native.Mathlib.Omega.{arith}
use borrow.Author.Tests.{eq-eqb, ne_eqb}
use lib.Dec.{eqb}
use Rattle.lists.specs.Upto.{upto, each, sum}
use Rattle.lists.specs.Tests.{count}
use Rattle.lists.proofs.Booleans.{cond-le, eqb_swap}
use Rattle.lists.proofs.Upto.{each-eq, of_upto}
use Rattle.lists.proofs.Passed.{count-map_none, count-map_le, count-map_apart}
use Rattle.lists.proofs.Sums.{sum-add, sum-le, sum_lt, sum-const, sum-pick, count-sum}

abbrev bit : Bool → ℕ
bit b = cond b 1 0

count_bits : (n : ℕ) (p : ℕ → Bool) → count (each n p) ≡ sum (each n (λ a. bit (p a)))
unfolding each
count_bits n p = count-sum p (upto n)

pub count-eq : (n : ℕ) (p q : ℕ → Bool) → ((a : ℕ) → a < n → p a ≡ q a) → count (each n p) ≡ count (each n q)
count-eq n p q h = ap count (each-eq n p q h)

pub count_none : (n : ℕ) (p : ℕ → Bool) → ((a : ℕ) → a < n → p a ≡ false) → count (each n p) ≡ 0
unfolding each
count_none n p h = count-map_none (upto n) p (λ a m. h a (of_upto n a m))

-- what passes p passes q
pub count-le : (n : ℕ) (p q : ℕ → Bool) → ((a : ℕ) → a < n → p a ≡ true → q a ≡ true) → count (each n p) ≤ count (each n q)
unfolding each
count-le n p q h = count-map_le (upto n) p q (λ a m. h a (of_upto n a m))

-- what passes p passes q, and x passes only q
pub count-lt : (n : ℕ) (p q : ℕ → Bool) → ((a : ℕ) → a < n → p a ≡ true → q a ≡ true) → (x : ℕ) → x < n → p x ≡ false → q x ≡ true
    → count (each n p) < count (each n q)
count-lt n p q h x k e f = rw (count_bits n p, count_bits n q) (sum_lt n _ _ (λ a l. cond-le (p a) (q a) (h a l)) x k (rw (e, f) (omega arith)))

-- what passes r passes p or q, and nothing passes both
pub count-split : (n : ℕ) (p q r : ℕ → Bool) → ((a : ℕ) → a < n → bit (r a) ≡ bit (p a) + bit (q a)) → count (each n r) ≡ count (each n p) + count (each n q)
count-split n p q r h = rw (count_bits n p, count_bits n q, count_bits n r) (sum-add n _ _ _ h)

-- what passes r passes p or q
pub count-cover : (n : ℕ) (p q r : ℕ → Bool) → ((a : ℕ) → a < n → r a ≡ true → (p a ≡ true) ⊎ (q a ≡ true)) → count (each n r) ≤ count (each n p) + count (each n q)
count-cover n p q r h =
    let s : sum (each n (λ a. bit (r a))) ≤ sum (each n (λ a. bit (p a) + bit (q a))) = sum-le n _ _ (λ a l. go (r a) (p a) (q a) (h a l)) in
    omega (arith, count_bits n p, count_bits n q, count_bits n r, sum-add n (λ a. bit (p a)) (λ a. bit (q a)) (λ a. bit (p a) + bit (q a)) (λ a l. refl))
  where
    go : (s t u : Bool) → (s ≡ true → (t ≡ true) ⊎ (u ≡ true)) → bit s ≤ bit t + bit u
    go true true u k = omega arith
    go true false true k = omega arith
    go true false false k = absurd (⊎_elim false≢true false≢true (k refl))
    go false t u k = omega arith

-- what passes p or q passes r, and nothing passes both
pub count-apart : (n : ℕ) (p q r : ℕ → Bool) → ((a : ℕ) → a < n → p a ≡ true → (r a ≡ true) × (q a ≡ false)) → ((a : ℕ) → a < n → q a ≡ true → r a ≡ true)
    → count (each n p) + count (each n q) ≤ count (each n r)
unfolding each
count-apart n p q r h k = count-map_apart (upto n) p q r (λ a m. h a (of_upto n a m)) (λ a m. k a (of_upto n a m))

pub count-below : (n : ℕ) (p : ℕ → Bool) → count (each n p) ≤ n
count-below n p =
    let s = count-le n p (λ a. true) (λ a l e. refl) in
    omega (arith, count_bits n (λ a. true), sum-const n 1)

-- not every number passes
pub count-fewer : (n : ℕ) (p : ℕ → Bool) (x : ℕ) → x < n → p x ≡ false → count (each n p) < n
count-fewer n p x k e =
    let s = count-lt n p (λ a. true) (λ a l e. refl) x k e refl in
    omega (arith, count_bits n (λ a. true), sum-const n 1)

pub count-one : (n a : ℕ) → a < n → count (each n (λ b. eqb b a)) ≡ 1
count-one n a h = count_bits n (λ b. eqb b a) ∙ sum-pick n a 1 h

-- only a is looked at
pub count-pick : (n a : ℕ) (p : ℕ → Bool) → a < n → count (each n (λ b. p b && eqb a b)) ≡ cond (p a) 1 0
count-pick n a p h = count-eq n (λ b. p b && eqb a b) (λ b. p a && eqb b a) (λ b l. at b (ℕ_discrete b a)) ∙ go (p a)
  where
    at : (b : ℕ) → Dec (b ≡ a) → (p b && eqb a b) ≡ (p a && eqb b a)
    at b (yes e) = ap (λ c. p c && eqb a b) e ∙ ap (λ t. p a && t) (eqb_swap a b)
    at b (no e) = simp (ne_eqb a b (λ f. e (sym f)), ne_eqb b a e, and-false)

    go : (t : Bool) → count (each n (λ b. t && eqb b a)) ≡ bit t
    go true = count-one n a h
    go false = count_none n (λ b. false) (λ b l. refl)

-- only a passes, if any does
pub count-only : (n a : ℕ) (p : ℕ → Bool) → ((b : ℕ) → b < n → p b ≡ true → b ≡ a) → count (each n p) ≤ 1
count-only n a p h = go (dec_lt a n)
  where
    fails : n ≤ a → (b : ℕ) → b < n → (t : Bool) → p b ≡ t → t ≡ false
    fails k b l true e = absurd (omega (arith, h b l e))
    fails k b l false e = refl

    go : Dec (a < n) → count (each n p) ≤ 1
    go (yes k) = omega (arith, count-le n p (λ b. eqb b a) (λ b l e. eq-eqb b a (h b l e)), count-one n a k)
    go (no k) = let o : n ≤ a = omega arith in omega (arith, count_none n p (λ b l. fails o b l (p b) refl))

-- What the outcome of a test tells: of the two that were joined, of the branch that was taken, and of 1 and 0 as they are counted.
use mathlib.Core.Bool.{Bool, true, false, cond, ◌&&◌, ◌||◌, true≢false}
use mathlib.Core.Logic.{◌⊎◌, inl, inr}
use mathlib.Core.Path.{◌≡◌, refl, sym, ◌∙◌}
use Prim.Native.Nat.{ℕ, suc, ◌≤◌}
use native.Mathlib.Decide.{ℕ_discrete}
use native.Mathlib.Omega.{arith}
use borrow.Author.Tests.{eq-eqb, ne_eqb}
use lib.Dec.{eqb}

pub and_both : (s t : Bool) → (s && t) ≡ true → (s ≡ true) × (t ≡ true)
and_both true t e = (refl, e)
and_both false t e = absurd (true≢false (sym e))

pub or_either : (s t : Bool) → (s || t) ≡ true → (s ≡ true) ⊎ (t ≡ true)
or_either true t e = inl refl
or_either false t e = inr e

pub or_neither : (s t : Bool) → (s || t) ≡ false → (s ≡ false) × (t ≡ false)
or_neither true t e = absurd (true≢false e)
or_neither false t e = (refl, e)

-- a choice that gives 0 did not take the branch that is over 0
pub unless : (s : Bool) (m n : ℕ) → cond s (suc m) n ≡ 0 → (s ≡ false) × (n ≡ 0)
unless true m n e = absurd (omega arith)
unless false m n e = (refl, e)

pub provided : (s : Bool) (m n : ℕ) → cond s n (suc m) ≡ 0 → (s ≡ true) × (n ≡ 0)
provided true m n e = (refl, e)
provided false m n e = absurd (omega arith)

pub cond-le : (s t : Bool) → (s ≡ true → t ≡ true) → cond {A = ℕ} s 1 0 ≤ cond t 1 0
cond-le true t h = rw (h refl) (omega arith)
cond-le false t h = omega arith

pub eqb_swap : (a b : ℕ) → eqb a b ≡ eqb b a
eqb_swap a b = go (ℕ_discrete a b)
  where
    go : Dec (a ≡ b) → eqb a b ≡ eqb b a
    go (yes e) = eq-eqb a b e ∙ sym (eq-eqb b a (sym e))
    go (no e) = ne_eqb a b e ∙ sym (ne_eqb b a (λ f. e (sym f)))

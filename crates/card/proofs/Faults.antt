-- The first fault of a list, found by a loop: what is left to look at, from k on.
use mathlib.Core.List.{map}
use mathlib.Core.Logic.{◌≢◌}
use mathlib.Core.Path.{◌≡◌, refl, ◌∙◌, ap}
use Prim.Native.Nat.{ℕ, zero, suc, ◌+◌, ◌-◌, ◌<◌, ◌≤◌}
use native.Mathlib.Omega.{arith}
use Rattle.lists.specs.Upto.{from, each}
use Rattle.molecule.specs.Refusals.{or_next, first_fault}
use Rattle.refusal.specs.declared.Refusal.{Refusal}
use Rattle.refusal.specs.declared.Refusal.TheVariants.{NoAtoms, Malformed, UnknownKind, OverLimit, NotThere, WrongBond, WrongHydrogen, NotConnected, OverAllowance, NoRoom, BrokenLine}
use Rattle.refusal.specs.Numbers.{number_of}

-- no refusal has the number of acceptance
pub number_of-some : (r : Refusal) → number_of r ≢ 0
number_of-some NoAtoms e = omega arith
number_of-some Malformed e = omega arith
number_of-some UnknownKind e = omega arith
number_of-some OverLimit e = omega arith
number_of-some NotThere e = omega arith
number_of-some WrongBond e = omega arith
number_of-some WrongHydrogen e = omega arith
number_of-some NotConnected e = omega arith
number_of-some OverAllowance e = omega arith
number_of-some NoRoom e = omega arith
number_of-some BrokenLine e = omega arith

abbrev pub Rest : (ℕ → ℕ) → ℕ → ℕ → ℕ
Rest f n k = first_fault (map f (from k (n - k)))

pub or_next-some : (m n : ℕ) → m ≢ 0 → or_next m n ≡ m
or_next-some zero n h = absurd (h (omega arith))
or_next-some (suc m) n h = refl

pub or_next-none : (m n : ℕ) → m ≡ 0 → or_next m n ≡ n
or_next-none m n e = ap (λ (k : ℕ). or_next k n) e

module _ (f : ℕ → ℕ) (n : ℕ) where
  pub rest_start : first_fault (each n f) ≡ Rest f n 0
  unfolding each
  rest_start = let e : n ≡ n - 0 = omega arith in ap (λ (m : ℕ). first_fault (map f (from 0 m))) e

  rest_cons : (k : ℕ) → k < n → Rest f n k ≡ or_next (f k) (Rest f n (k + 1))
  unfolding first_fault from
  rest_cons k h =
      let e : n - k ≡ suc (n - (k + 1)) = omega arith in
      let g : suc k ≡ k + 1 = omega arith in
      ap (λ (m : ℕ). first_fault (map f (from k m))) e ∙ ap (λ (j : ℕ). or_next (f k) (first_fault (map f (from j (n - (k + 1)))))) g

  pub rest_stop : (k : ℕ) → k < n → f k ≢ 0 → Rest f n k ≡ f k
  rest_stop k h e = rest_cons k h ∙ or_next-some (f k) (Rest f n (k + 1)) e

  pub rest_next : (k : ℕ) → k < n → f k ≡ 0 → Rest f n k ≡ Rest f n (k + 1)
  rest_next k h e = rest_cons k h ∙ or_next-none (f k) (Rest f n (k + 1)) e

  pub rest_end : (k : ℕ) → n ≤ k → Rest f n k ≡ 0
  unfolding first_fault from
  rest_end k h = let e : n - k ≡ 0 = omega arith in ap (λ (m : ℕ). first_fault (map f (from k m))) e

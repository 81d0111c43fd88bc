-- A table without bonds: every row is empty.
use mathlib.Core.List.{List}
use mathlib.Core.Path.{◌≡◌, ◌∙◌}
use Prim.Native.Nat.{ℕ, ◌<◌, ◌≤◌}
use native.Mathlib.Omega.{arith}
use lib.ListN.{length, get_or, replicate, length-replicate, get_or-replicate}
use Rattle.molecule.specs.Molecule.{neighbours}
use Rattle.table.specs.Arrays.{Arrays, Tidy, as_molecule}
use Rattle.table.proofs.Views.{code-none, degree-row}

abbrev pub unbonded : ℕ → List ℕ → List ℕ → Arrays
unbonded n kinds hydrogens =
    record { n = n; kinds = kinds; hydrogens = hydrogens; degrees = replicate 64 0; near = replicate 384 0; codes = replicate 384 0 }

pub empty_row : (a : ℕ) → a < 64 → get_or {A = ℕ} (replicate 64 0) a 0 ≡ 0
empty_row a h = get_or-replicate {A = ℕ} 64 a 0 0 h

module _ (n : ℕ) (kinds hydrogens : List ℕ) (few : n ≤ 64) (k : length kinds ≡ 64) (h : length hydrogens ≡ 64) where
  bare : (a : ℕ) → a < n → get_or {A = ℕ} (replicate 64 0) a 0 ≡ 0
  bare a l = empty_row a (omega arith)

  pub unbonded_tidy : Tidy (unbonded n kinds hydrogens)
  unbonded_tidy = record {
    atoms = few;
    kinds_long = k;
    hydrogens_long = h;
    degrees_long = length-replicate {A = ℕ} 64 0;
    near_long = length-replicate {A = ℕ} 384 0;
    codes_long = length-replicate {A = ℕ} 384 0;
    few = λ a l. omega (arith, bare a l);
    inside = λ a p l m. absurd (omega (arith, bare a l));
    ascending = λ a p l m. absurd (omega (arith, bare a l));
    coded = λ a p l m. absurd (omega (arith, bare a l));
  }

  pub unbonded_code : (a b : ℕ) → a < n → (as_molecule (unbonded n kinds hydrogens)).code a b ≡ 0
  unbonded_code a b l = code-none (unbonded n kinds hydrogens) unbonded_tidy a l b (λ p m. absurd (omega (arith, bare a l)))

  pub unbonded_degree : (a : ℕ) → a < n → length (neighbours (as_molecule (unbonded n kinds hydrogens)) a) ≡ 0
  unbonded_degree a l = degree-row (unbonded n kinds hydrogens) unbonded_tidy a l ∙ bare a l

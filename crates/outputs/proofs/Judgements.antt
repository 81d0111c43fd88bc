-- Behind a judgement: its refusal stands, and where it has none the leaf count's does.
use mathlib.Core.Bool.{cond}
use mathlib.Core.Logic.{◌≢◌}
use mathlib.Core.Path.{◌≡◌, refl, sym, ap}
use Prim.Native.Nat.{ℕ, zero, suc}
use lib.Dec.{ltb}
use Rattle.molecule.specs.Molecule.{Molecule}
use Rattle.molecule.specs.Refusals.{or_next}
use Rattle.classes.specs.Refining.{rule1}
use Rattle.classes.specs.Numberings.{leaf_count}
use Rattle.outputs.specs.Judged.{fault_under}

pub fault_first : (fault : ℕ) (M : Molecule) (allowance : ℕ) → fault ≢ 0 → fault ≡ fault_under fault M allowance
unfolding fault_under
fault_first zero M allowance h = absurd (h refl)
fault_first (suc n) M allowance h = refl

pub fault_then : (fault : ℕ) (M : Molecule) (allowance : ℕ) → fault ≡ 0 → cond (ltb allowance (leaf_count rule1 M)) 9 0 ≡ fault_under fault M allowance
unfolding fault_under
fault_then fault M allowance e = ap (λ k. or_next k (cond (ltb allowance (leaf_count rule1 M)) 9 0)) (sym e)

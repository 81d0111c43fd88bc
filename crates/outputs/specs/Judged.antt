-- The refusals before anything is written, in their order.
use Rattle.std.specs.Prelude.{cond, ℕ, ltb}
use Rattle.molecule.specs.Molecule.{Molecule}
use Rattle.molecule.specs.Refusals.{or_next}
use Rattle.classes.specs.Refining.{rule1}
use Rattle.classes.specs.Numberings.{leaf_count}

-- "[1 to 8]; 9": the refusal before numbering, and then that of the leaf count
unfoldable pub fault_under : (fault : ℕ) (M : Molecule) (allowance : ℕ) → ℕ
fault_under fault M allowance = or_next fault (cond (ltb allowance (leaf_count rule1 M)) 9 0)

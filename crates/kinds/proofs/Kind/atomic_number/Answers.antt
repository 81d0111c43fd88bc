-- The array's entry at a number is the rules' atomic number, also where no kind has it.
use mathlib.Core.Path.{◌∙◌}
use Rattle.kinds.proofs.Arrays.{numbers, number-everywhere}
use Rattle.kinds.proofs.Kind.atomic_number.Goals as goal

pub returns : goal.returns
unfolding numbers
returns c = c.entry.ensures ∙ number-everywhere c.args.self

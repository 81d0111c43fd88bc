-- The array's entry at a number is the first letter of its symbol, also where no kind has it.
use mathlib.Core.Path.{◌∙◌}
use Rattle.kinds.proofs.Arrays.{capitals, first-everywhere}
use Rattle.kinds.proofs.Kind.capital.Goals as goal

pub returns : goal.returns
unfolding capitals
returns c = c.entry.ensures ∙ first-everywhere c.args.self

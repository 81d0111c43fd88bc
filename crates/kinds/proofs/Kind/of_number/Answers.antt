-- Above 83 no kind has the number; below, the array's entry is the rules' kind.
use mathlib.Core.Path.{sym, ◌∙◌}
use native.Mathlib.Omega.{arith}
use Rattle.kinds.proofs.Arrays.{by_number, kind-at, no_number, kind_of_number-low}
use Rattle.kinds.proofs.Kind.of_number.Goals as goal

pub returns-then-number-gt83-clause-is : goal.returns-then-number-gt83-clause-is
returns-then-number-gt83-clause-is c = sym (no_number c.args.number c.if-number-gt83.true)

pub of_entry-requires : goal.of_entry-requires
unfolding by_number
of_entry-requires c = omega (arith, kind-at c.args.number c.if-number-gt83.false, kind_of_number-low c.args.number)

pub returns-clause-is : goal.returns-clause-is
unfolding by_number
returns-clause-is c = c.of_entry.ensures.is ∙ kind-at c.args.number c.if-number-gt83.false

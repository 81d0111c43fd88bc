use Rattle.lines.specs.Written.{numbered}
use Rattle.lines.proofs.Putting.{adds_more}
use Rattle.lines.proofs.output.Printed.put_number.Goals as goal

pub returns-clause-adds : goal.returns-clause-adds
unfolding numbered
returns-clause-adds c = adds_more _ _ _ _ _ c.put_digits.ensures.adds c.put_byte.ensures

use Rattle.lines.proofs.Putting.{adds_more}
use Rattle.lines.proofs.output.Printed.put_three.Goals as goal

pub returns-clause-adds : goal.returns-clause-adds
returns-clause-adds c =
    adds_more _ _ _ _ _ c.put_number.ensures.adds (adds_more _ _ _ _ _ c.put_number-2.ensures.adds c.put_number-3.ensures.adds)

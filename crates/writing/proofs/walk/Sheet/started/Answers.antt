use Rattle.writing.proofs.Top.{begun-shows}
use Rattle.writing.proofs.walk.Sheet.started.Goals as goal

pub returns : goal.returns
returns c = λ n h. begun-shows c.args.kind n _ h c.started.ensures

-- Each piece stands behind the one before it, and together they are the line.
use Rattle.std.proofs.Common.{rules}
use Rattle.lines.proofs.Putting.{adds_more, printed}
use Rattle.naming.specs.Lines.{shown}
use Rattle.naming.proofs.put_name.Goals as goal

pub returns : goal.returns
unfolding shown
returns c =
    printed _ _ _ _ _ c.nothing-line.ensures
    (adds_more _ _ _ _ _ c.put_three.ensures.adds (adds_more _ _ _ _ _ c.put_text.ensures.adds c.put_newline.ensures)) (search rules)

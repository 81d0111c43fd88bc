-- Each piece stands behind the one before it, and together they are the line.
use Rattle.std.proofs.Common.{rules}
use Rattle.lines.proofs.Putting.{adds_more, printed}
use Rattle.answering.specs.Answers.{shown}
use Rattle.answering.proofs.answer.put_answer.Goals as goal

pub returns : goal.returns
unfolding shown
returns c =
    printed _ _ _ _ _ c.nothing-line.ensures
    (adds_more _ _ _ _ _ c.put_three.ensures.adds
    (adds_more _ _ _ _ _ c.put_number.ensures.adds (adds_more _ _ _ _ _ c.put_bytes.ensures.adds c.put_newline.ensures))) (search rules)

-- One law of AnswerLaws for each return, with the refusals that were not due before it.
use Rattle.text.proofs.AnswerLaws.{answer_1, answer_4, answer_item, answer_read}
use Rattle.text.proofs.card_of.Goals as goal

pub returns-then-n-eq0 : goal.returns-then-n-eq0
returns-then-n-eq0 c = answer_1 _ _ c.if-n-eq0.true

pub returns-then-n-gt-MOST_TEXT : goal.returns-then-n-gt-MOST_TEXT
returns-then-n-gt-MOST_TEXT c = answer_4 _ _ c.if-n-eq0.false c.if-n-gt-MOST_TEXT.true

pub returns-in-Err : goal.returns-in-Err
returns-in-Err c = answer_item _ _ c.if-n-eq0.false c.if-n-gt-MOST_TEXT.false _ c.in-Err.ensures.is

pub returns-in-Ok : goal.returns-in-Ok
returns-in-Ok c = answer_read _ _ c.if-n-eq0.false c.if-n-gt-MOST_TEXT.false _ c.in-Ok.ensures.is _ _ c.written.ensures

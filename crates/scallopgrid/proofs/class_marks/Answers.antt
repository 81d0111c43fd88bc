-- What was read of the card is numbered and written: its answer is the card's.
use Rattle.rules.specs.Answers.{marks_out, marks_of}
use Rattle.scallopgrid.proofs.Cards.{card-listed, card-run}
use Rattle.scallopgrid.proofs.Alike.{marks_out-alike}
use Rattle.scallopgrid.proofs.class_marks.Goals as goal

pub written-requires : goal.written-requires
written-requires c = card-listed _ _ _ c.read.ensures c.at_start-read.ensures

pub returns : goal.returns
unfolding marks_of
returns c = card-run marks_out (λ M N E S. marks_out-alike E S) _ _ _ _ _ c.read.ensures c.at_start-read.ensures _ _ c.written.ensures _ c.answered.ensures

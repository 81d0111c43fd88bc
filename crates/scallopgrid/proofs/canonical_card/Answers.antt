-- What was read of the card is numbered and written: its answer is the card's.
use Rattle.rules.specs.Answers.{canonical_out, canonical_of}
use Rattle.scallopgrid.proofs.Cards.{card-listed, card-run}
use Rattle.scallopgrid.proofs.Alike.{canonical_out-alike}
use Rattle.scallopgrid.proofs.canonical_card.Goals as goal

pub written-requires : goal.written-requires
written-requires c = card-listed _ _ _ c.read.ensures c.at_start-read.ensures

pub returns : goal.returns
unfolding canonical_of
returns c = card-run canonical_out (λ M N E S. canonical_out-alike E S) _ _ _ _ _ c.read.ensures c.at_start-read.ensures _ _ c.written.ensures _ c.answered.ensures

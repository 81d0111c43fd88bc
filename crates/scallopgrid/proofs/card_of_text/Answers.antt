use Rattle.scallopgrid.proofs.Read.{run-text}
use Rattle.scallopgrid.proofs.card_of_text.Goals as goal

pub returns : goal.returns
returns c = run-text _ _ _ _ c.card_of.ensures _ c.without_leaves.ensures _ c.answered.ensures

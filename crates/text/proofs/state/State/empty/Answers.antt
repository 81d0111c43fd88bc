-- No atom and no bond is read from the arrays, so that they hold the rules' start.
use Rattle.text.proofs.StateLaws.{none-held}
use Rattle.text.proofs.state.State.empty.Goals as goal

pub returns : goal.returns
returns c = none-held

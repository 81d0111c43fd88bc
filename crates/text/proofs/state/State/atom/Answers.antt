-- The element within the array, whatever is taken behind its end.
use Rattle.std.proofs.Common.{arith}
use Rattle.std.proofs.lemmas.List.{get_or_default}
use Rattle.text.specs.Holding.{no_atom}
use Rattle.text.proofs.state.State.atom.Goals as goal

pub returns : goal.returns
returns c = get_or_default c.args.self.now.placed c.args.place.0 c.index-self-place.result no_atom (omega arith)

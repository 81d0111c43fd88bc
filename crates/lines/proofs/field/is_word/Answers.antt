use mathlib.Core.Path.{◌∙◌}
use Rattle.lines.proofs.Words.{pointwise-same}
use Rattle.lines.proofs.field.is_word.Goals as goal

pub returns : goal.returns
returns c = c.eq.ensures ∙ pointwise-same c.args.field.now c.args.word.now

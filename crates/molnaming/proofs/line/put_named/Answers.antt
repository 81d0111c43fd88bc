use Rattle.std.proofs.Common.{rules}
use Rattle.lines.proofs.Putting.{adds_more, printed}
use Rattle.molnaming.specs.Lines.{named_line}
use Rattle.molnaming.proofs.line.put_named.Goals as goal

pub returns : goal.returns
unfolding named_line
returns c = printed _ _ _ _ _ c.nothing-line.ensures (adds_more _ _ _ _ _ c.put_piece.ensures c.put_newline.ensures) (search rules)

use Rattle.std.proofs.Common.{rules}
use Rattle.lines.specs.Added.{Adds}
use Rattle.lines.proofs.Putting.{adds_more, printed}
use Rattle.molnaming.specs.Lines.{words_of, refused_line}
use Rattle.molnaming.proofs.refused.put_refusal.Goals as goal

pub returns : goal.returns
unfolding refused_line
returns c =
    let words : Adds (words_of c.args.refusal) c.put_piece-2.new.self c.put_piece-3.new.self = rw c.words_of.ensures.words at c.put_piece-3.ensures in
    printed _ _ _ _ _ c.nothing-line.ensures
    (adds_more _ _ _ _ _ c.put_piece.ensures
    (adds_more _ _ _ _ _ c.put_digits.ensures.adds
    (adds_more _ _ _ _ _ c.put_place.ensures.adds
    (adds_more _ _ _ _ _ c.put_piece-2.ensures (adds_more _ _ _ _ _ words c.put_newline.ensures))))) (search rules)

use Rattle.std.proofs.Common.{◌∙◌, ap, refl, length}
use Rattle.ctfile.specs.Lines.{lines_of}
use Rattle.lines.proofs.Putting.{adds_more, adds_as}
use Rattle.molnaming.proofs.Placed.{line_is, placed, not_placed, puts_none}
use Rattle.molnaming.proofs.refused.put_place.Goals as goal

pub returns-then-refusal-ne-BROKEN_LINE-clause-adds : goal.returns-then-refusal-ne-BROKEN_LINE-clause-adds
returns-then-refusal-ne-BROKEN_LINE-clause-adds c =
    adds_as _ _ _ _ (not_placed c.args.file.now _ c.args.place c.if-refusal-ne-BROKEN_LINE.true)
    (record { puts = puts_none _ _; kept = refl; same_reference = refl })

pub returns-clause-adds : goal.returns-clause-adds
returns-clause-adds c =
    let lines = c.lines_in-number in
    let line = line_is c.args.file.now c.args.place lines.result (lines.ensures.0 ∙ ap (λ l. length (lines_of l)) c.front.ensures) in
    adds_as _ _ _ _ (placed c.args.file.now _ c.args.place _ c.if-refusal-ne-BROKEN_LINE.false line)
    (adds_more _ _ _ _ _ c.put_piece.ensures
    (adds_more _ _ _ _ _ c.put_digits.ensures.adds (adds_more _ _ _ _ _ c.put_piece-2.ensures c.put_digits-2.ensures.adds)))

use mathlib.Core.Path.{refl, sym, ◌∙◌}
use borrow.Author.Tests.{eqb-true, eqb-false}
use Rattle.writing.proofs.Letters.{letters_stays, serve-room, letters_goes}
use Rattle.writing.proofs.strokes.Pen.serve.Goals as goal

pub returns-then-eq : goal.returns-then-eq
returns-then-eq c = λ r w l a h. letters_stays _ w l r _ a (eqb-true _ _ (sym c.eq.ensures ∙ c.if-eq.true))

pub put_reference-requires : goal.put_reference-requires
put_reference-requires c =
    let q = c.requires in
    serve-room _ q.1 q.2 q.0 _ q.3 (eqb-false _ _ (sym c.eq.ensures ∙ c.if-eq.false)) q.4

pub returns : goal.returns
returns c =
    λ r w l a h. letters_goes _ w l r _ a (eqb-false _ _ (sym c.eq.ensures ∙ c.if-eq.false)) h _ c.put_reference.ensures refl refl refl

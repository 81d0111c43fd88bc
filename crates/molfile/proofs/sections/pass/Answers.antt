-- One law of PassingLaws for each way of the loop.
use Rattle.std.proofs.Common.{List, [], ◌∷◌, ◌++◌, ℕ, sym, ◌∙◌, ap, subst, replicate, Err}
use Rattle.refusal.specs.declared.Refused.{Refused}
use Rattle.molfile.specs.Passing.{Passes, passed}
use Rattle.molfile.proofs.PassingLaws.{onward_missing, onward_broken, onward_next, passed_more}
use Rattle.molfile.proofs.sections.pass.Goals as goal

pub returns-then-file-at-clause-passes : goal.returns-then-file-at-clause-passes
returns-then-file-at-clause-passes g c =
    subst (λ (e : Refused). Passes (replicate c.args.count g.S.Section.form) c.args.file.now c.args.from (Err e)) (sym c.broken_at.ensures)
    (onward_missing g.S.Section.form c.args.file.now c.args.from c.args.count c.loop-k.k c.loop-k.at c.loop-k.invariant.0 c.loop-k-test.true c.if-file-at.true)

pub returns-then-not-take-clause-passes : goal.returns-then-not-take-clause-passes
returns-then-not-take-clause-passes g c =
    subst (λ (e : Refused). Passes (replicate c.args.count g.S.Section.form) c.args.file.now c.args.from (Err e)) (sym c.broken_at-then-not-take.ensures)
    (onward_broken g.S.Section.form c.args.file.now c.args.from c.args.count c.loop-k.k c.loop-k.at c.loop-k.invariant.0 c.loop-k-test.true _ c.line_at-line.ensures
    (sym (c.take.ensures.form ∙ ap g.S.Section.form c.line_at-line.ensures.bytes) ∙ c.if-not-take.true))

pub loop-k-preserved : goal.loop-k-preserved
loop-k-preserved g c =
    let s = c.args.file.now in
    let O = c.loop-k.invariant.0 in
    let R = c.line_at-line.ensures in
    let e = passed_more g.S.Section.form s c.args.from c.args.count c.loop-k.k c.loop-k.at O c.loop-k-test.true _ R in (
      onward_next g.S.Section.form s c.args.from c.args.count c.loop-k.k c.loop-k.at O c.loop-k-test.true _ R
          (sym (c.take.ensures.form ∙ ap g.S.Section.form R.bytes) ∙ c.if-not-take.false),
      subst (λ (ls : List (List ℕ)). g.S.Section.holds c.take.new.self ls) (ap (λ (l : List ℕ). passed s c.args.from c.loop-k.k ++ (l ∷ [])) R.bytes ∙ sym e)
          (c.take.ensures.taken c.if-not-take.false _ O.there c.loop-k.invariant.1),
    )

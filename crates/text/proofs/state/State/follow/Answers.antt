-- Each step changes the state as its own law says.
use Rattle.std.proofs.Common.{sym, subst}
use Rattle.text.specs.declared.item.Step.{Step}
use Rattle.sling.specs.Items.{at, ring}
use Rattle.text.specs.Changing.{Continues, Follows}
use Rattle.text.specs.Judging.{step_of}
use Rattle.text.proofs.ChangeLaws.{ring-bondable, ring-follows, reference-follows}
use Rattle.text.proofs.state.State.follow.Goals as goal

pub draw-requires : goal.draw-requires
draw-requires c =
    ring-bondable c.args.self.now c.in-Ring.place c.in-Ring.code (subst (λ (t : Step). Continues c.args.self.now (step_of t)) c.in-Ring.is c.requires)

pub returns-in-Reference : goal.returns-in-Reference
returns-in-Reference c =
    rw c.in-Reference.is (reference-follows c.args.self.now c.in-Reference.place (subst (λ (t : Step). Continues c.args.self.now (step_of t)) c.in-Reference.is c.requires))

pub returns-in-Ring : goal.returns-in-Ring
returns-in-Ring c =
    rw c.in-Ring.is (subst (Follows c.args.self.now (ring c.in-Ring.code (at c.in-Ring.place.0))) (sym c.draw.ensures)
    (ring-follows c.args.self.now c.in-Ring.place c.in-Ring.code (subst (λ (t : Step). Continues c.args.self.now (step_of t)) c.in-Ring.is c.requires)))

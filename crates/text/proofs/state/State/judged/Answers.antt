-- The first item by its own rules, any other by its form.
use Rattle.std.proofs.Common.{◌≡◌, ◌∙◌, length}
use borrow.Author.Tests.{eq-eqb}
use Rattle.text.specs.Holding.{view_of}
use Rattle.text.proofs.FaultLaws.{opening_fault-is}
use Rattle.text.proofs.StateLaws.{view_places}
use Rattle.text.proofs.state.State.judged.Goals as goal

pub returns-then-self-eq0 : goal.returns-then-self-eq0
returns-then-self-eq0 c =
    let s = view_of c.args.self.now in
    let z : length s.kinds ≡ 0 = view_places c.args.self.now ∙ c.if-self-eq0.true in
    record { refusal = c.opening.ensures.refusal ∙ opening_fault-is s z _; step = rw (eq-eqb _ _ z) c.opening.ensures.step }

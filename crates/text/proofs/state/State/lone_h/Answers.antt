-- A bond, no atom, or a first atom that decides.
use Rattle.std.proofs.Common.{ap, ◌∙◌, arith}
use lib.Dec.{eqb}
use borrow.Author.Tests.{eq-eqb}
use Rattle.std.proofs.lemmas.List.{get_or_default}
use Rattle.text.specs.Holding.{no_atom}
use Rattle.text.specs.declared.state.TextAtom.{TextAtom}
use Rattle.text.proofs.StateLaws.{lone-drawn, lone-none, lone-first}
use Rattle.text.proofs.state.State.lone_h.Goals as goal

pub returns-then-self-ne0 : goal.returns-then-self-ne0
returns-then-self-ne0 c = lone-drawn c.args.self.now c.if-self-ne0.true

pub returns-then-self-eq0 : goal.returns-then-self-eq0
returns-then-self-eq0 c = eq-eqb _ _ c.if-self-eq0.true ∙ lone-none c.args.self.now c.if-self-ne0.false c.if-self-eq0.true

pub returns-else-self-eq0 : goal.returns-else-self-eq0
returns-else-self-eq0 c =
    let st = c.args.self.now in
    let T = c.requires.tallied in
    c.eq.ensures ∙ ap (λ (a : TextAtom). eqb a.kind 0) (get_or_default st.placed 0 c.index-self-0.result no_atom (omega (arith, T.placed_long)))
    ∙ lone-first st c.if-self-ne0.false c.if-self-eq0.false

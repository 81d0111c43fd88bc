-- The loop goes up one step a turn; what is left of the steps, from where it is, leads where all of them lead from the cursor.
use Rattle.std.proofs.Common.{sym, ◌∙◌, ap, arith, ℕ, ◌-◌, ◌+◌, ◌<◌, ◌≡◌}
use Rattle.std.proofs.lemmas.List.{get_or_default}
use Rattle.sling.specs.Reading.{climb}
use Rattle.text.specs.Holding.{no_atom, view_of, atom_at}
use Rattle.text.specs.declared.state.TextAtom.{TextAtom}
use Rattle.text.proofs.StateLaws.{climb-top, climb-up, climb-end, view_places, view-up}
use Rattle.text.proofs.state.State.climbed.Goals as goal

pub returns-then-p-eq0 : goal.returns-then-p-eq0
returns-then-p-eq0 c =
    let L = c.loop-step in
    let h : L._step < c.args.steps = c.loop-step-test.true in
    sym (view_places c.args.self.now) ∙ sym (climb-top _ (c.args.steps - L._step) L.p (omega arith) c.if-p-eq0.true) ∙ L.invariant.1

pub loop-step-preserved : goal.loop-step-preserved
loop-step-preserved c =
    let st = c.args.self.now in
    let L = c.loop-step in
    let h : L._step < c.args.steps = c.loop-step-test.true in
    let e : c.args.steps - (L._step + 1) ≡ c.args.steps - L._step - 1 = omega arith in
    let a = ap (λ (a : TextAtom). a.up) (get_or_default st.placed L.p c.index-self-p.result no_atom (omega (arith, c.requires.long, c.requires.places, L.invariant.0))) in (
      omega (arith, c.requires.attached L.p, L.invariant.0, a),
      ap (climb (view_of st) (c.args.steps - (L._step + 1))) a ∙ ap (λ (k : ℕ). climb (view_of st) k (atom_at st L.p).up) e ∙ ap (climb (view_of st) (c.args.steps - L._step - 1)) (sym (view-up st L.p L.invariant.0))
          ∙ sym (climb-up (view_of st) (c.args.steps - L._step) L.p (omega arith) c.if-p-eq0.false) ∙ L.invariant.1,
    )

pub returns : goal.returns
returns c =
    let L = c.loop-step in
    sym (climb-end (view_of c.args.self.now) (c.args.steps - L._step) L.p (omega (arith, c.loop-step-test.false))) ∙ L.invariant.1

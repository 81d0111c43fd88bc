-- What is left of the text, read on from the state held, comes to what the whole text comes to from the start.
use Rattle.std.proofs.Common.{sym, ap, ◌∙◌, arith, drop}
use Rattle.sling.specs.Scanned.{tokens}
use Rattle.sling.specs.Faults.{run}
use Rattle.text.specs.Holding.{view_of}
use Rattle.text.proofs.ResolvedLaws.{resolved-after, resolved-code, resolved-fault}
use Rattle.refusal.proofs.Numbers.{number_of-positive}
use Rattle.text.proofs.ReadLaws.{run-broken, run-fault, run-next, run_end}
use Rattle.text.proofs.read.read.Goals as goal

pub loop-at-init : goal.loop-at-init
loop-at-init c = let e = c.empty-state.ensures in (e.1, rw e.0)

pub returns-in_default : goal.returns-in_default
returns-in_default c =
    let L = c.loop-at in
    record { is = run-broken _ L.at c.loop-at-test.true (view_of L.state) (sym c.in_default.ensures.is) ∙ L.invariant.1; held = tt }

pub judged-requires : goal.judged-requires
judged-requires c = c.loop-at.invariant.0

pub returns-in-Err : goal.returns-in-Err
returns-in-Err c =
    let L = c.loop-at in
    let g = c.in-Some.ensures.sane in
    record {
      is = run-fault _ L.at c.loop-at-test.true _ c.in-Some.scanned.next g.0 (sym c.in-Some.ensures.is) (view_of L.state) _ c.in-Err.ensures.refusal (number_of-positive c.in-Err.refusal) ∙ L.invariant.1;
      held = tt;
    }

pub follow-requires : goal.follow-requires
follow-requires c =
    let L = c.loop-at in
    let g = c.in-Some.ensures.sane in
    let J = c.in-Ok.ensures in
    let k = resolved-code (view_of L.state) _ _ J.step in
    record { held = L.invariant.0; judged = record { marked = (omega (arith, g.1, k), omega (arith, g.2, k)); clear = resolved-fault (view_of L.state) _ _ J.step ∙ sym J.refusal } }

pub loop-at-smaller : goal.loop-at-smaller
loop-at-smaller c = let g = c.in-Some.ensures.sane in omega (arith, g.0, c.loop-at-test.true)

pub loop-at-preserved : goal.loop-at-preserved
loop-at-preserved c =
    let L = c.loop-at in
    let g = c.in-Some.ensures.sane in
    let J = c.in-Ok.ensures in
    let s = c.args.text.now in
    let next = c.in-Some.scanned.next in (
      c.follow.ensures.held,
      ap (run (tokens (drop next s) 0 next)) (c.follow.ensures.is ∙ resolved-after (view_of L.state) _ _ J.step)
          ∙ run-next s L.at c.loop-at-test.true _ next g.0 (sym c.in-Some.ensures.is) (view_of L.state) (sym J.refusal) ∙ L.invariant.1,
    )

pub returns : goal.returns
returns c = let L = c.loop-at in record { is = run_end _ L.at (view_of L.state) c.loop-at-test.false ∙ L.invariant.1; held = L.invariant.0 }

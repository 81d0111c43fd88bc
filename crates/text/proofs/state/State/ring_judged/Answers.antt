-- One law of JudgedLaws for each return, from the tests on the way to it.
use Rattle.std.proofs.Common.{ap, arith, rules}
use Rattle.sling.specs.Items.{at, ring}
use Rattle.text.specs.Scanning.{target_of}
use Rattle.text.proofs.JudgedLaws.{ready, climbable, few-at, there, ring-5, ring-7, ring-6, ring-4, ring-0, some-places}
use Rattle.text.proofs.state.State.ring_judged.Goals as goal

pub named-place-requires : goal.named-place-requires
named-place-requires c = climbable _ c.requires.0 c.requires.1

pub returns-in_err-place_fault : goal.returns-in_err-place_fault
returns-in_err-place_fault c =
    ring-5 _ c.requires.0 c.requires.1 _ _ c.named-place.ensures _ _ c.in_err-place_fault.field-0.0 (search rules) c.in_err-place_fault.ensures

pub atom-from-requires : goal.atom-from-requires
atom-from-requires c =
    let r = ready _ c.requires.0 c.requires.1 in
    (omega (arith, r.from, r.places), c.requires.0.tallied.placed_long)

pub atom-to-requires : goal.atom-to-requires
atom-to-requires c =
    let r = ready _ c.requires.0 c.requires.1 in
    let l = there _ c.requires.0 c.requires.1 (target_of c.args.target) _ c.named-place.ensures c.args.code c.in_ok-place_fault.ensures in
    (omega (arith, r.places), c.requires.0.tallied.placed_long)

pub returns-in_err-h_fault : goal.returns-in_err-h_fault
returns-in_err-h_fault c =
    ring-7 _ c.requires.0 c.requires.1 _ _ c.named-place.ensures _ c.in_ok-place_fault.ensures _ _ c.atom-from.ensures c.atom-to.ensures
    _ c.in_err-h_fault.field-0.0 (search rules) c.in_err-h_fault.ensures

pub returns-in_err-pair_fault : goal.returns-in_err-pair_fault
returns-in_err-pair_fault c =
    ring-6 _ c.requires.0 c.requires.1 _ _ c.named-place.ensures _ c.in_ok-place_fault.ensures _ _ c.atom-from.ensures c.atom-to.ensures c.in_ok-h_fault.ensures
    _ c.in_err-pair_fault.field-0.0 (search rules) c.in_err-pair_fault.ensures

pub limit_fault-requires : goal.limit_fault-requires
limit_fault-requires c =
    let r = ready _ c.requires.0 c.requires.1 in
    let l = there _ c.requires.0 c.requires.1 (target_of c.args.target) _ c.named-place.ensures c.args.code c.in_ok-place_fault.ensures in (
      r.bonds,
      few-at _ c.requires.0 c.requires.1 _ (omega (arith, r.from, r.places)) _ c.atom-from.ensures,
      few-at _ c.requires.0 c.requires.1 _ (omega (arith, r.places)) _ c.atom-to.ensures,
    )

pub returns-in_err-limit_fault : goal.returns-in_err-limit_fault
returns-in_err-limit_fault c =
    ring-4 _ c.requires.0 c.requires.1 _ _ c.named-place.ensures _ c.in_ok-place_fault.ensures _ _ c.atom-from.ensures c.atom-to.ensures c.in_ok-h_fault.ensures
    c.in_ok-pair_fault.ensures _ c.in_err-limit_fault.field-0.0 (search rules) c.in_err-limit_fault.ensures

pub returns : goal.returns
returns c =
    record {
      refusal = ring-0 _ c.requires.0 c.requires.1 _ _ c.named-place.ensures _ c.in_ok-place_fault.ensures _ _ c.atom-from.ensures c.atom-to.ensures c.in_ok-h_fault.ensures
          c.in_ok-pair_fault.ensures c.in_ok-limit_fault.ensures;
      step = rw (some-places _ c.requires.0 c.requires.1) (ap (λ p. ring c.args.code (at p)) c.named-place.ensures);
    }

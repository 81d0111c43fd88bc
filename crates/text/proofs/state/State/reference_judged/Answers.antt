-- The one test decides.
use Rattle.std.proofs.Common.{rules, ap}
use Rattle.sling.specs.Items.{at, reference}
use Rattle.text.proofs.JudgedLaws.{climbable, reference-5, reference-0, some-places}
use Rattle.text.proofs.state.State.reference_judged.Goals as goal

pub named-place-requires : goal.named-place-requires
named-place-requires c = climbable _ c.requires.0 c.requires.1

pub returns-in_err-place_fault : goal.returns-in_err-place_fault
returns-in_err-place_fault c =
    reference-5 _ c.requires.0 c.requires.1 _ _ c.named-place.ensures _ c.in_err-place_fault.field-0.0 (search rules) c.in_err-place_fault.ensures

pub returns : goal.returns
returns c =
    record {
      refusal = reference-0 _ c.requires.0 c.requires.1 _ _ c.named-place.ensures c.in_ok-place_fault.ensures;
      step = rw (some-places _ c.requires.0 c.requires.1) (ap (λ p. reference (at p)) c.named-place.ensures);
    }

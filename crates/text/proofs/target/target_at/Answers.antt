-- A `-` makes steps of the number behind it, any other byte a place of the number there.
use Rattle.text.proofs.ScanLaws.{target-out, target-steps, target-place}
use Rattle.text.proofs.target.target_at.Goals as goal

pub returns-then-text-at : goal.returns-then-text-at
returns-then-text-at c = target-out _ _ c.if-text-at.true

pub returns-then-text-at-eq45 : goal.returns-then-text-at-eq45
returns-then-text-at-eq45 c = target-steps _ _ c.if-text-at.false _ c.if-text-at-eq45.true c.steps_at.ensures

pub returns : goal.returns
returns c = target-place _ _ c.if-text-at.false _ c.if-text-at-eq45.false c.place_at.ensures

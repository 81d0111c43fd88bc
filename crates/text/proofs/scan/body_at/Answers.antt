-- One law of ScanLaws for each return, by the byte at the offset.
use Rattle.std.proofs.Common.{sym, subst, ◌∙◌, Some, None}
use Rattle.text.specs.declared.item.Scanned.{Scanned}
use Rattle.text.specs.Scanning.{Bodies}
use Rattle.text.proofs.ScanLaws.{body-out, body-ring, body-bracket, body-bad, body-letter}
use Rattle.text.proofs.scan.body_at.Goals as goal

pub returns-then-text-at : goal.returns-then-text-at
returns-then-text-at c = body-out _ _ _ c.requires.1 c.requires.2 c.if-text-at.true

pub returns-in_err-aim : goal.returns-in_err-aim
returns-in_err-aim c =
    subst (Bodies _ _ _) (sym c.from_residual.ensures)
    (body-ring _ _ _ c.requires.1 c.requires.2 c.if-text-at.false None c.if-b-eq47.true c.in_err-aim.ensures)

pub returns-then-b-eq47 : goal.returns-then-b-eq47
returns-then-b-eq47 c =
    subst (λ (s : Scanned). Bodies c.args.text.now c.args.at c.args.code (Some s)) (sym c.as_ring.ensures)
    (body-ring _ _ _ c.requires.1 c.requires.2 c.if-text-at.false (Some c.in_ok-aim.aim) c.if-b-eq47.true c.in_ok-aim.ensures)

pub returns-then-b-eq40 : goal.returns-then-b-eq40
returns-then-b-eq40 c = body-bracket _ _ _ c.requires.1 c.requires.2 c.if-text-at.false _ c.if-b-eq47.false c.if-b-eq40.true c.bracketed_at.ensures

pub returns-then-not-lone_capital : goal.returns-then-not-lone_capital
returns-then-not-lone_capital c =
    body-bad _ _ _ c.requires.1 c.requires.2 c.if-text-at.false c.if-b-eq47.false c.if-b-eq40.false (sym c.lone_capital.ensures ∙ c.if-not-lone_capital.true)

pub returns : goal.returns
returns c =
    body-letter _ _ _ c.requires.1 c.requires.2 c.if-text-at.false _ c.if-b-eq47.false c.if-b-eq40.false
    (sym c.lone_capital.ensures ∙ c.if-not-lone_capital.false) c.of_capital-kind.ensures.is

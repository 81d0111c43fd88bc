-- One law of ScanLaws for each return, by the item's first byte.
use Rattle.std.proofs.Common.{sym, subst, ◌∙◌, Some, None}
use Rattle.text.specs.declared.item.Scanned.{Scanned}
use Rattle.text.specs.Scanning.{Scans}
use Rattle.text.proofs.ScanLaws.{scan-marked, scan-plus, scan-target, scan-body}
use Rattle.text.proofs.scan.scan.Goals as goal

pub returns-then-code-gt1 : goal.returns-then-code-gt1
returns-then-code-gt1 c = scan-marked _ _ c.requires _ _ c.mark_of-code.ensures.is c.if-code-gt1.true c.body_at.ensures

pub returns-in_err-aim : goal.returns-in_err-aim
returns-in_err-aim c =
    subst (Scans _ _) (sym c.from_residual.ensures)
    (scan-plus _ _ c.requires (rw (← c.mark_of-code.ensures.is) c.if-code-gt1.false) None c.if-b-eq43.true c.in_err-aim.ensures)

pub returns-then-b-eq43 : goal.returns-then-b-eq43
returns-then-b-eq43 c =
    subst (λ (s : Scanned). Scans c.args.text.now c.args.at (Some s)) (sym c.as_reference.ensures)
    (scan-plus _ _ c.requires (rw (← c.mark_of-code.ensures.is) c.if-code-gt1.false) (Some c.in_ok-aim.aim) c.if-b-eq43.true c.in_ok-aim.ensures)

pub returns-in_err-aim-2 : goal.returns-in_err-aim-2
returns-in_err-aim-2 c =
    subst (Scans _ _) (sym c.from_residual-in_err-aim-2.ensures)
    (scan-target _ _ c.requires (rw (← c.mark_of-code.ensures.is) c.if-code-gt1.false) None c.if-b-eq43.false
    (sym c.starts_target.ensures ∙ c.if-starts_target.true) c.in_err-aim-2.ensures)

pub returns-then-starts_target : goal.returns-then-starts_target
returns-then-starts_target c =
    subst (λ (s : Scanned). Scans c.args.text.now c.args.at (Some s)) (sym c.as_reference-then-starts_target.ensures)
    (scan-target _ _ c.requires (rw (← c.mark_of-code.ensures.is) c.if-code-gt1.false) (Some c.in_ok-aim-2.aim) c.if-b-eq43.false
    (sym c.starts_target.ensures ∙ c.if-starts_target.true) c.in_ok-aim-2.ensures)

pub returns : goal.returns
returns c =
    scan-body _ _ c.requires (rw (← c.mark_of-code.ensures.is) c.if-code-gt1.false) _ c.if-b-eq43.false
    (sym c.starts_target.ensures ∙ c.if-starts_target.false) c.body_at-2.ensures

-- The length first, then the lines, then the drawing: each answer is one of the three.
use Rattle.std.proofs.Common.{◌≡◌, sym, subst, rules, Err}
use Rattle.refusal.specs.declared.Refused.{Refused}
use Rattle.refusal.specs.Numbers.{at_start}
use Rattle.molfile.specs.Reading.{IsRead}
use Rattle.molfile.proofs.ReadingLaws.{too_long, broken-line, judged-wrong, judged-right}
use Rattle.molfile.proofs.read.Goals as goal

pub returns-then-file-gt-MOST_BYTES : goal.returns-then-file-gt-MOST_BYTES
returns-then-file-gt-MOST_BYTES c =
    subst (λ (e : Refused). IsRead c.args.file.now (Err e)) (sym c.from.ensures) (too_long c.args.file.now c.if-file-gt-MOST_BYTES.true)

pub returns-in_err-filed : goal.returns-in_err-filed
returns-in_err-filed c =
    let e : c.from_residual.result ≡ Err c.in_err-filed.field-0.0 = search rules in
    let F = c.in_err-filed.ensures in
    subst (IsRead c.args.file.now) (sym e) (broken-line c.args.file.now c.if-file-gt-MOST_BYTES.false _ F.judged F.refusal)

pub returns-in_err-table : goal.returns-in_err-table
returns-in_err-table c =
    let e : c.from_residual-in_err-table.result ≡ Err (at_start c.in_err-table.field-0.0) = search rules in
    let F = c.in_ok-filed.ensures in
    subst (IsRead c.args.file.now) (sym e)
    (judged-wrong c.args.file.now c.if-file-gt-MOST_BYTES.false F.judged _ F.drawing _ c.in_err-table.ensures)

pub returns : goal.returns
returns c =
    let F = c.in_ok-filed.ensures in
    judged-right c.args.file.now c.if-file-gt-MOST_BYTES.false F.judged _ F.drawing _ c.in_ok-table.ensures

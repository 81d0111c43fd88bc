use Rattle.std.proofs.Common.{◌≡◌, ◌∙◌, ◌<◌, sym, ap, ◌+◌, ◌*◌, length, get_or, drop, take_all, arith, rules}
use Rattle.std.specs.List.{list_all}
use Rattle.std.proofs.lemmas.List.Folds.{list_all_more}
use Rattle.lines.specs.Numbers.{is_digit}
use Rattle.lines.proofs.Spelling.{no_digit, a_digit, worth-grows, worth-next, worth-end, number-empty, number-leading, number-broken, number-over, number-whole}
use Rattle.lines.proofs.number.number_of.Goals.{then-is_empty-via-then-is_empty, then-is_empty-via-else-is_empty+then-leading_zero}
use Rattle.lines.proofs.number.number_of.Goals as goal

pub returns-then-is_empty : goal.returns-then-is_empty
returns-then-is_empty c =
    elim c.then-is_empty.branch [
      | then-is_empty-via-then-is_empty w ↦ number-empty _ _ (search rules)
      | then-is_empty-via-else-is_empty+then-leading_zero w ↦ number-leading _ _ (sym w.leading_zero.ensures ∙ w.if-leading_zero.true)
    ]

pub returns-in_err-d : goal.returns-in_err-d
returns-in_err-d c =
    c.from_residual.ensures ∙ number-broken _ _ c.loop-b.b-index (omega arith) (no_digit (get_or c.args.field.now c.loop-b.b-index 0) (sym c.in_err-d.was ∙ c.digit.ensures))

pub returns-then-from-value : goal.returns-then-from-value
returns-then-from-value c =
    let d = a_digit (get_or c.args.field.now c.loop-b.b-index 0) c.in_ok-d.d (sym c.in_ok-d.was ∙ c.digit.ensures) in
    let w = c.loop-b.invariant.1 ∙ worth-next c.args.field.now c.loop-b.value c.loop-b.b-index c.in_ok-d.d (omega arith) d.1 in
    number-over _ _ (omega (arith, w, worth-grows (drop (c.loop-b.b-index + 1) c.args.field.now) (10 * c.loop-b.value + c.in_ok-d.d)))

pub loop-b-preserved : goal.loop-b-preserved
loop-b-preserved c =
    let d = a_digit (get_or c.args.field.now c.loop-b.b-index 0) c.in_ok-d.d (sym c.in_ok-d.was ∙ c.digit.ensures) in
    let h : c.loop-b.b-index < length c.args.field.now = omega arith in (
      list_all_more is_digit c.args.field.now c.loop-b.b-index 0 h ∙ rw (c.loop-b.invariant.0, d.0),
      c.loop-b.invariant.1 ∙ worth-next c.args.field.now c.loop-b.value c.loop-b.b-index c.in_ok-d.d h d.1,
      omega arith,
    )

pub returns : goal.returns
returns c =
    let e : c.loop-b.b-index ≡ length c.args.field.now = omega arith in
    number-whole _ _ c.loop-b.value (search rules) (sym c.leading_zero.ensures ∙ c.if-leading_zero.false)
    (ap (list_all is_digit) (sym (take_all c.loop-b.b-index c.args.field.now (omega arith))) ∙ c.loop-b.invariant.0)
    (c.loop-b.invariant.1 ∙ worth-end c.args.field.now c.loop-b.value c.loop-b.b-index (omega arith)) c.loop-b.invariant.2

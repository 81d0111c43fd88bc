-- One law of FieldLaws for each return.
use Rattle.std.proofs.Common.{◌≡◌, ◌<◌, sym, ap, ◌∙◌, true, false, arith, length, get_or}
use Rattle.sling.specs.Scanned.{is_digit}
use Rattle.ctfile.specs.Fields.{are_blank}
use Rattle.molfile.proofs.FieldLaws.{rest, digit_low, decimal_digit, decimal_blank, decimal_none, decimal-end}
use Rattle.molfile.proofs.field.decimal.Goals as goal

pub returns-then-are_blank : goal.returns-then-are_blank
returns-then-are_blank c =
    let L = c.loop-i in
    let e : is_digit (get_or c.args.field.now L.i 0) ≡ false = cc in
    (sym (decimal_blank L.number c.args.field.now L.i (omega arith) e (ap are_blank (sym (rest c.args.field.now L.i)) ∙ sym c.are_blank.ensures ∙ c.if-are_blank.true)) ∙ L.invariant.0, omega arith)

pub returns-else-are_blank : goal.returns-else-are_blank
returns-else-are_blank c =
    let L = c.loop-i in
    let e : is_digit (get_or c.args.field.now L.i 0) ≡ false = cc in
    sym L.invariant.0 ∙ decimal_none L.number c.args.field.now L.i (omega arith) e (ap are_blank (sym (rest c.args.field.now L.i)) ∙ sym c.are_blank.ensures ∙ c.if-are_blank.false)

pub loop-i-preserved : goal.loop-i-preserved
loop-i-preserved c =
    let L = c.loop-i in
    let e : is_digit (get_or c.args.field.now L.i 0) ≡ true = cc in
    let h : L.i < length c.args.field.now = omega arith in
    let d = digit_low (get_or c.args.field.now L.i 0) e in (
      sym (decimal_digit L.number c.args.field.now L.i h e) ∙ L.invariant.0,
      λ z. omega arith,
      λ z. omega (arith, d.0, d.1),
      λ z. omega (arith, d.0, d.1),
      omega (arith, d.0, d.1),
    )

pub returns : goal.returns
returns c =
    let L = c.loop-i in (sym (decimal-end L.number c.args.field.now L.i (omega arith)) ∙ L.invariant.0, omega arith)

use Rattle.std.proofs.Common.{◌≡◌, ◌∙◌, arith}
use Rattle.lines.specs.Numbers.{decimal_of}
use Rattle.lines.proofs.Shown.{decimal-is, digits-most}
use Rattle.lines.proofs.number.put_decimal.Goals as goal

pub returns : goal.returns
returns c =
    let e : c.as_bytes-text.result.now ≡ decimal_of c.args.n = c.as_bytes-text.ensures.value ∙ c.format.ensures.text ∙ decimal-is c.args.n (omega arith) in
    let prints = rw e at c.copy.ensures in
    record { prints = prints; within = omega (arith, prints.long, digits-most 20 c.args.n) }

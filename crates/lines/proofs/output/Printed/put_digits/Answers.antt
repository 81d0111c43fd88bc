use Rattle.std.proofs.Common.{refl, arith}
use Rattle.lines.specs.Numbers.{decimal_of}
use Rattle.lines.proofs.Putting.{put-part, puts_kept}
use Rattle.lines.proofs.output.Printed.put_digits.Goals as goal

pub returns-clause-adds : goal.returns-clause-adds
returns-clause-adds c =
    let p = put-part (decimal_of c.args.n) c.args.self.now.out.now _ c.args.self.now.at _ (omega arith) c.put_decimal.ensures.prints in
    record { puts = p; kept = puts_kept _ _ _ _ _ (omega arith) p; same_reference = refl }

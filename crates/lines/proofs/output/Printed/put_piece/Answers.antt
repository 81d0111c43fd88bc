use Rattle.std.proofs.Common.{refl, arith}
use Rattle.lines.proofs.Putting.{put-part, puts_kept}
use Rattle.lines.proofs.output.Printed.put_piece.Goals as goal

pub returns : goal.returns
returns c =
    let p = put-part c.args.piece.now c.args.self.now.out.now _ c.args.self.now.at _ (omega arith) c.copy.ensures in
    record { puts = p; kept = puts_kept _ _ _ _ _ (omega (arith, p.long)) p; same_reference = refl }

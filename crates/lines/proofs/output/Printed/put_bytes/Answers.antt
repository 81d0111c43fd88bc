use Rattle.std.proofs.Common.{◌≡◌, ◌<◌, refl, sym, ◌*◌, length, arith, rules}
use Rattle.lists.proofs.Upto.{length-each}
use Rattle.lines.specs.Hex.{hex_at, hex_of}
use Rattle.lines.proofs.Putting.{put-part, puts_kept, adds_as, dash, no_dash}
use Rattle.lines.proofs.output.Printed.put_bytes.Goals as goal

pub returns-then-is_empty-clause-adds : goal.returns-then-is_empty-clause-adds
returns-then-is_empty-clause-adds c =
    let none : length c.args.bytes.now ≡ 0 = search rules in
    let l = length-each (2 * length c.args.bytes.now) (hex_at c.args.bytes.now) in
    adds_as _ _ _ _ (sym (dash (hex_of c.args.bytes.now) (omega arith))) c.put_byte.ensures

pub returns-clause-adds : goal.returns-clause-adds
returns-clause-adds c =
    let some : 0 < length c.args.bytes.now = search rules in
    let l = length-each (2 * length c.args.bytes.now) (hex_at c.args.bytes.now) in
    let p = put-part (hex_of c.args.bytes.now) c.args.self.now.out.now _ c.args.self.now.at _ (omega arith) c.put_hex.ensures.prints in
    adds_as _ _ _ _ (no_dash (hex_of c.args.bytes.now) (omega (arith, l)))
    (record { puts = p; kept = puts_kept _ _ _ _ _ (omega arith) p; same_reference = refl })

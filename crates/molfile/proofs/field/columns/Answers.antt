-- Of the columns all are in the array.
use Rattle.std.proofs.Common.{arith}
use Rattle.molfile.proofs.FieldLaws.{columns-are}
use Rattle.molfile.proofs.field.columns.Goals as goal

pub returns : goal.returns
returns g c =
    let L = c.loop-i in columns-are c.args.k g.row.N c.args.line.now L.field L.invariant.0 (λ i h. L.invariant.1 i (omega arith))

-- Of three columns no more than three are left.
use Rattle.std.proofs.Common.{ap, arith, length}
use Rattle.ctfile.specs.Fields.{number_in}
use Rattle.molfile.proofs.FieldLaws.{columns-long, unled_long}
use Rattle.molfile.proofs.field.number_at.Goals as goal

pub decimal-requires : goal.decimal-requires
decimal-requires c = omega (arith, ap length c.unled.ensures, unled_long c.columns.result, ap length c.columns.ensures, columns-long c.args.k 3 c.args.line.now)

pub returns : goal.returns
unfolding number_in
returns c = rw (c.unled.ensures, c.columns.ensures) at c.decimal.ensures

-- Of three columns no more than three are left.
use Rattle.std.proofs.Common.{ap, arith, length}
use Rattle.ctfile.specs.Fields.{number_in, size_in}
use Rattle.molfile.proofs.FieldLaws.{columns-long, unled_long, unsigned_long}
use Rattle.molfile.proofs.field.size_at.Goals as goal

pub decimal-requires : goal.decimal-requires
decimal-requires g c =
    omega (
      arith,
      ap length c.unled-2.ensures,
      unled_long c.unsigned.result.now,
      ap length c.unsigned.ensures,
      unsigned_long c.unled.result.now,
      ap length c.unled.ensures,
      unled_long c.columns-field.result,
      ap length c.columns-field.ensures,
      columns-long c.args.k g.row.N c.args.line.now,
    )

pub returns : goal.returns
unfolding size_in number_in
returns g c = rw (c.unled-2.ensures, c.unsigned.ensures, c.unled.ensures, c.columns-field.ensures) at c.decimal.ensures

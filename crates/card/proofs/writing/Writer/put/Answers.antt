-- The part of the buffer that is written lies within it.
use mathlib.Core.Path.{refl}
use native.Mathlib.Omega.{arith}
use Rattle.card.proofs.Written.{part-written}
use Rattle.card.proofs.writing.Writer.put.Goals as goal

pub returns : goal.returns
returns c = record {
  same = refl;
  wrote =
      record { is = part-written c.args.self.now.out.now c.args.bytes.now _ c.args.self.now.at _ c.requires c.copy_from_slice.ensures.after (omega arith); ends = refl };
}

-- The rows of the atoms before this one are written, and there is room for the rest.
use Rattle.table.specs.View.{arrays_of}
use Rattle.table.proofs.Views.{tidy-row}
use Rattle.card.specs.Writing.{row_bytes}
use Rattle.card.proofs.Written.{put_start, put_next, put_room}
use Rattle.card.proofs.writing.Writer.bonds.Goals as goal

pub loop-a-init : goal.loop-a-init
loop-a-init c = let R = c.args.t.now.rows in put_start (row_bytes R.degrees R.near R.codes) c.args.self.now

pub row-requires : goal.row-requires
row-requires c =
    let R = c.args.t.now.rows in (
      tidy-row (arrays_of c.args.t.now) c.requires.0 c.loop-a.a c.loop-a-test.true,
      put_room (row_bytes R.degrees R.near R.codes) c.args.self.now c.loop-a.self c.args.t.now.n c.loop-a.a c.loop-a.invariant c.requires.1 c.loop-a-test.true,
    )

pub loop-a-preserved : goal.loop-a-preserved
loop-a-preserved c =
    let R = c.args.t.now.rows in
    put_next (row_bytes R.degrees R.near R.codes) c.args.self.now c.loop-a.self _ c.loop-a.a c.loop-a.invariant c.row.ensures

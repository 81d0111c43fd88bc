-- The bytes counted so far are the sum over the rows before this one, at most 18 each.
use native.Mathlib.Omega.{arith}
use Rattle.table.specs.View.{arrays_of}
use Rattle.card.specs.Writing.{row_length}
use Rattle.card.proofs.Lengths.{sum-start, sum_more, row_low}
use Rattle.table.proofs.Views.{tidy-row}
use Rattle.card.proofs.writing.bonds_length.Goals as goal

pub loop-a-init : goal.loop-a-init
loop-a-init c = (omega arith, sum-start _)

pub overflow_add-bytes : goal.overflow_add-bytes
overflow_add-bytes c =
    omega (arith, c.requires.atoms, c.row_length-bytes.ensures, row_low _ _ _ (tidy-row (arrays_of c.args.t.now) c.requires c.loop-a.a c.loop-a-test.true))

pub loop-a-preserved : goal.loop-a-preserved
loop-a-preserved c = (
  omega (arith, c.row_length-bytes.ensures, row_low _ _ _ (tidy-row (arrays_of c.args.t.now) c.requires c.loop-a.a c.loop-a-test.true)),
  omega (arith, c.row_length-bytes.ensures, sum_more c.loop-a.a (row_length c.args.t.now.rows.degrees c.args.t.now.rows.near)),
)

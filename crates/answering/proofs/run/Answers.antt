use Rattle.std.proofs.Common.{sym}
use lib.Seq.{length-take-le}
use Rattle.lines.proofs.Putting.{prints_fits}
use Rattle.answering.proofs.run.Goals as goal

pub slice_bounds-printed-end : goal.slice_bounds-printed-end
slice_bounds-printed-end g c = prints_fits _ _ _ _ c.answer-k.ensures.0

pub slice_bounds-write_all-end : goal.slice_bounds-write_all-end
slice_bounds-write_all-end g c = sym (length-take-le _ _ (prints_fits _ _ _ _ c.answer-k.ensures.0))

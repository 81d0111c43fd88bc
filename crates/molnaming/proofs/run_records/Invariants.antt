-- The buffers keep their lengths.
use Rattle.std.proofs.Common.{◌≡◌, length}
use Rattle.molnaming.proofs.run_records.Given as goal

abbrev pub invariant-loop-done : goal.invariant-loop-done
invariant-loop-done g l = (length l.file ≡ 65541) × (length l.printed ≡ 2071)

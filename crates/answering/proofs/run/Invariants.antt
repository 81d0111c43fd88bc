-- The buffers keep their lengths.
use Rattle.std.proofs.Common.{◌≡◌, length}
use Rattle.answering.proofs.run.Given as goal

abbrev pub invariant-loop : goal.invariant-loop
invariant-loop g l = (length l.line ≡ 131218) × (length l.input ≡ 65600) × (length l.printed ≡ 8278)

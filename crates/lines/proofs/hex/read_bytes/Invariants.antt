-- At each turn the bytes so far stand at the start, and the rest is as it was.
use Rattle.std.proofs.Common.{◌≡◌}
use Rattle.lists.specs.Upto.{each}
use Rattle.lines.specs.Hex.{byte_at}
use Rattle.lines.specs.Written.{fronted}
use Rattle.lines.proofs.hex.read_bytes.Given as goal

abbrev pub invariant-loop-i : goal.invariant-loop-i
invariant-loop-i l = l.out ≡ fronted (each l.i (byte_at l.field)) l.initial.out

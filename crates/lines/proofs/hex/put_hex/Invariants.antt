-- At each turn the digits so far stand at the start, and the rest is as it was.
use Rattle.std.proofs.Common.{◌≡◌}
use Rattle.lists.specs.Upto.{each}
use Rattle.lines.specs.Hex.{hex_at}
use Rattle.lines.specs.Written.{fronted}
use Rattle.lines.proofs.hex.put_hex.Given as goal

abbrev pub invariant-loop-k : goal.invariant-loop-k
invariant-loop-k l = l.out ≡ fronted (each l.k (hex_at l.bytes)) l.initial.out

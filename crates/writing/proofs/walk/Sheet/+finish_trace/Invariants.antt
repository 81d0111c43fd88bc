use Rattle.std.proofs.Common.{◌-◌, suc, ◌+◌, ◌*◌, take}
use Rattle.molecule.specs.Molecule.{Molecule}
use Rattle.sling.specs.Walk.{Written, neighbours_at, traces}
use Rattle.sling.specs.Walk.{finish as finish-of}
use Rattle.writing.specs.Walked.{Shows}
use Rattle.writing.proofs.Cycle.{Going}
use Rattle.writing.proofs.walk.Sheet.+finish_trace.Given as goal

abbrev pub decreases-finish : goal.decreases-finish
decreases-finish l = 2 * l.depth

abbrev pub decreases-trace : goal.decreases-trace
decreases-trace l = 2 * l.depth + 1

abbrev pub invariant-finish-loop-k : goal.invariant-finish-loop-k
invariant-finish-loop-k l =
    (W : Molecule) (w : Written)
    → Going l.t l.initial.self l.served (l.depth - 1) W w
    → Shows W.size l.self (traces (finish-of (l.depth - 1) W) W (suc l.served.atom.0) (take l.k (neighbours_at W (suc l.served.atom.0))) w)

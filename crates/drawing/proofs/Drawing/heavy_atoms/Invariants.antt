-- The atoms passed that are no H are counted.
use Rattle.std.proofs.Common.{◌≡◌, ◌≤◌}
use lib.ListN.{take}
use Rattle.drawing.specs.View.{numbers_of}
use Rattle.drawing.specs.Tests.{heavy_in}
use Rattle.drawing.proofs.Drawing.heavy_atoms.Given as goal

abbrev pub invariant-loop-kind : goal.invariant-loop-kind
invariant-loop-kind l = (l.n ≤ l.kind-index) × (l.n ≡ heavy_in (take l.kind-index (numbers_of l.self)))

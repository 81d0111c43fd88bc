-- The bonds passed without an H end are counted.
use Rattle.std.proofs.Common.{◌≡◌, ◌≤◌, map}
use lib.ListN.{take}
use Rattle.drawing.specs.View.{kinds_in, bond_in}
use Rattle.drawing.specs.Tests.{heavy_bonds_in}
use Rattle.drawing.proofs.Drawing.heavy_bonds.Given as goal

abbrev pub invariant-loop-bond : goal.invariant-loop-bond
invariant-loop-bond l = (l.n ≤ l.bond-index) × (l.n ≡ heavy_bonds_in (kinds_in l.self) (map bond_in (take l.bond-index l.self.bonds)))

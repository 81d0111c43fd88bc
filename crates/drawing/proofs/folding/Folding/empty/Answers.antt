-- The rows of the table are empty too.
use mathlib.Core.Bool.{false}
use mathlib.Core.Path.{ap}
use lib.ListN.{replicate}
use Rattle.table.specs.declared.rows.Rows.{Rows}
use Rattle.drawing.specs.declared.folding.Folding.{Folding}
use Rattle.drawing.proofs.folding.Folding.empty.Goals as goal

abbrev with_rows : Rows → Folding
with_rows R = record {
  table = record { n = 0; kinds = replicate 64 0; hydrogens = replicate 64 0; rows = R };
  numbers = replicate 999 0;
  used = replicate 999 false;
}

pub returns : goal.returns
returns c = ap with_rows c.empty.ensures

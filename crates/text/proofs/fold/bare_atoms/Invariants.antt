-- The table has the places passed that have no H, in their order, and no row has anything.
use Prim.Native.Nat.{ℕ, ◌<◌}
use mathlib.Core.Path.{◌≡◌}
use lib.ListN.{length}
use Rattle.table.specs.Changes.{no_rows}
use Rattle.text.specs.Holding.{view_of}
use Rattle.text.specs.Folding.{heavies_to, number_at}
use Rattle.text.proofs.FoldLaws.{Heavies}
use Rattle.text.proofs.fold.bare_atoms.Given as goal

abbrev pub invariant-loop-p : goal.invariant-loop-p
invariant-loop-p l =
    record {
      heavies : Heavies (view_of l.state) l.p l.table.n l.table.kinds l.table.hydrogens;
      bare : l.table.rows ≡ no_rows;
      long : length l.numbers ≡ 192;
      numbers : (q : ℕ) → q < l.p → number_at l.numbers q ≡ length (heavies_to (view_of l.state) q);
    }

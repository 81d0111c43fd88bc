-- The table so far is tidy and has the bonds passed, those to an H left out.
use Rattle.table.specs.View.{TidyTable}
use Rattle.text.specs.Holding.{view_of}
use Rattle.text.specs.Folding.{molecule_of}
use Rattle.text.proofs.LinkLaws.{LinkedTo}
use Rattle.text.proofs.fold.folded.Given as goal

abbrev pub invariant-loop-bond : goal.invariant-loop-bond
invariant-loop-bond l = record { tidy : TidyTable l.table; linked : LinkedTo (view_of l.state) l.bond-index (molecule_of l.table) }

-- A table as a reader lists it, and with its numbering: what the writers are given.
use Rattle.molecule.proofs.Sound.{Sound}
use Rattle.table.specs.declared.Table.{Table}
use Rattle.table.specs.View.{view_of, TidyTable}
use Rattle.numbering.specs.declared.Numbering.{Numbering}
use Rattle.numbering.specs.Result.{Taken}

-- nothing was refused: the table is tidy and its molecule passed the checks
pub record Listed (t : Table) : Type 0 where
  pub tidy : TidyTable t
  pub sound : Sound (view_of t)

-- and the numbering is its own
pub record Ready (t : Table) (n : Numbering) : Type 0 where
  pub listed : Listed t
  pub numbers : Taken (view_of t) n

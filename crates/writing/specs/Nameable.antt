-- What the writer asks of a table.
use Rattle.std.specs.Prelude.{◌<◌, ◌≤◌, length}
use Rattle.sling.specs.Printed.{name_bytes}
use Rattle.table.specs.declared.Table.{Table}
use Rattle.table.specs.View.{view_of, TidyTable}

-- A table whose atoms stand in rank order. "2,048 bytes hold any name": that of every sound molecule.
pub record Nameable (t : Table) : Type 0 where
  pub tidy : TidyTable t
  pub some : 0 < t.n
  pub room : length (name_bytes (view_of t)) ≤ 2048

-- What is left has the same behind its blanks.
use Rattle.std.proofs.Common.{◌≡◌}
use lib.ListN.{drop}
use Rattle.ctfile.specs.Fields.{unled}
use Rattle.molfile.proofs.field.unled.Given as goal

abbrev pub invariant-loop-i : goal.invariant-loop-i
invariant-loop-i l = unled (drop l.i l.field) ≡ unled l.field

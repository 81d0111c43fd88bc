-- All entries passed are sound.
use Rattle.std.proofs.Common.{◌≡◌, true}
use Rattle.lists.specs.Upto.{each}
use Rattle.lists.specs.Tests.{every}
use Rattle.ctfile.specs.Forms.{is_entry}
use Rattle.molfile.proofs.properties.are_entries.Given as goal

abbrev pub invariant-loop-e : goal.invariant-loop-e
invariant-loop-e l = every (each l.e (is_entry l.atoms l.line)) ≡ true

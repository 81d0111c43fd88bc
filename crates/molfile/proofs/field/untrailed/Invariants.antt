-- From no byte before this one on there are only blanks.
use Rattle.std.proofs.Common.{◌≡◌, ◌<◌, ℕ, false}
use lib.ListN.{drop}
use Rattle.ctfile.specs.Fields.{are_blank}
use Rattle.molfile.proofs.field.untrailed.Given as goal

abbrev pub invariant-loop-i : goal.invariant-loop-i
invariant-loop-i l = (j : ℕ) → j < l.i → are_blank (drop j l.field) ≡ false

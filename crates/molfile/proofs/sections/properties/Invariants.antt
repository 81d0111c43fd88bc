-- What is left from an offset on is judged as the whole is.
use Rattle.std.proofs.Common.{◌≡◌, ◌-◌, length}
use Rattle.ctfile.specs.Filed.{properties}
use Rattle.molfile.specs.Cutting.{lines_at}
use Rattle.molfile.proofs.sections.properties.Given as goal

abbrev pub invariant-loop-at : goal.invariant-loop-at
invariant-loop-at l = properties (length l.file) l.atoms (lines_at l.file l.at) ≡ properties (length l.file) l.atoms (lines_at l.file l.from)

abbrev pub decreases-loop-at : goal.decreases-loop-at
decreases-loop-at l = length l.file - l.at

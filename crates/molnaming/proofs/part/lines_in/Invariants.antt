-- The lines counted, and those that begin from here on, are those of the whole.
use Rattle.std.proofs.Common.{◌≡◌, ◌+◌, ◌≤◌, length}
use Rattle.ctfile.specs.Lines.{lines_of}
use Rattle.molnaming.proofs.Begun.{begun}
use Rattle.molnaming.proofs.part.lines_in.Given as goal

abbrev pub invariant-loop-b : goal.invariant-loop-b
invariant-loop-b l = (l.lines ≤ l.b-index) × (l.lines + begun l.file l.begins l.b-index ≡ length (lines_of l.file))

-- No atom passed has too many hydrogens, and the total is that of the atoms passed.
use Rattle.std.proofs.Common.{◌≡◌, ◌≤◌, ◌*◌, false, get_or}
use Rattle.lists.specs.Upto.{each, sum}
use Rattle.lists.specs.Tests.{some}
use Rattle.drawing.proofs.CountLaws.{over}
use Rattle.drawing.proofs.folding.Folding.hydrogens_fault.Given as goal

abbrev pub invariant-loop-h : goal.invariant-loop-h
invariant-loop-h l =
    (some (each l.h-index (over l.self.table.hydrogens)) ≡ false) × (l.total ≡ sum (each l.h-index (λ b. get_or l.self.table.hydrogens b 0))) × (l.total ≤ 4 * l.h-index)

-- No H passed is without a bond.
use Rattle.std.proofs.Common.{◌≡◌, false}
use Rattle.lists.specs.Upto.{each}
use Rattle.lists.specs.Tests.{some}
use Rattle.drawing.specs.View.{numbers_of}
use Rattle.drawing.proofs.CountLaws.{lone}
use Rattle.drawing.proofs.folding.Folding.has_lone_h.Given as goal

abbrev pub invariant-loop-p : goal.invariant-loop-p
invariant-loop-p l = some (each l.p (lone (numbers_of l.drawing) l.self.used)) ≡ false

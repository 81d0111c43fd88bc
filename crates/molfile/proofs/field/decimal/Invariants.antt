-- What is left, behind digits that come to this number, comes to the whole.
use Rattle.std.proofs.Common.{◌≡◌, ◌≤◌}
use lib.ListN.{drop}
use Rattle.ctfile.specs.Fields.{decimal}
use Rattle.molfile.proofs.field.decimal.Given as goal

abbrev pub invariant-loop-i : goal.invariant-loop-i
invariant-loop-i l =
    (decimal l.number (drop l.i l.field) ≡ decimal 0 l.field) × (l.i ≤ 0 → l.number ≤ 0) × (l.i ≤ 1 → l.number ≤ 9) × (l.i ≤ 2 → l.number ≤ 99) × (l.number ≤ 999)

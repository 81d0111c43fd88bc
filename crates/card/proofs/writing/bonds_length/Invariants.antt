-- The bytes counted so far are the sum over the rows before this one, at most 18 each.
use mathlib.Core.Path.{◌≡◌}
use Prim.Native.Nat.{◌*◌, ◌≤◌}
use Rattle.lists.specs.Upto.{each, sum}
use Rattle.card.specs.Writing.{row_length}
use Rattle.card.proofs.writing.bonds_length.Given as goal

abbrev pub invariant-loop-a : goal.invariant-loop-a
invariant-loop-a l = (l.bytes ≤ 18 * l.a) × (l.bytes ≡ sum (each l.a (row_length l.t.rows.degrees l.t.rows.near)))

-- The rows of the atoms before this one are written.
use mathlib.Core.List.{flatten}
use Rattle.lists.specs.Upto.{each}
use Rattle.card.specs.Writing.{row_bytes, PutIn}
use Rattle.card.proofs.writing.Writer.bonds.Given as goal

abbrev pub invariant-loop-a : goal.invariant-loop-a
invariant-loop-a l = PutIn l.initial.self (flatten (each l.a (row_bytes l.t.rows.degrees l.t.rows.near l.t.rows.codes))) l.self

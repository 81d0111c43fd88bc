-- The pieces of the slots before this one are written.
use mathlib.Core.List.{flatten}
use Rattle.lists.specs.Upto.{each}
use Rattle.card.specs.Writing.{slot_piece, PutIn}
use Rattle.card.proofs.writing.Writer.row.Given as goal

abbrev pub invariant-loop-p : goal.invariant-loop-p
invariant-loop-p l = PutIn l.initial.self (flatten (each l.p (slot_piece l.rows.near l.rows.codes l.a.0))) l.self

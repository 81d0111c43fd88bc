-- The pieces of the atoms before this one are written.
use mathlib.Core.List.{flatten}
use Rattle.lists.specs.Upto.{each}
use Rattle.card.specs.Writing.{atom_piece, PutIn}
use Rattle.card.proofs.writing.Writer.atoms.Given as goal

abbrev pub invariant-loop-a : goal.invariant-loop-a
invariant-loop-a l = PutIn l.initial.self (flatten (each l.a (atom_piece l.t.kinds l.t.hydrogens))) l.self

-- What is held fits the line, and the buffer lent is the same and keeps its length, as the line does.
use Rattle.std.proofs.Common.{◌≡◌, ◌≤◌, length}
use Rattle.lines.proofs.input.Lines.next_line.Given as goal

abbrev pub invariant-loop : goal.invariant-loop
invariant-loop g l = (l.held ≤ length l.line) × (length l.self.buffer.now ≡ length l.initial.self.buffer.now) × (l.self.buffer.ghost_name ≡ l.initial.self.buffer.ghost_name)

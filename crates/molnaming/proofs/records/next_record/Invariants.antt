-- What is held of a record leaves room for the bytes that tell a parting line, and both buffers keep their lengths.
use Rattle.std.proofs.Common.{◌≡◌, ◌≤◌, length}
use Rattle.molnaming.proofs.records.next_record.Given as goal

abbrev pub invariant-loop : goal.invariant-loop
invariant-loop g l =
    (length l.lines.buffer.now ≡ length l.initial.lines.buffer.now) × (l.lines.buffer.ghost_name ≡ l.initial.lines.buffer.ghost_name) × (length l.file ≡ length l.initial.file) × (65541 ≤ length l.file) × (l.held ≤ 65537)

-- Of the columns i are in the array.
use Rattle.std.proofs.Common.{◌≡◌, ◌+◌, ◌<◌, get_or, length, ℕ}
use Rattle.molfile.proofs.field.columns.Given as goal

abbrev pub invariant-loop-i : goal.invariant-loop-i
invariant-loop-i g l = (length l.field ≡ l.i-end) × ((j : ℕ) → j < l.i → get_or l.field j 0 ≡ get_or l.line (l.k + j) 32)

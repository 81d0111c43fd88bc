-- The line printed for an answer, from what a call returned and left in the lent bytes.
use mathlib.Core.List.{List, ◌++◌}
use mathlib.Core.Path.{◌≡◌}
use Prim.Native.Nat.{ℕ, ◌≤◌}
use lib.ListN.{length, take, drop}
use lib.Seq.{take-append-le, length-take-le}
use Rattle.rules.specs.Answers.{Answer}
use Rattle.rules.specs.Allowed.{Result, Allowed}
use Rattle.rules.proofs.Runs.{run-output}
use Rattle.lines.specs.Written.{Prints}
use native.Mathlib.Omega.{arith}
use Rattle.std.specs.Prelude.{Some}
use Rattle.answering.specs.declared.request.Op.{Op}
use Rattle.answering.specs.Answers.{answer_of, shown, line_for}

-- in a buffer of which the first part was lent
pub answer_shown : (a : Answer) (before rest : List ℕ) (r : Result) → Allowed a before r → r.length ≤ length r.lent → (out after : List ℕ) (n : ℕ)
    → Prints (shown r.refusal r.place r.leaves (take r.length (r.lent ++ rest))) out after n
    → Prints (shown a.refusal a.place a.leaves a.bytes) out after n
answer_shown a before rest r A h out after n P =
    rw (A.refusal, A.place, A.leaves, take-append-le r.length r.lent rest h, run-output a before r A) at P

-- of what was asked with a room in a buffer that has it, and an input that was read
pub asked_shown : (op : Op) (input read : List ℕ) (allowance room : ℕ) (buffer : List ℕ) (r : Result) → read ≡ input → room ≤ length buffer
    → Allowed (answer_of op read allowance (length (take room buffer))) (take room buffer) r → r.length ≤ length (take room buffer) → length r.lent ≡ length (take room buffer)
    → (out after : List ℕ) (n : ℕ) → Prints (shown r.refusal r.place r.leaves (take r.length (r.lent ++ drop room buffer))) out after n
    → Prints (line_for (Some (record { op = op; allowance = allowance; room = room })) input) out after n
asked_shown op input read allowance room buffer r e h A l k out after n P =
    let B : Allowed (answer_of op input allowance room) (take room buffer) r = rw (e, length-take-le room buffer h) at A in
    answer_shown (answer_of op input allowance room) (take room buffer) (drop room buffer) r B (omega arith) out after n P

-- The line printed for a name, from what the call returned and left in the lent bytes; and for an input that is too long.
use mathlib.Core.List.{List, [], ◌∷◌}
use mathlib.Core.Path.{◌≡◌, refl}
use Prim.Native.Nat.{ℕ, ◌<◌, ◌≤◌}
use lib.ListN.{length, take}
use borrow.Author.Tests.{lt-ltb, le-ltb}
use Rattle.rules.specs.Answers.{refused, name_of}
use Rattle.rules.specs.Allowed.{Result, Allowed}
use Rattle.rules.proofs.Runs.{run-output}
use Rattle.lines.specs.Numbers.{digits_to}
use Rattle.lines.specs.Written.{Prints, numbered}
use Rattle.naming.specs.Lines.{shown, shown_answer, name_line}

too_long : shown_answer (refused 4 0) ≡ 52 ∷ 32 ∷ 48 ∷ 32 ∷ 48 ∷ 32 ∷ 45 ∷ 10 ∷ []
unfolding shown numbered digits_to
too_long = refl

pub long-line : (input : List ℕ) → 4096 < length input → name_line input ≡ 52 ∷ 32 ∷ 48 ∷ 32 ∷ 48 ∷ 32 ∷ 45 ∷ 10 ∷ []
unfolding name_line
long-line input h = rw (lt-ltb 4096 (length input) h) too_long

pub named-line : (input before : List ℕ) (r : Result) → length input ≤ 4096 → length before ≡ 2048 → Allowed (name_of input 4096 (length before)) before r
    → (out after : List ℕ) (n : ℕ) → Prints (shown r.refusal r.place r.leaves (take r.length r.lent)) out after n
    → Prints (name_line input) out after n
unfolding name_line
named-line input before r h e A out after n P =
    rw (le-ltb 4096 (length input) h, ← e) (rw (A.refusal, A.place, A.leaves, run-output (name_of input 4096 (length before)) before r A) at P)

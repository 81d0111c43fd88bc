-- A text's answer has no leaves, so that what the reader answers is a run.
use mathlib.Core.Bool.{Bool, true, false, cond}
use mathlib.Core.List.{List}
use mathlib.Core.Path.{◌≡◌, refl, sym, subst}
use Prim.Native.Nat.{ℕ}
use lib.Dec.{ltb}
use lib.ListN.{length}
use Rattle.std.specs.Prelude.{Result, Ok, Err}
use Rattle.refusal.specs.declared.Refused.{Refused}
use Rattle.molecule.specs.Written.{card_bytes}
use Rattle.sling.specs.Faults.{Outcome, stopped, finished}
use Rattle.sling.specs.Folded.{folded, read_text}
use Rattle.rules.specs.Answers.{refused, accepted, in_room, read_into, card_of}
use Rattle.rules.specs.Runs.{CardRun}
use Rattle.text.specs.Answering.{Answered}
use Rattle.scallopgrid.specs.declared.Answer.{Answer}
use Rattle.outputs.specs.declared.Accepted.{Accepted}
use Rattle.outputs.specs.Left.{left_by}
use Rattle.scallopgrid.specs.Returned.{returned, answer_of, no_leaves}
use Rattle.scallopgrid.proofs.Runs.{run-returned}

leafless : (o : Outcome) (room size : ℕ) → (read_into o room size).leaves ≡ 0
unfolding in_room
leafless (stopped n p) room size = refl
leafless (finished st) room size = go (ltb room (length (card_bytes (folded st))))
  where
    go : (b : Bool) → (cond b (refused 10 size) (accepted 0 (card_bytes (folded st)))).leaves ≡ 0
    go true = refl
    go false = refl

outcome_run : (s lent after : List ℕ) (r : Result ℕ Refused) → Answered s lent after r → CardRun s lent (left_by (no_leaves r) after)
unfolding card_of
outcome_run s lent after (Ok n) A =
    record { refusal = A.refusal; place = A.place; leaves = sym (leafless (read_text s) (length lent) (length s)); written = A.size; lent = A.left }
outcome_run s lent after (Err p) A =
    record { refusal = A.refusal; place = A.place; leaves = sym (leafless (read_text s) (length lent) (length s)); written = A.size; lent = A.left }

pub run-text : (s lent after : List ℕ) (r : Result ℕ Refused) → Answered s lent after r → (q : Result Accepted Refused) → q ≡ no_leaves r
    → (a : Answer) → a ≡ answer_of q → CardRun s lent (returned a after)
run-text s lent after r A q e a f =
    run-returned (CardRun s lent) q after (subst (λ (p : Result Accepted Refused). CardRun s lent (left_by p after)) (sym e) (outcome_run s lent after r A)) a f

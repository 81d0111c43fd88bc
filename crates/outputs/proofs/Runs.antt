-- What each return of a table numbered and written leaves is a run of its answer: a refusal writes nothing, and what was written is the answer's.
use mathlib.Core.Bool.{Bool, true, false, cond}
use mathlib.Core.List.{List, ◌++◌}
use mathlib.Core.Path.{◌≡◌, refl, sym, ◌∙◌, ap, subst}
use Prim.Native.Nat.{ℕ, ◌≤◌}
use native.Mathlib.Omega.{arith}
use lib.Dec.{ltb}
use lib.ListN.{length, drop}
use borrow.Author.Tests.{le-ltb}
use Rattle.std.specs.Prelude.{Result, Ok, Err}
use Rattle.refusal.specs.declared.Refusal.{Refusal}
use Rattle.refusal.specs.declared.Refusal.TheVariants.{NoRoom}
use Rattle.refusal.specs.declared.Refused.{Refused}
use Rattle.refusal.specs.Numbers.{number_of, at_start}
use Rattle.refusal.proofs.Numbers.{number_of-positive}
use Rattle.lent.specs.Written.{Written}
use Rattle.molecule.specs.Molecule.{Molecule}
use Rattle.classes.specs.Refining.{rule1}
use Rattle.classes.specs.Numberings.{leaf_count}
use Rattle.table.specs.declared.Table.{Table}
use Rattle.table.specs.View.{view_of}
use Rattle.rules.specs.Answers.{refused, accepted, in_room, numbered}
use Rattle.rules.specs.Allowed as rules
use Rattle.rules.specs.Allowed.{Allowed}
use Rattle.rules.proofs.Runs.{refused-run, accepted-run}
use Rattle.numbering.specs.declared.Numbering.{Numbering}
use Rattle.numbering.specs.Result.{Answered}
use Rattle.numbering.proofs.Answers as numbering
use Rattle.outputs.specs.declared.Accepted.{Accepted}
use Rattle.outputs.specs.Left.{left_by, AnswersAs}

-- a refusal that came stands
pub run-refused : (p : Refused) (lent : List ℕ) → Allowed (refused (number_of p.refusal) p.place) lent (left_by (Err p) lent)
run-refused p lent = refused-run _ (number_of p.refusal) p.place lent refl

module _ (bytes : Molecule → List ℕ) (M : Molecule) (allowance : ℕ) (lent : List ℕ) where
  abbrev leaves : ℕ
  leaves = leaf_count rule1 M

  -- too many leaves, and nothing is written
  pub run-many : (r : Refusal) → Answered M allowance (Err r) → Allowed (numbered bytes allowance (length lent) M) lent (left_by (Err (at_start r)) lent)
  unfolding numbered
  run-many r A = go (ltb allowance leaves) refl
    where
      go : (b : Bool) → ltb allowance leaves ≡ b → Allowed (numbered bytes allowance (length lent) M) lent (left_by (Err (at_start r)) lent)
      go true q =
          let n : number_of r ≡ 9 = A.refusal ∙ rw q in
          refused-run _ (number_of r) 0 lent (rw q (ap (λ (k : ℕ). refused k 0) (sym n)))
      go false q = let n : number_of r ≡ 0 = A.refusal ∙ rw q in absurd (omega (arith, number_of-positive r))

  module _ (n : Numbering) (A : Answered M allowance (Ok n)) where
    few : leaves ≤ allowance
    few = numbering.accepted M allowance (Ok n) A refl

    -- with the allowance met, the answer is decided by the room
    roomed : (b : Bool) → ltb (length lent) (length (bytes M)) ≡ b → numbered bytes allowance (length lent) M ≡ cond b (refused 10 0) (accepted leaves (bytes M))
    unfolding numbered in_room
    roomed b q = rw (le-ltb allowance leaves few, q)

    -- what is written is accepted with its leaf count; 10 is a refusal like another
    abbrev pub outcome : Result ℕ Refusal → Result Accepted Refused
    outcome (Ok k) = Ok (record { leaves = n.leaves; length = k })
    outcome (Err r) = Err (at_start r)

    pub run-written : (o : Result ℕ Refusal) (after : List ℕ) → Written (bytes M) lent after o
        → Allowed (numbered bytes allowance (length lent) M) lent (left_by (outcome o) after)
    run-written o after W =
        subst (λ (p : Result ℕ Refusal). Allowed (numbered bytes allowance (length lent) M) lent (left_by (outcome p) after)) (sym W.answer)
        (subst
        (λ (l : List ℕ).
        Allowed (numbered bytes allowance (length lent) M) lent (left_by (outcome (cond (ltb (length lent) (length (bytes M))) (Err NoRoom) (Ok (length (bytes M))))) l))
        (sym W.left) (go (ltb (length lent) (length (bytes M))) refl))
      where
        go : (b : Bool) → ltb (length lent) (length (bytes M)) ≡ b
            → Allowed (numbered bytes allowance (length lent) M) lent
            (left_by (outcome (cond (ltb (length lent) (length (bytes M))) (Err NoRoom) (Ok (length (bytes M)))))
            (cond (ltb (length lent) (length (bytes M))) lent (bytes M ++ drop (length (bytes M)) lent)))
        go true q = rw q (refused-run _ 10 0 lent (roomed true q))
        go false q = rw (q, A.numbered.leaves) (accepted-run _ _ (bytes M) lent (roomed false q))

-- by what came: a refusal stands, and a table is numbered
module _ (bytes : Molecule → List ℕ) (read : Result Table Refused) (allowance : ℕ) (lent : List ℕ) where
  pub as_refused : (p : Refused) → read ≡ Err p → (r : Result Accepted Refused) → r ≡ Err p → AnswersAs bytes read allowance lent (left_by r lent)
  as_refused p e r f =
      subst (λ (q : Result Table Refused). AnswersAs bytes q allowance lent (left_by r lent)) (sym e)
      (subst (λ (s : Result Accepted Refused). Allowed (refused (number_of p.refusal) p.place) lent (left_by s lent)) (sym f) (run-refused p lent))

  module _ (t : Table) (e : read ≡ Ok t) where
    abbrev As : rules.Result → Type 0
    As left = Allowed (numbered bytes allowance (length lent) (view_of t)) lent left

    pub as_numbered : (left : rules.Result) → As left → AnswersAs bytes read allowance lent left
    as_numbered left A = subst (λ (q : Result Table Refused). AnswersAs bytes q allowance lent left) (sym e) A

    pub as_many : (q : Refusal) → Answered (view_of t) allowance (Err q) → (r : Result Accepted Refused) → r ≡ Err (at_start q)
        → AnswersAs bytes read allowance lent (left_by r lent)
    as_many q A r f =
        as_numbered _ (subst (λ (s : Result Accepted Refused). As (left_by s lent)) (sym f) (run-many bytes (view_of t) allowance lent q A))

    pub as_short : (n : Numbering) → Answered (view_of t) allowance (Ok n) → (q : Refusal) (after : List ℕ) → Written (bytes (view_of t)) lent after (Err q)
        → (r : Result Accepted Refused) → r ≡ Err (at_start q) → AnswersAs bytes read allowance lent (left_by r after)
    as_short n A q after W r f =
        as_numbered _ (subst (λ (s : Result Accepted Refused). As (left_by s after)) (sym f) (run-written bytes (view_of t) allowance lent n A (Err q) after W))

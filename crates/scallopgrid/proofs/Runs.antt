-- A reader's table or refusal: what is answered of it is the answer of what it read.
use mathlib.Core.List.{List}
use mathlib.Core.Path.{◌≡◌, refl, sym, ◌∙◌, ap, subst}
use Prim.Native.Nat.{ℕ}
use native.Mathlib.Omega.{arith}
use lib.ListN.{length}
use Rattle.std.specs.Prelude.{Result, Ok, Err}
use Rattle.refusal.specs.declared.Refused.{Refused}
use Rattle.refusal.specs.Numbers.{number_of, refused_in, place_in}
use Rattle.refusal.proofs.Numbers.{number_of-positive}
use Rattle.molecule.specs.Molecule.{Molecule}
use Rattle.table.specs.declared.Table.{Table}
use Rattle.table.specs.View.{view_of}
use Rattle.rules.specs.Answers.{Answer, refused, numbered}
use Rattle.rules.specs.Allowed as rules
use Rattle.rules.specs.Allowed.{Allowed}
use Rattle.outputs.specs.declared.Accepted.{Accepted}
use Rattle.scallopgrid.proofs.Faults.{Answers}
use Rattle.outputs.specs.Left.{left_by, AnswersAs}
use Rattle.scallopgrid.specs.declared.Answer as call
use Rattle.scallopgrid.specs.Returned.{returned, answer_of}

-- what is left is told by the numbers that are returned
pub run-returned : (P : rules.Result → Type 0) (o : Result Accepted Refused) (after : List ℕ) → P (left_by o after) → (a : call.Answer) → a ≡ answer_of o → P (returned a after)
run-returned P o after h a e = subst (λ (b : call.Answer). P (returned b after)) (sym e) h

-- A reader's table or refusal: what is answered of it is the answer of what it read.
pub run-read : (bytes : Molecule → List ℕ) (fault place : ℕ) (M : Molecule) (allowance : ℕ) (lent : List ℕ) (a : Answer)
    → Answers bytes fault place M allowance (length lent) a → (read : Result Table Refused) → refused_in read ≡ fault → place_in read ≡ place
    → ((t : Table) → read ≡ Ok t → numbered bytes allowance (length lent) (view_of t) ≡ numbered bytes allowance (length lent) M)
    → (o : Result Accepted Refused) (after : List ℕ) → AnswersAs bytes read allowance lent (left_by o after) → (c : call.Answer) → c ≡ answer_of o → Allowed a lent (returned c after)
run-read bytes fault place M allowance lent a A (Ok t) f p same o after S c e =
    run-returned (Allowed a lent) o after (subst (λ (b : Answer). Allowed b lent (left_by o after)) (same t refl ∙ sym (A.sound (sym f))) S) c e
run-read bytes fault place M allowance lent a A (Err q) f p same o after S c e =
    run-returned (Allowed a lent) o after (subst (λ (b : Answer). Allowed b lent (left_by o after)) (ap (λ (k : ℕ). refused (number_of q.refusal) k) p ∙ ap (λ (k : ℕ). refused k place) f ∙ sym (A.faulty (λ z. omega (arith, f, z, number_of-positive q.refusal)))) S) c e

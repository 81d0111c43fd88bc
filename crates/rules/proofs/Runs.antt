-- The promises over runs: a run leaves what its answer says, so each promise about answers is one about runs.
use mathlib.Core.List.{List, ◌++◌}
use mathlib.Core.Path.{◌≡◌, refl, sym, ◌∙◌, ap, subst}
use Prim.Native.Nat.{ℕ, ◌≤◌}
use lib.ListN.{length, get_or, take, drop}
use lib.Seq.{take_at}
use Rattle.rules.specs.Answers.{Answer, refused, accepted, at_exit, name_of, card_of}
use Rattle.rules.specs.Allowed.{Result, Allowed}
use Rattle.rules.specs.Promises.{Same, Again}
use Rattle.rules.specs.Runs.{output, CardRun, SameRuns, ApartRuns, AgainRuns}
use Rattle.rules.proofs.Settled.{settled}
use Rattle.rules.proofs.Same.{same}
use Rattle.rules.proofs.Again.{apart, again}

-- what a run wrote is its answer's bytes
pub run-output : (a : Answer) (lent : List ℕ) (r : Result) → Allowed a lent r → output r ≡ a.bytes
unfolding at_exit
run-output a lent r p = ap (take r.length) p.lent ∙ take_at a.bytes (drop (length a.bytes) lent) r.length (sym p.written)

-- what a program has to leave, once it knows its answer
pub refused-run : (a : Answer) (n p : ℕ) (lent : List ℕ) → a ≡ refused n p
    → Allowed a lent (record { refusal = n; place = p; leaves = 0; length = 0; lent = lent })
unfolding at_exit
refused-run a n p lent e =
    subst (λ x. Allowed x lent (record { refusal = n; place = p; leaves = 0; length = 0; lent = lent })) (sym e)
    (record { refusal = refl; place = refl; leaves = refl; written = refl; lent = refl })

pub accepted-run : (a : Answer) (k : ℕ) (out lent : List ℕ) → a ≡ accepted k out
    → Allowed a lent (record { refusal = 0; place = 0; leaves = k; length = length out; lent = out ++ drop (length out) lent })
unfolding at_exit
accepted-run a k out lent e =
    subst (λ x. Allowed x lent (record { refusal = 0; place = 0; leaves = k; length = length out; lent = out ++ drop (length out) lent })) (sym e)
    (record { refusal = refl; place = refl; leaves = refl; written = refl; lent = refl })

-- runs of answers that are equal leave the same
equal_runs : (a a' : Answer) (lent : List ℕ) (r r' : Result) → a' ≡ a → Allowed a lent r → Allowed a' lent r' → r ≡ r'
equal_runs a a' lent r r' e p p' = settled a lent r r' p (subst (λ x. Allowed x lent r') e p')

pub same_runs : SameRuns
same_runs σ card card' w w' E = record {
  name = λ allowance lent r r' p p'. equal_runs _ _ lent r r' (s.name allowance (length lent)) p p';
  canonical = λ allowance lent r r' p p'. equal_runs _ _ lent r r' (s.canonical allowance (length lent)) p p';
  marks = λ allowance lent r r' p p' i h.
      ap (λ l. get_or l (σ i) 0) (run-output _ lent r' p') ∙ (s.marks allowance (length lent)).carried i h ∙ sym (ap (λ l. get_or l i 0) (run-output _ lent r p));
}
  where
    s : Same σ card card'
    s = same σ card card' w w' E

pub apart-runs : ApartRuns
apart-runs card card' allowance allowance' lent lent' r r' p p' e e' o =
    apart card card' allowance (length lent) allowance' (length lent') (sym p.refusal ∙ e) (sym p'.refusal ∙ e')
    (sym (run-output _ lent r p) ∙ o ∙ run-output _ lent' r' p')

pub again-runs : AgainRuns
again-runs card allowance lent r p e = record {
  room = length g.back;
  read = λ lent' q h c. c.refusal ∙ ap (λ a. a.refusal) (card-answer lent' h);
  again = λ lent' q r' h c n.
      settled (name_of card allowance (length lent)) lent r' r
      (subst (λ a. Allowed a lent r') (ap (λ s. name_of s allowance (length lent)) (card-output lent' q h c) ∙ g.named) n) p;
}
  where
    g : Again card allowance (length lent)
    g = again card allowance (length lent) (sym p.refusal ∙ e)

    card-answer : (lent' : List ℕ) → length g.back ≤ length lent' → card_of (output r) (length lent') ≡ accepted 0 g.back
    card-answer lent' h = ap (λ s. card_of s (length lent')) (run-output _ lent r p) ∙ g.read (length lent') h

    card-output : (lent' : List ℕ) (q : Result) → length g.back ≤ length lent' → CardRun (output r) lent' q → output q ≡ g.back
    card-output lent' q h c = run-output _ lent' q c ∙ ap (λ a. a.bytes) (card-answer lent' h)

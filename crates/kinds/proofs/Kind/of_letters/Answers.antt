-- No kind before k has these two letters, so the first that has them is the rules' kind.
use borrow.Author.Count.{below_more}
use mathlib.Core.Path.{◌≡◌, sym}
use Prim.Native.Nat.{ℕ}
use native.Mathlib.Omega.{arith}
use lib.ListN.{get_or}
use Rattle.kinds.proofs.Arrays.{capitals, smalls, letters_found, letters_none, no_second}
use Rattle.kinds.proofs.Kind.of_letters.Goals.{else-k-capital-via-then-k-capital+else-k-small, else-k-capital-via-else-k-capital}
use Rattle.kinds.proofs.Kind.of_letters.Goals as goal

pub returns-then-small-eq0-clause-is : goal.returns-then-small-eq0-clause-is
returns-then-small-eq0-clause-is c = sym (no_second c.args.capital c.args.small c.if-small-eq0.true)

pub returns-then-k-small-clause-is : goal.returns-then-k-small-clause-is
unfolding capitals smalls
returns-then-k-small-clause-is c =
    sym (letters_found c.args.capital c.args.small c.loop-k.k (omega arith) c.if-k-capital.true c.if-k-small.true c.if-small-eq0.false)

pub loop-k-preserved : goal.loop-k-preserved
unfolding capitals smalls
loop-k-preserved c =
    below_more (λ (j : ℕ). get_or capitals j 0 ≡ c.args.capital → get_or smalls j 0 ≡ c.args.small → ⊥) c.loop-k.k c.loop-k.invariant
    (elim c.else-k-capital.branch [ else-k-capital-via-then-k-capital+else-k-small w ↦ λ e f. w.if-k-small.false f | else-k-capital-via-else-k-capital w ↦ λ e f. w.if-k-capital.false e ])

pub returns-clause-is : goal.returns-clause-is
returns-clause-is c = sym (letters_none c.args.capital c.args.small (λ k h. c.loop-k.invariant k (omega arith)))

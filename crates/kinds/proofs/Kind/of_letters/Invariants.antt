-- No kind before k has these two letters, so the first that has them is the rules' kind.
use mathlib.Core.Path.{◌≡◌}
use Prim.Native.Nat.{ℕ, ◌<◌}
use lib.ListN.{get_or}
use Rattle.kinds.proofs.Arrays.{capitals, smalls}
use Rattle.kinds.proofs.Kind.of_letters.Given as goal

abbrev pub invariant-loop-k : goal.invariant-loop-k
invariant-loop-k l = (j : ℕ) → j < l.k → get_or capitals j 0 ≡ l.capital → get_or smalls j 0 ≡ l.small → ⊥

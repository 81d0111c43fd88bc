-- Outside A to Z no symbol begins with the byte; inside, the array's entry is the rules' kind.
use mathlib.Core.List.{[], ◌∷◌}
use mathlib.Core.Path.{sym, ◌∙◌}
use native.Mathlib.Omega.{arith}
use Rattle.kinds.proofs.Arrays.{by_capital, capital_at, no_capital, kind_of_symbol-low}
use Rattle.kinds.proofs.Kind.of_capital.Goals.{then-letter-lt65-via-then-letter-lt65, then-letter-lt65-via-else-letter-lt65+then-letter-gt90}
use Rattle.kinds.proofs.Kind.of_capital.Goals as goal

pub returns-then-letter-lt65-clause-is : goal.returns-then-letter-lt65-clause-is
returns-then-letter-lt65-clause-is c =
    sym
    (no_capital c.args.letter []
    (λ h k.
    elim c.then-letter-lt65.branch [ then-letter-lt65-via-then-letter-lt65 w ↦ omega (arith, w.if-letter-lt65.true) | then-letter-lt65-via-else-letter-lt65+then-letter-gt90 w ↦ omega (arith, w.if-letter-gt90.true) ]))

pub of_entry-requires : goal.of_entry-requires
unfolding by_capital
of_entry-requires c = omega (arith, capital_at c.args.letter (omega arith) (omega arith), kind_of_symbol-low (c.args.letter ∷ []))

pub returns-clause-is : goal.returns-clause-is
unfolding by_capital
returns-clause-is c = c.of_entry.ensures.is ∙ capital_at c.args.letter (omega arith) (omega arith)

-- The array's entry at a number is the second letter of its symbol, or 0, also where no kind has it.
use mathlib.Core.Path.{◌≡◌, refl, ap, sym, ◌∙◌}
use Prim.Native.Nat.{ℕ, zero, suc}
use Rattle.std.specs.Prelude.{Some}
use Rattle.kinds.specs.Known.{letter_of}
use Rattle.kinds.proofs.Arrays.{smalls, second_everywhere}
use Rattle.kinds.proofs.Kind.small.Goals as goal

some : (n : ℕ) → (n ≡ 0 → ⊥) → Some n ≡ letter_of n
some zero h = absurd (h refl)
some (suc n) h = refl

pub returns-then-letter-eq0 : goal.returns-then-letter-eq0
unfolding smalls
returns-then-letter-eq0 c = ap letter_of (sym c.if-letter-eq0.true ∙ c.entry-letter.ensures ∙ second_everywhere c.args.self)

pub returns-else-letter-eq0 : goal.returns-else-letter-eq0
unfolding smalls
returns-else-letter-eq0 c = some _ c.if-letter-eq0.false ∙ ap letter_of (c.entry-letter.ensures ∙ second_everywhere c.args.self)

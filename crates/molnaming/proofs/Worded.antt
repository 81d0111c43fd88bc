-- The words of a refusal whose number has none of its own.
use mathlib.Core.Path.{◌≡◌}
use Prim.Native.Nat.{ℕ}
use borrow.Author.Tests.{ne_eqb}
use Rattle.lists.specs.Quoted as quoted
use Rattle.molnaming.specs.Lines.{words_of}

pub other_words : (r : ℕ) → (r ≡ 1 → ⊥) → (r ≡ 3 → ⊥) → (r ≡ 4 → ⊥) → (r ≡ 5 → ⊥) → (r ≡ 6 → ⊥) → (r ≡ 7 → ⊥) → (r ≡ 8 → ⊥) → (r ≡ 9 → ⊥) → (r ≡ 10 → ⊥)
    → (r ≡ 11 → ⊥) → quoted.bytes_of "not named" ≡ words_of r
unfolding words_of
other_words r a b c d e f g h i j =
    rw (
      ne_eqb r 1 a,
      ne_eqb r 3 b,
      ne_eqb r 4 c,
      ne_eqb r 5 d,
      ne_eqb r 6 e,
      ne_eqb r 7 f,
      ne_eqb r 8 g,
      ne_eqb r 9 h,
      ne_eqb r 10 i,
      ne_eqb r 11 j,
    )

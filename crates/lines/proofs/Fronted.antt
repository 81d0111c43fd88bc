-- Bytes at the start of a buffer, one more at a time as a loop stores them.
use mathlib.Core.List.{List, [], ◌++◌}
use mathlib.Core.Path.{◌≡◌, refl, sym, ap, ◌∙◌}
use Prim.Native.Nat.{ℕ, suc, ◌+◌, ◌<◌}
use native.Mathlib.Numerals.{add-one}
use lib.ListN.{length, get_or, set, drop}
use lib.Seq.{drop-cons, set_at, append_snoc}
use Rattle.lists.specs.Upto.{each}
use Rattle.lists.proofs.Upto.{length-each}
use Rattle.lists.proofs.Steps.{each-zero, each_next}
use Rattle.lines.specs.Written.{fronted, Prints}

pub prints_none : (o : List ℕ) → Prints [] o o 0
unfolding fronted
prints_none o = record { long = refl; is = refl }

module _ (f : ℕ → ℕ) (o : List ℕ) where
  fronted-each : (k : ℕ) → fronted (each k f) o ≡ each k f ++ drop k o
  unfolding fronted
  fronted-each k = ap (λ (n : ℕ). each k f ++ drop n o) (length-each k f)

  pub each_none : o ≡ fronted (each 0 f) o
  unfolding fronted
  each_none = rw (each-zero f)

  pub each_more : (k : ℕ) → k < length o → set (fronted (each k f) o) k (f k) ≡ fronted (each (k + 1) f) o
  each_more k h =
      ap (λ (l : List ℕ). set l k (f k)) (fronted-each k ∙ ap (λ (l : List ℕ). each k f ++ l) (drop-cons o k 0 h))
      ∙ set_at (each k f) (get_or o k 0) (drop (suc k) o) (f k) k (length-each k f)
      ∙ sym (append_snoc (each k f) (f k) (drop (suc k) o))
      ∙ ap (λ (l : List ℕ). l ++ drop (suc k) o) (sym (each_next k f))
      ∙ sym (fronted-each (suc k))
      ∙ ap (λ (n : ℕ). fronted (each n f) o) (sym (add-one k))

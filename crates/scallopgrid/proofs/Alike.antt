-- What is written and answered does not depend on which of two like molecules is seen.
use mathlib.Core.List.{List}
use mathlib.Core.Path.{◌≡◌, refl}
use Prim.Native.Nat.{ℕ}
use Rattle.std.specs.Prelude.{Result, Ok, Err, IfOk}
use Rattle.refusal.specs.declared.Refused.{Refused}
use Rattle.refusal.specs.Numbers.{refused_in}
use Rattle.molecule.specs.Molecule.{Molecule}
use Rattle.molecule.specs.Renumbering.{Renumbered}
use Rattle.molecule.proofs.Renumberings.{renumbered_refl}
use Rattle.molecule.proofs.Sound.{Sound}
use Rattle.molecule.proofs.Alike.{sound-along}
use Rattle.classes.specs.Refining.{rule1}
use Rattle.classes.specs.Canonical.{canonical}
use Rattle.table.specs.declared.Table.{Table}
use Rattle.table.specs.View.{view_of, TidyTable}
use Rattle.rules.specs.Answers.{in_room, numbered, name_out, canonical_out, marks_out}
use Rattle.rules.proofs.Through.{leaves-through, marks-through, name-through, card-through}
use Rattle.outputs.specs.Numbered.{Listed}

-- the three that are written
module _ {M N : Molecule} (E : Renumbered (λ a. a) M N) (S : Sound M) where
  pub name_out-alike : name_out N ≡ name_out M
  unfolding name_out
  name_out-alike = name-through E (renumbered_refl (canonical rule1 N)) S.some

  pub canonical_out-alike : canonical_out N ≡ canonical_out M
  unfolding canonical_out
  canonical_out-alike = card-through E (renumbered_refl (canonical rule1 N))

  pub marks_out-alike : marks_out N ≡ marks_out M
  unfolding marks_out
  marks_out-alike = marks-through E

-- the answer
pub numbered-alike : (bytes : Molecule → List ℕ) (allowance room : ℕ) (M N : Molecule) → Renumbered (λ a. a) M N → bytes N ≡ bytes M
    → numbered bytes allowance room N ≡ numbered bytes allowance room M
unfolding numbered in_room
numbered-alike bytes allowance room M N E e = rw (leaves-through E, e)

-- a reader's table is listed where the molecule that it reads is sound
pub listed : (M : Molecule) (read : Result Table Refused) → IfOk read TidyTable → IfOk read (λ t. Renumbered (λ a. a) M (view_of t)) → (refused_in read ≡ 0 → Sound M)
    → IfOk read Listed
listed M (Ok t) T E S = record { tidy = T; sound = sound-along E (S refl) }
listed M (Err p) T E S = tt

-- A table with its numbering, put in rank order: what is then written is what the answers ask for, since each step's view is the last one's.
use mathlib.Core.Path.{◌≡◌, sym, subst}
use Prim.Native.Nat.{ℕ, ◌<◌, ◌≤◌}
use Rattle.molecule.specs.Molecule.{Molecule, kind}
use Rattle.molecule.specs.Renumbering.{Renumbered}
use Rattle.molecule.specs.Written.{card_bytes}
use Rattle.molecule.proofs.Renumberings.{renumbered_refl}
use Rattle.molecule.proofs.Sound.{Sound}
use Rattle.molecule.proofs.Alike.{sound-along}
use Rattle.classes.specs.Refining.{rule1}
use Rattle.classes.specs.Canonical.{by_rank, canonical}
use Rattle.classes.proofs.Canonical.{canonical-renumbered}
use Rattle.classes.proofs.Complete.{Complete}
use Rattle.sling.specs.Printed.{name_bytes}
use Rattle.sling.proofs.Names.{name-length}
use Rattle.table.specs.declared.Table.{Table}
use Rattle.table.specs.Arrays.{as_molecule}
use Rattle.table.specs.View.{view_of, TidyTable}
use Rattle.numbering.specs.declared.Numbering.{Numbering}
use Rattle.numbering.specs.Views.{ranks_of, marks_of}
use Rattle.numbering.specs.Renumber.{Plain}
use Rattle.numbering.proofs.Answers.{best-complete, best-canonical}
use Rattle.writing.specs.Nameable.{Nameable}
use Rattle.writing.proofs.Top.{sound-nameable}
use Rattle.rules.specs.Answers.{name_out, canonical_out, marks_out}
use Rattle.rules.proofs.Through.{name-through, card-through}
use Rattle.outputs.specs.Numbered.{Ready}

module _ (t : Table) (n : Numbering) (R : Ready t n) where
  abbrev Seen : Molecule
  Seen = view_of t

  pub plain : Plain t × (n.best.n ≡ t.n) × Complete n.best.n (ranks_of n.best)
  unfolding as_molecule
  plain = (
    record { tidy = R.listed.tidy; even = R.listed.sound.even; apart = R.listed.sound.apart },
    R.numbers.best_size,
    subst (λ (k : ℕ). Complete k (ranks_of n.best)) (sym R.numbers.best_size) (best-complete Seen n R.numbers),
  )

  pub marks-few : n.marks.n ≤ 64
  marks-few = subst (λ (k : ℕ). k ≤ 64) (sym R.numbers.marks_size) R.listed.sound.atoms

  pub marks-are : marks_of n.marks ≡ marks_out Seen
  unfolding marks_out
  marks-are = R.numbers.marks

  module _ (u : Table) (T : TidyTable u) (F : Renumbered (λ a. a) (by_rank Seen (ranks_of n.best)) (view_of u)) where
    canonical-view : Renumbered (λ a. a) (canonical rule1 Seen) (view_of u)
    canonical-view = subst (λ (W : Molecule). Renumbered (λ a. a) W (view_of u)) (best-canonical Seen n R.numbers) F

    sound-ranked : Sound (view_of u)
    sound-ranked = sound-along canonical-view (sound-along (canonical-renumbered rule1 Seen).1 R.listed.sound)

    pub known : (a : ℕ) → a < (view_of u).size → kind (view_of u) a ≤ 24
    known = sound-ranked.known

    pub nameable : Nameable u
    nameable = sound-nameable u T sound-ranked (name-length (view_of u) sound-ranked)

    pub name-is : name_bytes (view_of u) ≡ name_out Seen
    name-is = name-through (renumbered_refl Seen) canonical-view R.listed.sound.some

    pub card-is : card_bytes (view_of u) ≡ canonical_out Seen
    card-is = card-through (renumbered_refl Seen) canonical-view

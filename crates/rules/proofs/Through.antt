-- What is worked out on a view of the card's molecule, and on a view of the view's canonical molecule, is what the answers ask for: the law that a
-- program's steps are put together by.
use mathlib.Core.Path.{◌≡◌, sym, ◌∙◌, ap}
use Prim.Native.Nat.{◌<◌}
use Rattle.lists.specs.Upto.{each}
use Rattle.lists.proofs.Upto.{each-eq}
use Rattle.molecule.specs.Molecule.{Molecule}
use Rattle.molecule.specs.Renumbering.{Renumbered}
use Rattle.molecule.specs.Written.{card_bytes}
use Rattle.molecule.proofs.Alike.{card_bytes-alike}
use Rattle.molecule.proofs.Renumberings.{renumbered_trans}
use Rattle.classes.specs.Refining.{rule1}
use Rattle.classes.specs.Numberings.{leaf_count}
use Rattle.classes.specs.Canonical.{class_mark, by_rank, canonical}
use Rattle.classes.proofs.Carried.{rule1-law}
use Rattle.classes.proofs.Renumbered.{leaf_count-renumbered, class_mark-renumbered}
use Rattle.classes.proofs.Canonical.{canonical-unchanged}
use Rattle.sling.specs.Printed.{name_bytes}
use Rattle.sling.proofs.Alike.{name-alike}
use Rattle.rules.specs.Answers.{name_out, canonical_out, marks_out}

module _ {M N : Molecule} (E : Renumbered (λ a. a) M N) where
  pub leaves-through : leaf_count rule1 N ≡ leaf_count rule1 M
  leaves-through = leaf_count-renumbered rule1 rule1-law E

  pub marks-through : each N.size (class_mark rule1 N) ≡ marks_out M
  unfolding marks_out
  marks-through = ap (λ n. each n (class_mark rule1 N)) E.size ∙ each-eq M.size (class_mark rule1 N) (class_mark rule1 M) (class_mark-renumbered rule1 rule1-law E)

  module _ {W : Molecule} (F : Renumbered (λ a. a) (canonical rule1 N) W) where
    canonical-through : Renumbered (λ a. a) (canonical rule1 M) W
    canonical-through = renumbered_trans (canonical-unchanged rule1 rule1-law E) F

    pub name-through : 0 < M.size → name_bytes W ≡ name_out M
    unfolding name_out canonical by_rank
    name-through h = sym (name-alike (canonical rule1 M) W canonical-through h)

    pub card-through : card_bytes W ≡ canonical_out M
    unfolding canonical_out
    card-through = sym (card_bytes-alike canonical-through)

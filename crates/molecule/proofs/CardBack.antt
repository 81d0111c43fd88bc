-- A sound molecule's card is well formed, and lists the molecule that it was written from.
use mathlib.Core.List.{[], ◌∷◌}
use mathlib.Core.Path.{◌≡◌, sym, ◌∙◌, ap, subst}
use Prim.Native.Nat.{ℕ, ◌<◌}
use native.Mathlib.Omega.{arith}
use lib.ListN.{length}
use lib.Seq.{take-length}
use Rattle.lists.proofs.Sums.{sum-eq}
use Rattle.molecule.specs.Bonds.{code_in}
use Rattle.molecule.specs.Layout.{atom_count, kind_at, hydrogens_at, bond_count, bond_at, bonds_to}
use Rattle.molecule.specs.Judged.{WellFormed, molecule_of}
use Rattle.molecule.specs.Molecule.{Molecule, kind, hydrogens}
use Rattle.molecule.specs.Renumbering.{Renumbered}
use Rattle.molecule.specs.Written.{card_bytes}
use Rattle.molecule.proofs.Sound.{Sound}
use Rattle.molecule.proofs.KindsTable.{kind_of_number-number_of}
use Rattle.molecule.proofs.Renumberings.{renumbered_refl}
use Rattle.molecule.proofs.Connected.{linked-connected}
use Rattle.molecule.proofs.Judging.{Fits, Checks, checks_well_formed}
use Rattle.molecule.proofs.Alike.{sound-along}
use Rattle.molecule.proofs.BondsOf.{bonds_of, bonds_of-code}
use Rattle.molecule.proofs.BondsFit.{bonds_of-few, bonds_of-fits}
use Rattle.molecule.proofs.CardRead.{no_bond, card, card_bytes-card, card-in_layout, card-atom_count, card-kind_at, card-hydrogens_at, card-bond_count, card-bond_at, card-bonds_to}

module _ (M : Molecule) (S : Sound M) where
  kind-back : (a : ℕ) → a < M.size → kind_at (card M) a ≡ kind M a
  kind-back a h = card-kind_at M a h ∙ kind_of_number-number_of (kind M a) (S.known a h)

  bonds-back : bonds_to (card M) (bond_count (card M)) ≡ bonds_of M
  bonds-back = ap (bonds_to (card M)) (card-bond_count M) ∙ card-bonds_to M (length (bonds_of M)) (omega arith) ∙ take-length (bonds_of M)

  molecule_back : Renumbered (λ a. a) M (molecule_of (card M))
  unfolding molecule_of
  molecule_back = record {
    size = card-atom_count M;
    shuffle = (renumbered_refl M).shuffle;
    label = λ a h. (λ i. kind-back a h i ∷ card-hydrogens_at M a h i ∷ []) ∙ sym (S.labels a h);
    code = λ a b h k. ap (λ bs. code_in bs a b) bonds-back ∙ bonds_of-code M S.even S.apart a b h k;
  }

  back-sound : Sound (molecule_of (card M))
  back-sound = sound-along molecule_back S

  inside : (a : ℕ) → a < atom_count (card M) → a < M.size
  inside a h = omega (arith, card-atom_count M)

  fits : (k : ℕ) → k < bond_count (card M) → Fits (atom_count (card M)) (bonds_to (card M) k) (bond_at (card M) k)
  fits k h =
      let l : k < length (bonds_of M) = omega (arith, card-bond_count M) in
      rw (card-atom_count M, card-bonds_to M k (omega arith), card-bond_at M k l) (bonds_of-fits M S k no_bond l)

  checks : Checks (card M)
  checks = record {
    layout = card-in_layout M;
    some = omega (arith, card-atom_count M, S.some);
    atoms = omega (arith, card-atom_count M, S.atoms);
    bonds = omega (arith, card-bond_count M, bonds_of-few M S);
    low = λ a h. omega (arith, kind-back a (inside a h), S.low a (inside a h));
    known = λ a h. omega (arith, kind-back a (inside a h), S.known a (inside a h));
    few = λ a h. omega (arith, card-hydrogens_at M a (inside a h), S.few a (inside a h));
    total = rw (card-atom_count M) (omega (arith, sum-eq M.size (hydrogens_at (card M)) (hydrogens M) (card-hydrogens_at M), S.hydrogens));
    fits = fits;
    connected = linked-connected (molecule_of (card M)) back-sound.even back-sound.some back-sound.linked;
  }

  pub card-well_formed : WellFormed (card_bytes M)
  card-well_formed = subst WellFormed (sym (card_bytes-card M)) (checks_well_formed (card M) checks)

  pub card-back : Renumbered (λ a. a) M (molecule_of (card_bytes M))
  card-back = subst (λ s. Renumbered (λ a. a) M (molecule_of s)) (sym (card_bytes-card M)) molecule_back

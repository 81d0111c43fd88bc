-- A molecule within the limits, and its counts: they do not change when it is renumbered, and for the molecule folded from a reader they are
-- the reader's own.
use mathlib.Core.Path.{◌≡◌, refl, ap, subst}
use mathlib.Core.Bool.{Bool, true, false, not, ◌&&◌}
use Prim.Native.Nat.{ℕ, ◌<◌, ◌≤◌}
use native.Mathlib.Omega.{arith}
use lib.ListN.{length, get_or}
use Rattle.lists.specs.Upto.{upto, each, sum}
use Rattle.lists.proofs.Booleans.{and_both}
use Rattle.lists.proofs.Kept.{mem_keep}
use Rattle.lists.proofs.Upto.{mem_upto}
use Rattle.lists.proofs.Passed.{count-map_le}
use Rattle.lists.proofs.Members.{mem_place}
use Rattle.molecule.specs.Bonds.{on}
use Rattle.molecule.specs.Molecule.{Molecule, hydrogens, neighbours}
use Rattle.molecule.specs.Renumbering.{Renumbered}
use Rattle.molecule.proofs.Sound.{Sound}
use Rattle.molecule.proofs.Alike.{over, hydrogens-along, degree-along, sum-along}
use Rattle.sling.specs.Reading.{State, is_h, to_h, hydrogens_on, bonds_on}
use Rattle.sling.specs.Folded.{heavy_places, folded, lone_h}
use Rattle.sling.proofs.Tidy.{Tidy, heavy-within}
use Rattle.sling.proofs.Folds.{folded-size, folded-degree, folded-bonds, folded-hydrogens}
use Rattle.sling.proofs.Limits.{Room}

pub record Fits (M : Molecule) : Type 0 where
  pub atoms : M.size ≤ 64
  pub few : (a : ℕ) → a < M.size → hydrogens M a ≤ 4
  pub hydrogens : sum (each M.size (hydrogens M)) ≤ 128
  pub bonds : sum (each M.size (λ a. length (neighbours M a))) ≤ 160
  pub degrees : (a : ℕ) → a < M.size → length (neighbours M a) ≤ 6

pub sound-fits : (M : Molecule) → Sound M → Fits M
sound-fits M S = record { atoms = S.atoms; hydrogens = S.hydrogens; bonds = S.bonds; few = S.few; degrees = S.degrees }

pub fits_along : {σ : ℕ → ℕ} {M M' : Molecule} → Renumbered σ M M' → Fits M → Fits M'
fits_along {M = M} {M' = M'} E F =
    record {
      atoms = omega (arith, E.size, F.atoms);
      hydrogens = omega (arith, sum-along E (hydrogens M) (hydrogens M') (hydrogens-along E), F.hydrogens);
      bonds = omega (arith, sum-along E (λ a. length (neighbours M a)) (λ a. length (neighbours M' a)) (degree-along E), F.bonds);
      few = over E (λ a. hydrogens M' a ≤ 4) (λ a h. omega (arith, hydrogens-along E a h, F.few a h));
      degrees = over E (λ a. length (neighbours M' a) ≤ 6) (λ a h. omega (arith, degree-along E a h, F.degrees a h));
    }

-- the atom at a heavy place
pub atom-at : (st : State) (p : ℕ) → is_h st p ≡ false → (a : ℕ) × (a < (folded st).size) × (get_or (heavy_places st) a 0 ≡ p)
unfolding folded heavy_places
atom-at st p e =
    let p-in = mem_upto (length st.kinds) p (heavy-within st.kinds p e) in
    mem_place (heavy_places st) p 0 (mem_keep (λ q. not (is_h st q)) (upto (length st.kinds)) p p-in (ap not e))

module _ (st : State) (t : Tidy st.kinds st.bonds) (lone : lone_h st ≡ false) where
  pub room_fits : Room st → Fits (folded st)
  unfolding folded
  room_fits R =
      record {
        atoms = omega (arith, folded-size st t, R.atoms);
        hydrogens = omega (arith, folded-hydrogens st t lone, R.hydrogens);
        bonds = omega (arith, folded-bonds st t, R.bonds);
        few = λ a h. R.hydrogens_at (get_or (heavy_places st) a 0);
        degrees = λ a h. omega (arith, folded-degree st t a h, R.bonds_at (get_or (heavy_places st) a 0));
      }

  pub fits-room : Fits (folded st) → Room st
  unfolding folded
  fits-room F =
      record {
        atoms = omega (arith, folded-size st t, F.atoms);
        hydrogens = omega (arith, folded-hydrogens st t lone, F.hydrogens);
        bonds = omega (arith, folded-bonds st t, F.bonds);
        hydrogens_at = λ p. hs p (is_h st p) refl;
        bonds_at = λ p. bs p (is_h st p) refl;
      }
    where
      hs : (p : ℕ) (b : Bool) → is_h st p ≡ b → hydrogens_on st p ≤ 4
      hs p true e = omega (arith, count-map_le st.bonds (λ b. on p b && to_h st b) (on p) (λ b m z. (and_both (on p b) _ z).0), t.leaf p e)
      hs p false e = let w = atom-at st p e in subst (λ (q : ℕ). hydrogens_on st q ≤ 4) w.2 (F.few w.0 w.1)

      bs : (p : ℕ) (b : Bool) → is_h st p ≡ b → bonds_on st p ≤ 6
      bs p true e = omega (arith, count-map_le st.bonds (λ b. on p b && not (to_h st b)) (on p) (λ b m z. (and_both (on p b) _ z).0), t.leaf p e)
      bs p false e = let w = atom-at st p e in subst (λ (q : ℕ). bonds_on st q ≤ 6) w.2 (omega (arith, folded-degree st t w.0 w.1, F.degrees w.0 w.1))

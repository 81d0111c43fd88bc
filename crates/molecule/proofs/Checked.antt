-- A well-formed card's molecule is sound: what holds of each listed bond holds of the codes, an atom has no more neighbours than listed bonds, and
-- all atoms together have two for each listed bond.
use mathlib.Core.Bool.{Bool, true, false, cond}
use mathlib.Core.List.{List, map, Memᴰ}
use mathlib.Core.Path.{◌≡◌, refl, ◌∙◌, ap, subst}
use Prim.Native.Nat.{ℕ, zero, suc, ◌+◌, ◌<◌, ◌≤◌}
use native.Mathlib.Omega.{arith}
use lib.Dec.{eqb}
use lib.ListN.{length}
use borrow.Author.Tests.{eqb-true}
use Rattle.lists.specs.Upto.{each}
use Rattle.lists.specs.Tests.{count}
use Rattle.lists.proofs.Upto.{of_each, length-each}
use Rattle.lists.proofs.Steps.{each-zero, each_next}
use Rattle.lists.proofs.Passed.{count-snoc}
use Rattle.lists.proofs.Sums.{sum-le}
use Rattle.molecule.specs.Bonds.{Bond, on}
use Rattle.molecule.specs.Molecule.{neighbours}
use Rattle.molecule.specs.Layout.{atom_count, bond_count, bond_at, bonds_to}
use Rattle.molecule.specs.Judged.{WellFormed, molecule_of}
use Rattle.molecule.proofs.Sound.{Sound}
use Rattle.molecule.proofs.Neighbours.{length-neighbours}
use Rattle.molecule.proofs.Connected.{connected-linked}
use Rattle.molecule.proofs.BondLists.{Ends, code_in-swap, code_in-le, code_in-self, coded-few, sum-on}
use Rattle.molecule.proofs.Judging.{Fits, Checks, well_formed-checks}

module _ (s : List ℕ) (C : Checks s) where
  abbrev bonds : List Bond
  bonds = bonds_to s (bond_count s)

  listed : (b : Bond) → Memᴰ b bonds → Ends (atom_count s) b × (b.code ≤ 4)
  unfolding bonds_to
  listed b m =
      let w = of_each (bond_count s) (bond_at s) b m in
      let F = C.fits w.0 w.1 in
      subst (λ c. Ends (atom_count s) c × (c.code ≤ 4)) w.2 (F.ends, F.known)

  bonds-on : (k p : ℕ) → k ≤ bond_count s → count (map (on p) (bonds_to s k)) ≤ 6
  unfolding bonds_to
  bonds-on zero p h = rw (each-zero (bond_at s)) (omega arith)
  bonds-on (suc k) p h = go (eqb (bond_at s k).one p) (eqb (bond_at s k).two p) refl refl (bonds-on k p (omega arith))
    where
      F : Fits (atom_count s) (bonds_to s k) (bond_at s k)
      F = C.fits k h

      more : count (map (on p) (each (suc k) (bond_at s))) ≡ count (map (on p) (each k (bond_at s))) + cond (on p (bond_at s k)) 1 0
      more = ap (λ l. count (map (on p) l)) (each_next k (bond_at s)) ∙ count-snoc (on p) (each k (bond_at s)) (bond_at s k)

      go : (t u : Bool) → eqb (bond_at s k).one p ≡ t → eqb (bond_at s k).two p ≡ u → count (map (on p) (bonds_to s k)) ≤ 6 → count (map (on p) (bonds_to s (suc k))) ≤ 6
      go true u e f ih =
          let r : count (map (on p) (bonds_to s k)) < 6 = subst (λ q. count (map (on q) (bonds_to s k)) < 6) (eqb-true _ p e) F.room-one in
          rw (more, e) (omega arith)
      go false true e f ih =
          let r : count (map (on p) (bonds_to s k)) < 6 = subst (λ q. count (map (on q) (bonds_to s k)) < 6) (eqb-true _ p f) F.room-two in
          rw (more, e, f) (omega arith)
      go false false e f ih = rw (more, e, f) (omega arith)

  degree-on : (a : ℕ) → length (neighbours (molecule_of s) a) ≤ count (map (on a) bonds)
  unfolding molecule_of
  degree-on a = omega (arith, length-neighbours (molecule_of s) a, coded-few bonds (atom_count s) a)

  pub checks_sound : Sound (molecule_of s)
  unfolding molecule_of bonds_to
  checks_sound =
      record {
        some = C.some;
        atoms = C.atoms;
        labels = λ a h. refl;
        low = C.low;
        known = C.known;
        few = C.few;
        hydrogens = C.total;
        codes = λ a b h k. code_in-le bonds a b 4 (λ c m. (listed c m).1);
        apart = λ a h. code_in-self bonds a (λ c m. (listed c m).0.2);
        even = λ a b h k. code_in-swap bonds a b;
        degrees = λ a h. omega (arith, degree-on a, bonds-on (bond_count s) a (omega arith));
        bonds =
            omega (
              arith,
              sum-le (atom_count s) (λ a. length (neighbours (molecule_of s) a)) (λ a. count (map (on a) bonds)) (λ a h. degree-on a),
              sum-on (atom_count s) bonds (λ b m. (listed b m).0),
              length-each (bond_count s) (bond_at s),
              C.bonds,
            );
        linked = connected-linked (molecule_of s) (λ a b h k. code_in-swap bonds a b) C.connected;
      }

pub well_formed-sound : (s : List ℕ) → WellFormed s → Sound (molecule_of s)
well_formed-sound s w = checks_sound s (well_formed-checks s w)

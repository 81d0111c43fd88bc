-- The molecule that a drawing folds to, where no check refuses it, is sound: its atoms are the places that hold no H, and between two of them the
-- bonds to H count for nothing.
use mathlib.Core.Bool.{Bool, true, false, not, ◌&&◌}
use mathlib.Core.List.{List, map}
use mathlib.Core.Logic.{◌≢◌}
use mathlib.Core.Path.{◌≡◌, refl, sym, ◌∙◌, ap}
use Prim.Native.Nat.{ℕ, ◌<◌, ◌≤◌}
use native.Mathlib.Omega.{arith}
use lib.Dec.{eqb}
use lib.ListN.{length, get_or}
use borrow.Author.Tests.{eqb-false, not-true}
use Rattle.lists.specs.Upto.{upto, each, sum}
use Rattle.lists.specs.Tests.{keep, count}
use Rattle.lists.proofs.Booleans.{and_both}
use Rattle.lists.proofs.Counts.{count-le}
use Rattle.lists.proofs.Kept.{of_keep}
use Rattle.lists.proofs.Passed.{length-keep, count-keep}
use Rattle.lists.proofs.Sums.{sum-le, sum-keep_le}
use Rattle.lists.proofs.Upto.{each-get_or}
use Rattle.molecule.specs.Bonds.{Bond, on, code_in}
use Rattle.molecule.specs.Molecule.{neighbours}
use Rattle.molecule.proofs.Sound.{Sound}
use Rattle.molecule.proofs.Neighbours.{length-neighbours}
use Rattle.molecule.proofs.Connected.{connected-linked}
use Rattle.molecule.proofs.BondLists.{code_in-swap, code_in-le, code_in-self, code_in-keep, coded-few, sum-on}
use Rattle.sling.specs.Reading as text
use Rattle.sling.specs.Folded as fold
use Rattle.sling.specs.Folded.{heavy_places}
use Rattle.ctfile.specs.Filed.{Drawing}
use Rattle.ctfile.specs.Drawings.{is_h, to_h, as_read, folded, drawing_fault}
use Rattle.ctfile.proofs.Clean.{Clean}
use Rattle.ctfile.proofs.Judging.{checks}
use Rattle.ctfile.proofs.Checked.{clean, to_h-ends}
use Rattle.ctfile.proofs.AsText.{kind-there, h_there}
use Rattle.ctfile.proofs.HeavyPlaces.{places, place, place-there, folded-size}

module _ (d : Drawing) (C : Clean d) where
  abbrev n : ℕ
  n = length d.kinds

  abbrev heavy : ℕ → Bool
  heavy p = not (text.is_h (as_read d) p)

  -- the bonds without an H at an end
  abbrev rest : List Bond
  rest = keep (λ b. not (to_h d b)) d.bonds

  abbrev near : ℕ → ℕ → Bool
  near p q = not (eqb (code_in d.bonds p q) 0)

  -- between two that are no H, the bonds to H do not count
  code-rest : (p q : ℕ) → is_h d p ≡ false → is_h d q ≡ false → code_in d.bonds p q ≡ code_in rest p q
  code-rest p q e f = code_in-keep (λ b. not (to_h d b)) p q d.bonds (λ b m j. rw (to_h-ends d p q b j, e, f))

  -- an atom has no more neighbours than bonds without an H
  degree : (a : ℕ) → a < (folded d).size → length (neighbours (folded d) a) ≤ count (map (on (place d a)) rest)
  unfolding folded fold.folded heavy_places each
  degree a h =
      omega (
        arith,
        length-neighbours (folded d) a,
        ap count (each-get_or (near (place d a)) (places d) 0),
        count-keep heavy (near (place d a)) (upto n),
        count-le n (λ q. heavy q && near (place d a) q) (λ q. not (eqb (code_in rest (place d a) q) 0)) passes,
        coded-few rest n (place d a),
      )
    where
      passes : (q : ℕ) → q < n → (heavy q && near (place d a) q) ≡ true → not (eqb (code_in rest (place d a) q) 0) ≡ true
      passes q l e =
          let w = and_both (heavy q) (near (place d a) q) e in
          rw (← (code-rest (place d a) q (place-there d a h).1 (sym (h_there d q l) ∙ not-true _ w.0))) w.1

  -- and all atoms together no more than two for each
  degrees : sum (each (folded d).size (λ a. length (neighbours (folded d) a))) ≤ 160
  unfolding folded fold.folded heavy_places each
  degrees =
      omega (
        arith,
        sum-le (folded d).size (λ a. length (neighbours (folded d) a)) (λ a. count (map (on (place d a)) rest)) degree,
        ap sum (each-get_or (λ p. count (map (on p) rest)) (places d) 0),
        sum-keep_le (λ p. count (map (on p) rest)) heavy (upto n),
        sum-on n rest (λ b m. let i = (of_keep (λ b. not (to_h d b)) d.bonds b m).0 in ((C.ends b i).0, (C.ends b i).1, C.apart b i)),
        length-keep (λ b. not (to_h d b)) d.bonds,
        C.bonds,
      )

pub folded-sound : (d : Drawing) → drawing_fault d ≡ 0 → Sound (folded d)
unfolding folded fold.folded
folded-sound d e =
    let C = clean d e in
    let K = checks d e in
    record {
      some = omega (arith, folded-size d, C.some);
      atoms = omega (arith, folded-size d, C.atoms);
      labels = λ a h. refl;
      low = λ a h.
          let w = place-there d a h in
          let z : get_or d.kinds (place d a) 25 ≢ 0 = eqb-false _ 0 w.1 in
          omega (arith, kind-there d (place d a) w.0);
      known = λ a h. let i = (place-there d a h).0 in omega (arith, kind-there d (place d a) i, C.known (place d a) i);
      few = K.few;
      hydrogens = K.total;
      codes = λ a b h k. code_in-le d.bonds (place d a) (place d b) 4 (λ c m. (C.coded c m).1);
      apart = λ a h. code_in-self d.bonds (place d a) C.apart;
      even = λ a b h k. code_in-swap d.bonds (place d a) (place d b);
      degrees = λ a h. omega (arith, degree d C a h, C.six (place d a));
      bonds = degrees d C;
      linked = connected-linked (folded d) (λ a b h k. code_in-swap d.bonds (place d a) (place d b)) K.connected;
    }

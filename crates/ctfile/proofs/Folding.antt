-- A renumbering of a drawing's atoms, H among them, is one of the atoms that are left when the H are folded: an atom goes to the one whose place
-- its own place went to.
use mathlib.Core.Bool.{Bool, false, not, ◌&&◌}
use mathlib.Core.List.{[], ◌∷◌}
use mathlib.Core.Path.{◌≡◌, sym, ap, ap₂, ◌∙◌}
use Prim.Native.Nat.{ℕ, ◌<◌}
use native.Mathlib.Omega.{arith}
use lib.Dec.{eqb}
use lib.ListN.{length, get_or, length-map}
use Rattle.lists.specs.Upto.{upto, each}
use Rattle.lists.specs.Tests.{keep, count}
use Rattle.lists.specs.Shuffle.{Shuffle}
use Rattle.lists.proofs.Permutation.{count-perm, length-perm}
use Rattle.lists.proofs.Shuffled.{each-perm, keep-shuffle}
use Rattle.molecule.specs.Bonds.{code_in}
use Rattle.molecule.specs.Renumbering.{Renumbered}
use Rattle.sling.specs.Reading.{hydrogens_on}
use Rattle.sling.specs.Reading as reader
use Rattle.sling.specs.Folded.{heavy_places}
use Rattle.sling.specs.Folded as text
use Rattle.sling.specs.Walk.{place_in}
use Rattle.sling.proofs.Places.{On, rank_at, places-apart, mem_on}
use Rattle.ctfile.specs.Filed.{Drawing}
use Rattle.ctfile.specs.Drawings.{is_h, as_read, folded}
use Rattle.ctfile.specs.Promises.{drawn}
use Rattle.ctfile.proofs.Clean.{Clean}
use Rattle.ctfile.proofs.AsText.{kind-there, h_there}
use Rattle.ctfile.proofs.Hydrogens.{hydrogens-by_code}
use Rattle.ctfile.proofs.HeavyPlaces.{places, place, place-apart, place-there, mem_places}

module _ {σ : ℕ → ℕ} (d d' : Drawing) (E : Renumbered σ (drawn d) (drawn d')) where
  there : (p : ℕ) → p < length d.kinds → σ p < length d'.kinds
  there p h = omega (arith, E.size, E.shuffle.within p h)

  kind-along : (p : ℕ) → p < length d.kinds → get_or d'.kinds (σ p) 25 ≡ get_or d.kinds p 25
  kind-along p h = ap (λ l. get_or l 0 25) (E.label p h)

  h_along : (p : ℕ) → p < length d.kinds → is_h d' (σ p) ≡ is_h d p
  h_along p h = ap (λ k. eqb k 0) (kind-along p h)

  -- the atom that an atom goes to
  abbrev pub goes_to : ℕ → ℕ
  goes_to a = place_in (places d') (σ (place d a))

  on-places : (a : ℕ) → a < length (places d) → On (places d') (σ (place d a))
  on-places a h =
      let w = place-there d a h in
      mem_on (places d') (σ (place d a)) (mem_places d' (σ (place d a)) (there (place d a) w.0) (h_along (place d a) w.0 ∙ w.1))

  place-along : (a : ℕ) → a < length (places d) → place d' (goes_to a) ≡ σ (place d a)
  place-along a h = rank_at (places d') (σ (place d a)) (on-places a h)

  as_many : length (places d') ≡ length (places d)
  unfolding heavy_places
  as_many =
      ap (λ n. length (keep heavy' (upto n))) E.size
      ∙ length-perm (keep-shuffle E.shuffle heavy heavy' (λ p h. ap not (h_there d' (σ p) (there p h) ∙ h_along p h ∙ sym (h_there d p h))))
      ∙ length-map (places d) σ
    where
      heavy : ℕ → Bool
      heavy p = not (reader.is_h (as_read d) p)

      heavy' : ℕ → Bool
      heavy' p = not (reader.is_h (as_read d') p)

  shuffled : Shuffle goes_to (length (places d))
  shuffled = record {
    within = λ a h. omega (arith, as_many, on-places a h);
    apart = λ a b h k e.
        place-apart d a b h k
        (E.shuffle.apart (place d a) (place d b) (place-there d a h).0 (place-there d b k).0
        (places-apart (places d') (σ (place d a)) (σ (place d b)) (on-places a h) (on-places b k) e));
  }

  module _ (C : Clean d) (C' : Clean d') where
    hydrogens-along : (p : ℕ) → p < length d.kinds → is_h d p ≡ false → hydrogens_on (as_read d') (σ p) ≡ hydrogens_on (as_read d) p
    hydrogens-along p h e =
        hydrogens-by_code d' C' (σ p) (there p h) (h_along p h ∙ e)
        ∙ ap (λ n. count (each n on')) E.size
        ∙ count-perm (each-perm E.shuffle on on' (λ q k. ap₂ (λ (x : Bool) (c : ℕ). x && not (eqb c 0)) (h_along q k) (E.code p q h k)))
        ∙ sym (hydrogens-by_code d C p h e)
      where
        on : ℕ → Bool
        on q = is_h d q && not (eqb (code_in d.bonds p q) 0)

        on' : ℕ → Bool
        on' q = is_h d' q && not (eqb (code_in d'.bonds (σ p) q) 0)

    pub folded-renumbered : Renumbered goes_to (folded d) (folded d')
    unfolding folded text.folded
    folded-renumbered = record {
      size = as_many;
      shuffle = shuffled;
      label = λ a h.
          let w = place-there d a h in
          rw (place-along a h, kind-there d' (σ (place d a)) (there (place d a) w.0), kind-there d (place d a) w.0)
          (λ i. kind-along (place d a) w.0 i ∷ hydrogens-along (place d a) w.0 w.1 i ∷ []);
      code = λ a b h k. rw (place-along a h, place-along b k) (E.code (place d a) (place d b) (place-there d a h).0 (place-there d b k).0);
    }

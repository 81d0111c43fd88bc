-- The name of a sound molecule is read back: it has at most 2,048 bytes, no item of it is refused, and the molecule folded from it is the one
-- that was named, renumbered by the order of writing.
use mathlib.Core.Path.{◌≡◌, refl, ap, ◌∙◌}
use mathlib.Core.Bool.{false}
use mathlib.Core.List.{[], ◌∷◌, map}
use Prim.Native.Nat.{ℕ, ◌<◌, ◌≤◌}
use native.Mathlib.Omega.{arith}
use lib.ListN.{length, get_or, length-append, get_or-append}
use lib.Dec.{eqb, ltb}
use borrow.Author.Tests.{ne_eqb, le-ltb}
use Rattle.lists.specs.Tests.{count}
use Rattle.lists.proofs.All.{All}
use Rattle.lists.proofs.Passed.{count-not}
use Rattle.lists.proofs.Tested.{some-true_count}
use Rattle.molecule.specs.Bonds.{joins}
use Rattle.molecule.specs.Molecule.{Molecule}
use Rattle.molecule.specs.Renumbering.{Renumbered}
use Rattle.molecule.proofs.Sound.{Sound}
use Rattle.sling.specs.Scanned.{tokens}
use Rattle.sling.specs.Reading.{State, start}
use Rattle.sling.specs.Faults.{run, finished}
use Rattle.sling.specs.Folded.{folded, lone_h, read_text}
use Rattle.sling.specs.Walk.{kind_at, written, place_in}
use Rattle.sling.specs.Printed.{name_bytes}
use Rattle.sling.proofs.Tokens.{Plain, tokens-bytes}
use Rattle.sling.proofs.Walks.{walk_run}
use Rattle.sling.proofs.Tidy.{Reader, reader_start, reader_walk}
use Rattle.sling.proofs.Folds.{bonds-count}
use Rattle.sling.proofs.Limits.{Room, room-kept}
use Rattle.sling.proofs.Fits.{sound-fits, fits_along, fits-room}
use Rattle.sling.proofs.Strokes.{Keeps, Near, keeps_put}
use Rattle.sling.proofs.Finished.{written_keeps, all_traced}
use Rattle.sling.proofs.Followed.{reader_of, written-follows, kind-at, kind-low}
use Rattle.sling.proofs.Order.{turn, written-folded}
use Rattle.sling.proofs.Lengths.{written-priced, walk_plain, bytes-long, bytes-some}

-- rank 1 has place 0
first-keeps : (W : Molecule) → Keeps W (λ w. (0 < length w.ranks) × (get_or w.ranks 0 0 ≡ 1))
first-keeps W =
    keeps_put W (λ w. (0 < length w.ranks) × (get_or w.ranks 0 0 ≡ 1))
    (λ r s k m w h p. (omega (arith, length-append w.ranks (s ∷ [])), get_or-append w.ranks (s ∷ []) 0 0 p.0 ∙ p.1)) (λ r s w n h k u p. p)

module _ (W : Molecule) (S : Sound W) where
  -- the state that the reader comes to
  unfoldable pub final : State
  final = reader_of W (written W) (written-follows W S).ups

  pub name-folded : Renumbered (turn W) W (folded final)
  unfolding final
  name-folded = written-folded W S (written-follows W S).ups

  pub final_reader : Reader final
  unfolding final
  final_reader = reader_walk (written-follows W S).walk reader_start

  pub final_heavy : lone_h final ≡ false
  unfolding final
  final_heavy =
      let p = written_keeps W S.some _ (first-keeps W) (omega arith, refl) in
      rw (kind-at W (written W).ranks 0, p.1, ne_eqb (kind_at W 1) 0 (λ e. omega (arith, kind-low W S 1 (record { low = omega arith; high = S.some }))))

  final_room : Room final
  final_room = fits-room final final_reader.tidy final_heavy (fits_along name-folded (sound-fits W S))

  final_plain : All Plain (written W).items
  unfolding final
  final_plain =
      walk_plain (written-follows W S).walk (written-priced W S.some).pointed
      (omega (arith, count-not (λ k. eqb k 0) final.kinds, final_room.atoms, final_room.hydrogens))

  -- "2,048 bytes hold any name."
  pub name-length : length (name_bytes W) ≤ 2048
  unfolding name_bytes final
  name-length =
      omega (
        arith,
        bytes-long false (written W).items final_plain,
        (written-priced W S.some).cheap,
        bonds-count final final_reader.tidy final_heavy,
        final_room.bonds,
        final_room.hydrogens,
      )

  name-some : 0 < length (name_bytes W)
  unfolding name_bytes
  name-some = bytes-some false (written W).items final_plain (written-priced W S.some).some

  name-run : run (tokens (name_bytes W) 0 0) start ≡ finished final
  unfolding name_bytes final
  name-run =
      ap (λ ts. run ts start) (tokens-bytes false (written W).items 0 final_plain)
      ∙ walk_run (written-follows W S).walk (room-kept (written-follows W S).walk reader_start final_room) 0 false

  -- every bond is traced once
  pub bond-once : (r s : ℕ) → Near W r s → count (map (joins (place_in (written W).ranks r) (place_in (written W).ranks s)) (written W).bonds) ≡ 1
  unfolding final
  bond-once r s n =
      omega (
        arith,
        some-true_count _ (all_traced W S.some S.linked r s n),
        final_reader.tidy.once (place_in (written W).ranks r) (place_in (written W).ranks s),
      )

  -- the name is accepted by all refusals and limits of the reader
  pub name-read : read_text (name_bytes W) ≡ finished final
  unfolding read_text
  name-read =
      let big : ltb 4096 (length (name_bytes W)) ≡ false = le-ltb 4096 (length (name_bytes W)) (omega (arith, name-length)) in
      let some : eqb (length (name_bytes W)) 0 ≡ false = ne_eqb (length (name_bytes W)) 0 (λ e. omega (arith, name-some)) in
      simp (some, big, name-run, final_heavy)

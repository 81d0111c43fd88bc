-- The molecule folded from what is written is the one that was written, its atoms renumbered by the order of writing.
use mathlib.Core.Path.{◌≡◌, sym, ap, ◌∙◌}
use mathlib.Core.Bool.{true, cond, not, ◌&&◌}
use mathlib.Core.List.{List, map, map-id}
use Prim.Native.Nat.{ℕ, zero, suc, ◌<◌, ◌≤◌}
use native.Mathlib.Omega.{arith}
use lib.ListN.{length, get_or, length-map, get_or-map}
use lib.Dec.{eqb, eqb-zero-suc, eqb-suc-suc}
use borrow.Author.Tests.{ne_eqb, eqb-true}
use Rattle.lists.specs.Upto.{upto, each, sum}
use Rattle.lists.specs.Tests.{keep, count}
use Rattle.lists.specs.Shuffle.{Shuffle}
use Rattle.lists.proofs.Sums.{sum-eq, sum-const, count-sum, sum-swap}
use Rattle.lists.proofs.Counts.{count_none, count-eq, count-pick}
use Rattle.lists.proofs.Kept.{keep-map, keep-eq, mem_keep}
use Rattle.lists.proofs.Passed.{length-keep}
use Rattle.lists.proofs.All.{All, map-all}
use Rattle.lists.proofs.Found.{find-passes}
use Rattle.lists.proofs.Upto.{each-get_or}
use Rattle.molecule.specs.Molecule.{Molecule}
use Rattle.molecule.specs.Renumbering.{Renumbered}
use Rattle.molecule.proofs.Sound.{Sound}
use Rattle.sling.specs.Reading.{is_h}
use Rattle.sling.specs.Folded.{heavy_places, folded}
use Rattle.sling.specs.Walk.{kind_at, place_in, written}
use Rattle.sling.proofs.Tidy.{heavy-within}
use Rattle.sling.proofs.Places.{On, rank_at, places-apart, mem_on, on-mem}
use Rattle.sling.proofs.Strokes.{Rank}
use Rattle.sling.proofs.Finished.{all_on}
use Rattle.sling.proofs.Followed.{reader_of, kind-at}
use Rattle.sling.proofs.Ranks.{written-ranked, count-has, place_at, reader_zero}
use Rattle.sling.proofs.Codes.{codes-are}
use Rattle.sling.proofs.Hydrogens.{hydrogens-are}

-- the ranks in the order written, without the H
unfoldable pub order : List ℕ → List ℕ
order l = keep (λ x. not (eqb x 0)) l

-- the index of an atom in that order
unfoldable pub turn : Molecule → ℕ → ℕ
turn W a = place_in (order (written W).ranks) (suc a)

-- a rank up to n is counted once among 1 to n, and an H not at all
rank_once : (n x : ℕ) → x ≤ n → cond (not (eqb x 0)) 1 0 ≡ count (each n (λ a. eqb x (suc a)))
rank_once n zero h = sym (count_none n (λ a. eqb 0 (suc a)) (λ a l. eqb-zero-suc a))
rank_once n (suc b) h =
    rw (ne_eqb (suc b) 0 (λ e. omega arith))
    (sym (count-eq n (λ a. eqb (suc b) (suc a)) (λ a. true && eqb b a) (λ a l. eqb-suc-suc b a) ∙ count-pick n b (λ a. true) h))

-- a list that has each of 1 to n once, and else only H
order_long : (n : ℕ) (l : List ℕ) → All (λ x. x ≤ n) l → ((a : ℕ) → a < n → count (map (λ x. eqb x (suc a)) l) ≡ 1) → length (order l) ≡ n
unfolding order each
order_long n l h once =
    length-keep (λ x. not (eqb x 0)) l
    ∙ count-sum (λ x. not (eqb x 0)) l
    ∙ ap sum (map-all _ (λ x. count (each n (λ a. eqb x (suc a)))) (λ x k. rank_once n x k) l h)
    ∙ sum-swap (λ x a. eqb x (suc a)) l (upto n)
    ∙ sum-eq n (λ a. count (map (λ x. eqb x (suc a)) l)) (λ a. 1) once
    ∙ sum-const n 1
    ∙ omega arith

order_on : (l : List ℕ) (r : ℕ) → 0 < r → On l r → On (order l) r
unfolding order
order_on l r p h = mem_on (order l) r (mem_keep (λ x. not (eqb x 0)) l r (on-mem l r h) (ap not (ne_eqb r 0 (λ e. omega arith))))

module _ (W : Molecule) (S : Sound W) where
  rank_of : (a : ℕ) → a < W.size → Rank W (suc a)
  rank_of a h = record { low = omega arith; high = h }

  atom-on : (a : ℕ) → a < W.size → On (written W).ranks (suc a)
  atom-on a h = all_on W S.some S.linked (suc a) (rank_of a h)

  -- every atom is written once
  pub written_once : (a : ℕ) → a < W.size → count (map (λ x. eqb x (suc a)) (written W).ranks) ≡ 1
  written_once a h =
      let k = count-has (written W).ranks (place_in (written W).ranks (suc a)) (atom-on a h) in
      let j = rw (rank_at (written W).ranks (suc a) (atom-on a h)) at k in
      omega (arith, (written-ranked W S.some).once (suc a) (omega arith))

  turns : length (order (written W).ranks) ≡ W.size
  turns = order_long W.size (written W).ranks (written-ranked W S.some).high written_once

  turn_on : (a : ℕ) → a < W.size → On (order (written W).ranks) (suc a)
  turn_on a h = order_on (written W).ranks (suc a) (omega arith) (atom-on a h)

  turn_shuffle : Shuffle (turn W) W.size
  unfolding turn
  turn_shuffle =
      record {
        within = λ a h. omega (arith, turns, turn_on a h);
        apart = λ a b h k e. let z = places-apart (order (written W).ranks) (suc a) (suc b) (turn_on a h) (turn_on b k) e in omega arith;
      }

-- the places of the heavy atoms, and the ranks at them
module _ (W : Molecule) (S : Sound W) (us : List ℕ) where
  heavy-is : (p : ℕ) → not (is_h (reader_of W (written W) us) p) ≡ not (eqb (get_or (written W).ranks p 0) 0)
  heavy-is p = ap not (reader_zero W S (written W).ranks (written-ranked W S.some).high p)

  order_places : order (written W).ranks ≡ map (λ p. get_or (written W).ranks p 0) (heavy_places (reader_of W (written W) us))
  unfolding order heavy_places each
  order_places =
      let l = (written W).ranks in
      let st = reader_of W (written W) us in
      ap (keep (λ x. not (eqb x 0))) (sym (map-id l) ∙ sym (each-get_or (λ x. x) l 0))
      ∙ keep-map (λ x. not (eqb x 0)) (λ p. get_or l p 0) (upto (length l))
      ∙ ap (map (λ p. get_or l p 0)) (
      keep-eq (upto (length l)) (λ p. not (eqb (get_or l p 0) 0)) (λ p. not (is_h st p)) (λ p m. sym (heavy-is p))
      ∙ ap (λ (n : ℕ). keep (λ p. not (is_h st p)) (upto n)) (sym (length-map l (kind_at W))))

  -- the place of an atom, by its turn
  turn_place : (a : ℕ) → a < W.size → get_or (heavy_places (reader_of W (written W) us)) (turn W a) 0 ≡ place_in (written W).ranks (suc a)
  unfolding turn
  turn_place a h =
      let l = (written W).ranks in
      let ps = heavy_places (reader_of W (written W) us) in
      let i = place_in (order l) (suc a) in
      let f : ℕ → ℕ = λ p. get_or l p 0 in
      let e : get_or (order l) i (f 0) ≡ suc a = eqb-true _ (suc a) (find-passes (λ x. eqb x (suc a)) (order l) (f 0) (turn_on W S a h)) in
      let g : f (get_or ps i 0) ≡ suc a = sym (get_or-map f ps i 0) ∙ ap (λ (k : List ℕ). get_or k i (f 0)) (sym order_places) ∙ e in
      let there : get_or ps i 0 < length l = heavy-within l (get_or ps i 0) (ne_eqb (f (get_or ps i 0)) 0 (λ z. omega arith)) in
      sym (ap (place_in l) (sym g) ∙ place_at l (get_or ps i 0) (written-ranked W S.some).once there (omega arith))

  pub written-folded : Renumbered (turn W) W (folded (reader_of W (written W) us))
  unfolding folded
  written-folded =
      record {
        size = sym (length-map (heavy_places (reader_of W (written W) us)) (λ p. get_or (written W).ranks p 0)) ∙ ap length (sym order_places) ∙ turns W S;
        shuffle = turn_shuffle W S;
        label = λ a h.
            rw (
              turn_place a h,
              kind-at W (written W).ranks (place_in (written W).ranks (suc a)),
              rank_at (written W).ranks (suc a) (atom-on W S a h),
              hydrogens-are W S us (suc a) (rank_of W S a h) (atom-on W S a h),
            )
            (sym (S.labels a h));
        code = λ a b h k. rw (turn_place a h, turn_place b k) (codes-are W S (suc a) (suc b) (rank_of W S a h) (rank_of W S b k));
      }

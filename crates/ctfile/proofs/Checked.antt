-- A drawing that no check refuses is clean: of the bonds that pass a test each was judged after those before it, so that all of them are no more
-- than the judging lets stand.
use mathlib.Core.Bool.{Bool, true, false, not, ◌&&◌, ◌||◌, or_comm, or-true, true≢false}
use mathlib.Core.List.{List, map, Memᴰ}
use mathlib.Core.Logic.{◌⊎◌, inl, inr, ⊎_elim, ◌≢◌}
use mathlib.Core.Path.{◌≡◌, refl, sym, ◌∙◌, ap, subst}
use Prim.Native.Nat.{ℕ, ◌<◌, ◌≤◌}
use native.Mathlib.Omega.{arith}
use lib.Dec.{eqb}
use lib.ListN.{length, get_or, take}
use borrow.Author.Tests.{eqb-true, not-true}
use Rattle.lists.specs.Tests.{keep, count}
use Rattle.lists.proofs.Booleans.{and_both, or_either, or_neither}
use Rattle.lists.proofs.Members.{mem_place}
use Rattle.lists.proofs.Passed.{count-keep, count-map_le, count-bounded}
use Rattle.lists.proofs.Tested.{some-false_count}
use Rattle.molecule.specs.Bonds.{Bond, on, joins}
use Rattle.molecule.proofs.BondLists.{Between, joins-ends, joins-swap}
use Rattle.molecule.proofs.Judging.{Fits}
use Rattle.sling.proofs.Folds.{end_of}
use Rattle.ctfile.specs.Filed.{Drawing}
use Rattle.ctfile.specs.Drawings.{is_h, to_h, taken_h, no_bond, drawing_fault}
use Rattle.ctfile.proofs.Clean.{Clean}
use Rattle.ctfile.proofs.Judging.{KeepsH, Passes, Checks, checks}

-- the H among the ends of a bond are those of the two places that it joins
pub to_h-ends : (d : Drawing) (p q : ℕ) (b : Bond) → joins p q b ≡ true → to_h d b ≡ (is_h d p || is_h d q)
to_h-ends d p q b e = pick (joins-ends p q b e)
  where
    pick : Between p q b → to_h d b ≡ (is_h d p || is_h d q)
    pick (inl w) = rw (w.0, w.1)
    pick (inr w) = rw (w.0, w.1) (or_comm (is_h d q) (is_h d p))

module _ (d : Drawing) (C : Checks d) where
  abbrev heavy : Bond → Bool
  heavy b = not (to_h d b)

  abbrev at : ℕ → Bond
  at k = get_or d.bonds k no_bond

  abbrev before : ℕ → List Bond
  before k = take k d.bonds

  -- a bond of the list is one that was judged
  judged : (P : Bond → Type 0) → ((b : Bond) (bs : List Bond) → Passes d bs b → P b) → (b : Bond) → Memᴰ b d.bonds → P b
  judged P f b m = let w = mem_place d.bonds b no_bond m in subst P w.2 (f (at w.0) (before w.0) (C.passes w.0 w.1))

  -- what holds of a bond that passes, to an H or not
  by_ends : (P : Type 0) (b : Bond) (bs : List Bond) → Passes d bs b → (to_h d b ≡ true → KeepsH d bs b → P)
      → (to_h d b ≡ false → Fits (length d.kinds) (keep heavy bs) b → P) → P
  by_ends P b bs w f g = pick (to_h d b) refl
    where
      pick : (s : Bool) → to_h d b ≡ s → P
      pick true e = f e (w.hydrogen e)
      pick false e = g e (w.other e)

  -- an end that is H has no bond before
  untaken : (p : ℕ) (bs : List Bond) → is_h d p ≡ true → taken_h d bs p ≡ false → count (map (on p) bs) ≡ 0
  untaken p bs e f = some-false_count (map (on p) bs) (rw e at f)

  six : (p : ℕ) → count (map (on p) (keep heavy d.bonds)) ≤ 6
  six p = rw (count-keep heavy (on p) d.bonds) (count-bounded (λ b. heavy b && on p b) d.bonds no_bond 6 room)
    where
      room : (k : ℕ) → k < length d.bonds → (heavy (at k) && on p (at k)) ≡ true → count (map (λ b. heavy b && on p b) (before k)) < 6
      room k h e = rw (← (count-keep heavy (on p) (before k))) (pick (or_either _ _ w.1))
        where
          w : (heavy (at k) ≡ true) × (on p (at k) ≡ true)
          w = and_both (heavy (at k)) (on p (at k)) e

          F : Fits (length d.kinds) (keep heavy (before k)) (at k)
          F = (C.passes k h).other (not-true _ w.0)

          pick : (eqb (at k).one p ≡ true) ⊎ (eqb (at k).two p ≡ true) → count (map (on p) (keep heavy (before k))) < 6
          pick (inl q) = subst (λ r. count (map (on r) (keep heavy (before k))) < 6) (eqb-true _ p q) F.room-one
          pick (inr q) = subst (λ r. count (map (on r) (keep heavy (before k))) < 6) (eqb-true _ p q) F.room-two

  -- two bonds that join the same places
  module _ (p q : ℕ) (b c : Bond) (e : joins p q b ≡ true) (f : joins p q c ≡ true) where
    join_alike : joins b.one b.two c ≡ true
    join_alike = pick (joins-ends p q b e)
      where
        pick : Between p q b → joins b.one b.two c ≡ true
        pick (inl w) = rw (w.0, w.1) f
        pick (inr w) = rw (w.0, w.1) (joins-swap q p c ∙ f)

    heavy-alike : to_h d b ≡ false → heavy c ≡ true
    heavy-alike h = ap not (to_h-ends d p q c f ∙ sym (to_h-ends d p q b e) ∙ h)

  once : (p q : ℕ) → count (map (joins p q) d.bonds) ≤ 1
  once p q = count-bounded (joins p q) d.bonds no_bond 1 first
    where
      first : (k : ℕ) → k < length d.bonds → joins p q (at k) ≡ true → count (map (joins p q) (before k)) < 1
      first k h e = by_ends (count (map (joins p q) (before k)) < 1) (at k) (before k) (C.passes k h) hydrogen other
        where
          end-free : (r : ℕ) → ((c : Bond) → joins (at k).one (at k).two c ≡ true → on r c ≡ true) → count (map (on r) (before k)) ≡ 0
              → count (map (joins p q) (before k)) < 1
          end-free r o z = omega (arith, count-map_le (before k) (joins p q) (on r) (λ c m f. o c (join_alike p q (at k) c e f)))

          hydrogen : to_h d (at k) ≡ true → KeepsH d (before k) (at k) → count (map (joins p q) (before k)) < 1
          hydrogen t K = ⊎_elim
              (λ (i : is_h d (at k).one ≡ true). end-free (at k).one (λ c f. (end_of (at k).one (at k).two c f).0) (untaken (at k).one (before k) i K.first_one))
              (λ (i : is_h d (at k).two ≡ true). end-free (at k).two (λ c f. (end_of (at k).one (at k).two c f).1) (untaken (at k).two (before k) i K.first_two))
              (or_either _ _ t)

          other : to_h d (at k) ≡ false → Fits (length d.kinds) (keep heavy (before k)) (at k) → count (map (joins p q) (before k)) < 1
          other t F =
              let pair = joins (at k).one (at k).two in
              omega (
                arith,
                count-map_le (before k) (joins p q) (λ c. heavy c && pair c) (λ c m f. rw (heavy-alike p q (at k) c e f t) (join_alike p q (at k) c e f)),
                count-keep heavy pair (before k),
                some-false_count (map pair (keep heavy (before k))) F.first,
              )

  held_once : (p : ℕ) → p < length d.kinds → is_h d p ≡ true → count (map (on p) d.bonds) ≡ 1
  held_once p h i = omega (arith, C.held p h i, count-bounded (on p) d.bonds no_bond 1 first)
    where
      first : (k : ℕ) → k < length d.bonds → on p (at k) ≡ true → count (map (on p) (before k)) < 1
      first k l e = pick (or_either _ _ e)
        where
          free : taken_h d (before k) p ≡ false → count (map (on p) (before k)) < 1
          free f = omega (arith, untaken p (before k) i f)

          pick : (eqb (at k).one p ≡ true) ⊎ (eqb (at k).two p ≡ true) → count (map (on p) (before k)) < 1
          pick (inl q) =
              let r : (at k).one ≡ p = eqb-true _ p q in
              let t : to_h d (at k) ≡ true = rw (r, i) in
              free (subst (λ s. taken_h d (before k) s ≡ false) r ((C.passes k l).hydrogen t).first_one)
          pick (inr q) =
              let r : (at k).two ≡ p = eqb-true _ p q in
              let t : to_h d (at k) ≡ true = rw (r, i) (or-true (is_h d (at k).one)) in
              free (subst (λ s. taken_h d (before k) s ≡ false) r ((C.passes k l).hydrogen t).first_two)

  ends : (b : Bond) → Memᴰ b d.bonds → (b.one < length d.kinds) × (b.two < length d.kinds)
  ends = judged (λ b. (b.one < length d.kinds) × (b.two < length d.kinds)) (λ b bs w. (w.one, w.two))

  one_h : (b : Bond) → Memᴰ b d.bonds → (is_h d b.one && is_h d b.two) ≡ false
  one_h = judged (λ b. (is_h d b.one && is_h d b.two) ≡ false)
      (λ b bs w. by_ends _ b bs w (λ t K. K.heavy) (λ t F. rw (or_neither (is_h d b.one) (is_h d b.two) t).0))

  apart : (b : Bond) → Memᴰ b d.bonds → b.one ≢ b.two
  apart = judged (λ b. b.one ≢ b.two) (λ b bs w. by_ends _ b bs w (λ t K q. same b q t K.heavy) (λ t F. F.ends.2))
    where
      same : (b : Bond) → b.one ≡ b.two → to_h d b ≡ true → (is_h d b.one && is_h d b.two) ≡ false → ⊥
      same b q t f = pick (is_h d b.two) (rw q at t) (rw q at f)
        where
          pick : (s : Bool) → (s || s) ≡ true → (s && s) ≡ false → ⊥
          pick true t f = true≢false f
          pick false t f = true≢false (sym t)

  coded : (b : Bond) → Memᴰ b d.bonds → (0 < b.code) × (b.code ≤ 4)
  coded = judged (λ b. (0 < b.code) × (b.code ≤ 4))
      (λ b bs w. by_ends _ b bs w (λ t K. let c : b.code ≡ 1 = K.single in (omega arith, omega arith)) (λ t F. (F.some, F.known)))

pub clean : (d : Drawing) → drawing_fault d ≡ 0 → Clean d
clean d e =
    let C = checks d e in
    record {
      some = C.some;
      atoms = C.atoms;
      bonds = C.bonds;
      known = C.known;
      ends = ends d C;
      apart = apart d C;
      coded = coded d C;
      one_h = one_h d C;
      once = once d C;
      held_once = held_once d C;
      six = six d C;
    }

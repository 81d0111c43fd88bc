-- The arrays of the flood: an atom that is new has room in the queue, and a row is seen slot by slot.
use mathlib.Core.Bool.{Bool, true, false, cond}
use mathlib.Core.List.{List}
use mathlib.Core.Path.{◌≡◌, refl, ◌∙◌, ap}
use Prim.Native.Nat.{ℕ, suc, ◌+◌, ◌*◌, ◌<◌, ◌≤◌}
use native.Mathlib.Decide.{ℕ_discrete}
use native.Mathlib.Numerals.{add-one}
use native.Mathlib.Omega.{arith}
use lib.Dec.{eqb}
use lib.ListN.{length, get_or, set, drop, length-set}
use lib.Seq.{drop-cons, get_or-set_same, get_or-set_other}
use borrow.Author.Tests.{eq-eqb, ne_eqb}
use Rattle.lists.proofs.Counts.{count-fewer, count-split, count-one}
use Rattle.table.specs.Arrays.{row_in}
use Rattle.table.specs.Flood.{is_seen, see, see_all, Counted}
use Rattle.table.specs.declared.flood.Flood.{Flood}
use Rattle.table.proofs.RowLaws.{row_at, row-long}

-- an atom that was not seen has room in the queue
pub counted-room : (f : Flood) (b : ℕ) → Counted f → b < 64 → is_seen f b ≡ false → f.end < 64
counted-room f b C h e = omega (arith, C.end, count-fewer 64 (is_seen f) b h e)

abbrev pub added : Flood → ℕ → Flood
added f b = record { seen = set f.seen b true; queue = set f.queue f.end b; end = f.end + 1 }

-- the flood stays as it is, or the atom is new in it
pub see-cases : (P : Flood → Type 0) (f : Flood) (b : ℕ) → (is_seen f b ≡ true → P f) → (is_seen f b ≡ false → P (added f b)) → P (see f b)
unfolding see
see-cases P f b old new = go (is_seen f b) refl
  where
    go : (s : Bool) → is_seen f b ≡ s → P (cond s f (added f b))
    go true e = old e
    go false e = new e

pub added-seen : (f : Flood) (b x : ℕ) → length f.seen ≡ 64 → b < 64 → is_seen f b ≡ false
    → cond {A = ℕ} (is_seen (added f b) x) 1 0 ≡ cond (is_seen f x) 1 0 + cond (eqb x b) 1 0
added-seen f b x l h e = go (ℕ_discrete x b)
  where
    go : Dec (x ≡ b) → cond {A = ℕ} (is_seen (added f b) x) 1 0 ≡ cond (is_seen f x) 1 0 + cond (eqb x b) 1 0
    go (yes q) =
        let s : is_seen (added f b) x ≡ true = ap (λ (y : ℕ). is_seen (added f b) y) q ∙ get_or-set_same f.seen b true false (omega arith) in
        rw (s, ap (is_seen f) q ∙ e, eq-eqb x b q)
    go (no q) = rw (get_or-set_other f.seen b x true false q, ne_eqb x b q) (omega arith)

pub added-counted : (f : Flood) (b : ℕ) → Counted f → b < 64 → is_seen f b ≡ false → Counted (added f b)
added-counted f b C h e = record {
  seen_long = length-set f.seen b true ∙ C.seen_long;
  queue_long = length-set f.queue f.end b ∙ C.queue_long;
  end =
      omega (
        arith,
        C.end,
        count-split 64 (is_seen f) (λ x. eqb x b) (is_seen (added f b)) (λ x l. added-seen f b x C.seen_long h e),
        count-one 64 b h,
      );
}

pub see-counted : (f : Flood) (b : ℕ) → Counted f → b < 64 → Counted (see f b)
see-counted f b C h = see-cases Counted f b (λ e. C) (added-counted f b C h)

-- the next slot of a row seen
pub see_all-next : (degrees near : List ℕ) (a p : ℕ) (f : Flood) → 6 * a + get_or degrees a 0 ≤ length near → p < get_or degrees a 0
    → see_all f (drop p (row_in degrees near a)) ≡ see_all (see f (get_or near (6 * a + p) 0)) (drop (p + 1) (row_in degrees near a))
unfolding see_all
see_all-next degrees near a p f h l =
    ap (see_all f) (drop-cons (row_in degrees near a) p 0 (omega (arith, row-long degrees near a h)))
    ∙ ap (λ (x : ℕ). see_all (see f x) (drop (suc p) (row_in degrees near a))) (row_at degrees near a p l) ∙ rw add-one

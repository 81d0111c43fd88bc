-- Bytes written one after the other: what a run of writes leaves, and how far it has come.
use mathlib.Core.List.{List, [], ◌∷◌, ◌++◌, flatten}
use mathlib.Core.Path.{◌≡◌, refl, sym, ◌∙◌, ap, ap₂, subst}
use Prim.Native.Nat.{ℕ, zero, suc, ◌+◌, ◌<◌, ◌≤◌}
use native.Mathlib.Decide.{ℕ_discrete}
use native.Mathlib.Nat.{add-zero}
use native.Mathlib.Omega.{arith}
use borrow.Rule.Slice.PartMut.{put_mid}
use lib.ListN.{length, set, length-append}
use lib.Seq.{sets, length-sets, sets-eq}
use Rattle.std.proofs.lemmas.Slice.{put_mid-paste}
use Rattle.std.proofs.lemmas.List.{take_all}
use Rattle.lists.specs.Upto.{each, sum}
use Rattle.lists.proofs.Upto.{map_each}
use Rattle.lists.proofs.Flattened.{length-flatten}
use Rattle.lists.proofs.Steps.{each-zero, flatten_next}
use Rattle.card.specs.declared.writing.Writer.{Writer}
use Rattle.card.specs.Writing.{PutIn}

-- what a write of a part leaves is what the stores one after the other leave
pub part-written : (l bs ys : List ℕ) (at k : ℕ) → at + length bs ≤ length l → ys ≡ bs → k ≡ length bs → put_mid at k l ys ≡ sets l at bs
part-written l bs ys at k h e f = grind (arith, put_mid-paste at k l ys bs (length bs) e (sym f) refl, sets-eq bs l at h, take_all)

pub sets_append : (l : List ℕ) (at : ℕ) (bs cs : List ℕ) → sets (sets l at bs) (at + length bs) cs ≡ sets l at (bs ++ cs)
sets_append l at [] cs = ap (λ (i : ℕ). sets l i cs) (add-zero at)
sets_append l at (b ∷ bs) cs =
    let e : at + suc (length bs) ≡ suc at + length bs = omega arith in
    ap (λ (i : ℕ). sets (sets (set l at b) (suc at) bs) i cs) e ∙ sets_append (set l at b) (suc at) bs cs

pub put_none : (w : Writer) → PutIn w [] w
put_none w = record { same = refl; wrote = record { is = refl; ends = omega arith } }

pub put_more : (w w' w'' : Writer) (bs cs : List ℕ) → PutIn w bs w' → PutIn w' cs w'' → PutIn w (bs ++ cs) w''
put_more w w' w'' bs cs P Q = record {
  same = Q.same ∙ P.same;
  wrote =
      record {
        is = Q.wrote.is ∙ ap₂ (λ (r : List ℕ) (k : ℕ). sets r k cs) P.wrote.is P.wrote.ends ∙ sets_append w.out.now w.at bs cs;
        ends = omega (arith, P.wrote.ends, Q.wrote.ends, length-append bs cs);
      };
}

-- the buffer keeps its length
pub put_long : (w w' : Writer) (bs : List ℕ) → PutIn w bs w' → length w'.out.now ≡ length w.out.now
put_long w w' bs P = ap length P.wrote.is ∙ length-sets w.out.now w.at bs

-- the pieces so far
module _ (f : ℕ → List ℕ) where
  pub put_start : (w : Writer) → PutIn w (flatten (each 0 f)) w
  unfolding flatten
  put_start w = subst (λ (bs : List ℕ). PutIn w bs w) (sym (ap flatten (each-zero f))) (put_none w)

  pub put_next : (w w' w'' : Writer) (p : ℕ) → PutIn w (flatten (each p f)) w' → PutIn w' (f p) w'' → PutIn w (flatten (each (p + 1) f)) w''
  put_next w w' w'' p P Q =
      let e : suc p ≡ p + 1 = omega arith in
      subst (λ (bs : List ℕ). PutIn w bs w'') (sym (flatten_next p f) ∙ ap (λ (k : ℕ). flatten (each k f)) e)
      (put_more w w' w'' (flatten (each p f)) (f p) P Q)

  pub pieces_room : (n p : ℕ) → p < n → length (flatten (each p f)) + length (f p) ≤ length (flatten (each n f))
  pieces_room zero p h = absurd (omega arith)
  pieces_room (suc n) p h = go (ℕ_discrete p n) (pieces_room n p)
    where
      more : length (flatten (each (suc n) f)) ≡ length (flatten (each n f)) + length (f n)
      more = ap length (flatten_next n f) ∙ length-append (flatten (each n f)) (f n)

      go : Dec (p ≡ n) → (p < n → length (flatten (each p f)) + length (f p) ≤ length (flatten (each n f)))
          → length (flatten (each p f)) + length (f p) ≤ length (flatten (each (suc n) f))
      go (yes e) ih = omega (arith, more, ap (λ (k : ℕ). length (flatten (each k f)) + length (f k)) e)
      go (no e) ih = omega (arith, more, ih (omega arith))

  -- there is room for the next piece where there is for all
  pub put_room : (w w' : Writer) (n p : ℕ) → PutIn w (flatten (each p f)) w' → w.at + length (flatten (each n f)) ≤ length w.out.now → p < n
      → w'.at + length (f p) ≤ length w'.out.now
  put_room w w' n p P h l = omega (arith, P.wrote.ends, put_long w w' (flatten (each p f)) P, pieces_room n p l)

  pub pieces_length : (n : ℕ) → length (flatten (each n f)) ≡ sum (each n (λ p. length (f p)))
  pieces_length n = length-flatten (each n f) ∙ ap sum (map_each length n f)

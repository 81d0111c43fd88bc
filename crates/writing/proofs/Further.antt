-- The walk only goes on: no byte and no place is taken back.
use mathlib.Core.Bool.{Bool, true, false}
use mathlib.Core.List.{List, [], ◌∷◌, ◌++◌}
use mathlib.Core.Path.{◌≡◌, refl, sym, ap, ◌∙◌}
use Prim.Native.Nat.{ℕ, zero, suc, ◌+◌, ◌<◌, ◌≤◌}
use native.Mathlib.Omega.{arith}
use lib.ListN.{length, length-append}
use lib.Dec.{eqb}
use borrow.Author.Tests.{lt-ltb, ltb-true}
use Rattle.molecule.specs.Molecule.{Molecule}
use Rattle.sling.specs.Items.{Item, at, atom, reference, ring}
use Rattle.sling.specs.Walk.{kind_at, hydrogens_at, neighbours_at, code_at, Written, place_in, is_written, is_traced, serve, put, close, put_hs, trace, traces, finish}
use Rattle.sling.specs.Printed.{bytes, item_bytes}
use Rattle.sling.proofs.Places.{On, place-more, on-more}
use Rattle.writing.specs.Shown.{digit_after, size, At}
use Rattle.writing.proofs.Bytes.{bytes-last}
use Rattle.writing.proofs.Serving.{put_hs-last}

pub record Further (w v : Written) : Type 0 where
  pub more : size w ≤ size v
  pub kept : (r p : ℕ) → At w r p → At v r p

pub further_same : {w : Written} → Further w w
further_same = record { more = omega arith; kept = λ r p a. a }

pub further_on : {w v u : Written} → Further w v → Further v u → Further w u
further_on f g = record { more = omega (arith, f.more, g.more); kept = λ r p a. g.kept r p (f.kept r p a) }

pub size-last : (l : List Item) (i : Item) → length (bytes false (l ++ (i ∷ []))) ≡ length (bytes false l) + length (item_bytes (digit_after false l) i)
size-last l i = ap length (bytes-last false l i) ∙ length-append (bytes false l) (item_bytes (digit_after false l) i)

pub further_serve : (r : ℕ) (w : Written) → Further w (serve r w)
unfolding serve
further_serve r w = pick (eqb w.cursor (place_in w.ranks r)) refl
  where
    pick : (b : Bool) → eqb w.cursor (place_in w.ranks r) ≡ b → Further w (serve r w)
    pick true e = rw e further_same
    pick false e = rw e (record { more = omega (arith, size-last w.items (reference (at (place_in w.ranks r)))); kept = λ s p a. a })

pub further_put : (s k m : ℕ) (w : Written) → Further w (put s k m w)
unfolding put
further_put s k m w =
    record {
      more = omega (arith, size-last w.items (atom m k));
      kept = λ r p a.
          let h : On w.ranks r = ltb-true _ _ a.0 in
          (lt-ltb _ _ (on-more w.ranks (s ∷ []) r h), a.1 ∙ sym (place-more w.ranks (s ∷ []) r h));
    }

pub further_close : (s m : ℕ) (w : Written) → Further w (close s m w)
unfolding close
further_close s m w = record { more = omega (arith, size-last w.items (ring m (at (place_in w.ranks s)))); kept = λ r p a. a }

-- where a stroke fits, the atom's place before it does
pub serve_before-put : (r s k m : ℕ) (w : Written) → size (put s k m (serve r w)) ≤ 2048 → size (serve r w) ≤ 2048
serve_before-put r s k m w h = let f = (further_put s k m (serve r w)).more in omega arith

pub serve_before-close : (r s m : ℕ) (w : Written) → size (close s m (serve r w)) ≤ 2048 → size (serve r w) ≤ 2048
serve_before-close r s m w h = let f = (further_close s m (serve r w)).more in omega arith

pub further_hs : (h r : ℕ) (w : Written) → Further w (put_hs h r w)
unfolding put_hs
further_hs zero r w = further_same
further_hs (suc h) r w = further_on (further_on (further_serve r w) (further_put 0 0 1 (serve r w))) (further_hs h r (put 0 0 1 (serve r w)))

-- fewer hydrogens take no more bytes
pub hs_mono : (h k r : ℕ) (w : Written) → h ≤ k → size (put_hs h r w) ≤ size (put_hs k r w)
unfolding put_hs
hs_mono zero k r w l = (further_hs k r w).more
hs_mono (suc h) zero r w l = absurd (omega arith)
hs_mono (suc h) (suc k) r w l = hs_mono h k r (put 0 0 1 (serve r w)) (omega arith)

-- the next hydrogen fits where all do
pub hs_room : (h k r : ℕ) (w : Written) → h < k → size (put_hs k r w) ≤ 2048 → size (put 0 0 1 (serve r (put_hs h r w))) ≤ 2048
hs_room h k r w l q = rw (← (put_hs-last h r w)) (let m = hs_mono (suc h) k r w l in omega arith)

module _ (W : Molecule) (f : ℕ → Written → Written) (ok : (s : ℕ) (w : Written) → Further w (f s w)) where
  pub further_trace : (r s : ℕ) (w : Written) → Further w (trace f W r s w)
  unfolding trace
  further_trace r s w = pick (is_traced w r s) (is_written w s) refl refl
    where
      pick : (a b : Bool) → is_traced w r s ≡ a → is_written w s ≡ b → Further w (trace f W r s w)
      pick true b e k = rw e further_same
      pick false true e k = rw (e, k) (further_on (further_serve r w) (further_close s (code_at W r s) (serve r w)))
      pick false false e k =
          rw (e, k) (further_on (further_on (further_serve r w) (further_put s (kind_at W s) (code_at W r s) (serve r w))) (ok s _))

  pub further_traces : (r : ℕ) (l : List ℕ) (w : Written) → Further w (traces f W r l w)
  unfolding traces
  further_traces r [] w = further_same
  further_traces r (s ∷ l) w = further_on (further_trace r s w) (further_traces r l (trace f W r s w))

pub further_finish : (d : ℕ) (W : Molecule) (r : ℕ) (w : Written) → Further w (finish d W r w)
unfolding finish
further_finish zero W r w = further_same
further_finish (suc d) W r w =
    further_on (further_hs (hydrogens_at W r) r w) (further_traces W (finish d W) (further_finish d W) r (neighbours_at W r) (put_hs (hydrogens_at W r) r w))

-- the neighbours gone through, one after the other
pub traces-append : (f : ℕ → Written → Written) (W : Molecule) (r : ℕ) (l m : List ℕ) (w : Written) → traces f W r (l ++ m) w ≡ traces f W r m (traces f W r l w)
unfolding traces
traces-append f W r [] m w = refl
traces-append f W r (s ∷ l) m w = traces-append f W r l m (trace f W r s w)

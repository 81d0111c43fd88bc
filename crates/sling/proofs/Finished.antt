-- The writer comes to every atom and traces every bond: whatever is written on the way is finished on the way.
use mathlib.Core.Path.{◌≡◌, refl, sym, subst}
use mathlib.Core.Bool.{Bool, true, false, not}
use mathlib.Core.List.Memᴰ
use mathlib.Core.List.{List, [], ◌∷◌}
use mathlib.Core.Logic.{◌⊎◌, inl, inr, ⊎_elim}
use Prim.Native.Nat.{ℕ, zero, suc, ◌<◌}
use native.Mathlib.Nat.{not-suc-le-zero}
use native.Mathlib.Omega.{arith}
use lib.ListN.{length}
use lib.Dec.{ltb}
use borrow.Author.Tests.{lt-ltb, ltb-true}
use Rattle.lists.proofs.Counts.{count-fewer}
use Rattle.lists.proofs.All.{All, all_map, all_mem}
use Rattle.molecule.specs.Molecule.{Molecule}
use Rattle.molecule.proofs.Neighbours.{mem_neighbours}
use Rattle.molecule.proofs.Sound.{Linked}
use Rattle.sling.specs.Walk.{hydrogens_at, neighbours_at, code_at, Written, place_in, is_written, is_traced, trace, traces, finish, first, written}
use Rattle.sling.proofs.Tidy.{joined-last}
use Rattle.sling.proofs.Places.{On, place-more, on-more, place-new, on-new, on-cases}
use Rattle.sling.proofs.Strokes.{trace-done, trace-back, trace-onward, put_hs-old, near-all, Rank, Near, with_hs, next_at, Strokes, here, onward, back, strokes_trans, Keeps, put_hs-keeps, strokes_keep, keeps_put}
use Rattle.sling.proofs.Ready.{Traced, traced-keeps, unwritten, Ready, ready_keeps, traced-on, off, next-ready}

-- an atom all of whose bonds are traced
abbrev pub Done : Molecule → Written → ℕ → Type 0
Done W w x = All (Traced w x) (neighbours_at W x)

done_more : {W : Molecule} {w v : Written} (x : ℕ) → Strokes W w v → Done W w x → Done W v x
done_more {W} {w} {v} x p d = all_map (λ s t. strokes_keep W (λ u. Traced u x s) (traced-keeps W x s) p t) (neighbours_at W x) d

-- from w to v whatever is written is done
pub record Closed (W : Molecule) (w v : Written) : Type 0 where
  pub strokes : Strokes W w v
  pub old : (x : ℕ) → 0 < x → On v.ranks x → On w.ranks x ⊎ Done W v x

closed_here : {W : Molecule} {w : Written} → Closed W w w
closed_here = record { strokes = here; old = λ x p h. inl h }

closed_trans : {W : Molecule} {w v u : Written} → Closed W w v → Closed W v u → Closed W w u
closed_trans c d =
    record {
      strokes = strokes_trans c.strokes d.strokes;
      old = λ x p h. ⊎_elim (λ k. ⊎_elim (λ j. inl j) (λ e. inr (done_more x d.strokes e)) (c.old x p k)) (λ e. inr e) (d.old x p h);
    }

-- what finishes an atom to a depth of d
abbrev pub Finishing : Molecule → ℕ → (ℕ → Written → Written) → Type 0
Finishing W d f = (s : ℕ) (w : Written) → Rank W s → Ready W d s w → Closed W (with_hs W s w) (f s w) × Done W (f s w) s

module _ (W : Molecule) (d : ℕ) (f : ℕ → Written → Written) (ok : Finishing W d f) where
  onward_closed : (r s : ℕ) (w : Written) → Near W r s → Ready W (suc d) r w → (On w.ranks s → ⊥)
      → Closed W w (f s (next_at W r s w)) × Traced (f s (next_at W r s w)) r s
  onward_closed r s w n t k =
      let x : Written = next_at W r s w in
      let F = ok s x n.two (next-ready W d r s w n t k) in
      let now : Traced x r s = (
        on-more w.ranks (s ∷ []) r t.on,
        on-new w.ranks s,
        rw (place-more w.ranks (s ∷ []) r t.on, place-new w.ranks s k)
            (joined-last (place_in w.ranks r) (length w.ranks) (code_at W r s) w.bonds),
      ) in (
        record {
          strokes = onward r s n t.on k F.0.strokes;
          old = λ y p h.
              ⊎_elim
              (λ j. ⊎_elim (λ i. inl i) (λ e. inr (subst (Done W (f s x)) (sym e) F.1)) (on-cases w.ranks s y (put_hs-old (hydrogens_at W s) s x y p j)))
              (λ e. inr e) (F.0.old y p h);
        },
        strokes_keep W (λ u. Traced u r s) (traced-keeps W r s) F.0.strokes
            (put_hs-keeps W (λ u. Traced u r s) (traced-keeps W r s) (hydrogens_at W s) s x n.two (on-new w.ranks s) now),
      )

  pub trace-closed : (r s : ℕ) (w : Written) → Near W r s → Ready W (suc d) r w → Closed W w (trace f W r s w) × Traced (trace f W r s w) r s
  trace-closed r s w n t = pick (is_traced w r s) (is_written w s) refl refl
    where
      pick : (a b : Bool) → is_traced w r s ≡ a → is_written w s ≡ b → Closed W w (trace f W r s w) × Traced (trace f W r s w) r s
      pick true b e k = rw (trace-done f W r s w e) (closed_here, (t.on, traced-on w r s t.inside e, e))
      pick false true e k =
          let h : On w.ranks s = ltb-true _ _ k in
          rw (trace-back f W r s w e k) (
            record { strokes = back r s n t.on h e here; old = λ x p o. inl o },
            (t.on, h, joined-last (place_in w.ranks r) (place_in w.ranks s) (code_at W r s) w.bonds),
          )
      pick false false e k =
          rw (trace-onward f W r s w e k) (onward_closed r s w n t (off w s k))

  traces-closed : (r : ℕ) (l : List ℕ) (w : Written) → All (Near W r) l → Ready W (suc d) r w → Closed W w (traces f W r l w) × All (Traced (traces f W r l w) r) l
  unfolding traces
  traces-closed r [] w n t = (closed_here, tt)
  traces-closed r (s ∷ l) w n t =
      let A = trace-closed r s w n.0 t in
      let B = traces-closed r l (trace f W r s w) n.1 (strokes_keep W (Ready W (suc d) r) (ready_keeps W (suc d) r) A.0.strokes t) in
      (closed_trans A.0 B.0, (strokes_keep W (λ u. Traced u r s) (traced-keeps W r s) B.0.strokes A.1, B.1))

pub finish-closed : (W : Molecule) (d : ℕ) → Finishing W d (finish d W)
unfolding finish
finish-closed W zero s w q t = absurd (not-suc-le-zero t.few)
finish-closed W (suc d) s w q t =
    traces-closed W d (finish d W) (finish-closed W d) s (neighbours_at W s) (with_hs W s w) (near-all W s q)
    (put_hs-keeps W (Ready W (suc d) s) (ready_keeps W (suc d) s) (hydrogens_at W s) s w q t.on t)

module _ (W : Molecule) (some : 0 < W.size) where
  one_rank : Rank W 1
  one_rank = record { low = omega arith; high = some }

  first-ready : Ready W W.size 1 (first W)
  unfolding unwritten
  first-ready = record { on = omega arith; inside = tt; few = count-fewer W.size (λ a. not (ltb (place_in (1 ∷ []) (suc a)) 1)) 0 some refl }

  -- the depth is never used up
  pub written-closed : Closed W (with_hs W 1 (first W)) (written W) × Done W (written W) 1
  unfolding written
  written-closed = finish-closed W W.size 1 (first W) one_rank first-ready

  pub written_keeps : (P : Written → Type 0) → Keeps W P → P (first W) → P (written W)
  written_keeps P k p =
      strokes_keep W P k written-closed.0.strokes (put_hs-keeps W P k (hydrogens_at W 1) 1 (first W) one_rank (omega arith) p)

  -- every atom that is written is done
  all_done : (x : ℕ) → 0 < x → On (written W).ranks x → Done W (written W) x
  all_done x p h =
      ⊎_elim (λ k. ⊎_elim (λ j. absurd (not-suc-le-zero j)) (λ e. subst (Done W (written W)) (sym e) written-closed.1)
      (on-cases [] 1 x (put_hs-old (hydrogens_at W 1) 1 (first W) x p k))) (λ e. e) (written-closed.0.old x p h)

  traced-near : (r s : ℕ) → Near W r s → On (written W).ranks r → Traced (written W) r s
  traced-near zero s n h = absurd (not-suc-le-zero n.one.low)
  traced-near (suc a) zero n h = absurd (not-suc-le-zero n.two.low)
  traced-near (suc a) (suc b) n h =
      all_mem (Traced (written W) (suc a)) (neighbours_at W (suc a)) (all_done (suc a) (omega arith) h) (suc b)
      (Memᴰ.map suc (mem_neighbours W a b n.two.high n.code))

  -- every atom is written, where the molecule is linked
  pub all_on : Linked W → (r : ℕ) → Rank W r → On (written W).ranks r
  all_on l zero q = absurd (not-suc-le-zero q.low)
  all_on l (suc a) q =
      ltb-true _ _ (l (λ b. is_written (written W) (suc b)) (lt-ltb _ _ (written_keeps (λ w. On w.ranks 1) on-keeps (omega arith)))
      (λ b c h k e n.
      let near : Near W (suc b) (suc c) = record { one = record { low = omega arith; high = h }; two = record { low = omega arith; high = k }; code = n } in
      lt-ltb _ _ (traced-near (suc b) (suc c) near (ltb-true _ _ e)).1) a q.high)
    where
      on-keeps : Keeps W (λ w. On w.ranks 1)
      on-keeps = keeps_put W (λ w. On w.ranks 1) (λ r s k m w h o. on-more w.ranks (s ∷ []) 1 o) (λ r s w n h k u o. o)

  -- and every bond traced
  pub all_traced : Linked W → (r s : ℕ) → Near W r s → is_traced (written W) r s ≡ true
  all_traced l r s n = (traced-near r s n (all_on l r n.one)).2

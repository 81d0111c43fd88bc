-- The depth to which a writer finishes an atom does not matter, as long as the atoms not yet written are fewer: it never runs out.
use mathlib.Core.Path.{◌≡◌, refl, ap, ◌∙◌}
use mathlib.Core.Bool.{Bool, true, false}
use mathlib.Core.List.{List, [], ◌∷◌}
use Prim.Native.Nat.{ℕ, zero, suc}
use native.Mathlib.Nat.{not-suc-le-zero}
use Rattle.lists.proofs.All.{All}
use Rattle.molecule.specs.Molecule.{Molecule}
use Rattle.sling.specs.Walk.{hydrogens_at, neighbours_at, Written, is_written, is_traced, trace, traces, finish}
use Rattle.sling.proofs.Strokes.{Rank, Near, with_hs, put_hs-keeps, strokes_keep, trace-done, trace-back, trace-onward, near-all}
use Rattle.sling.proofs.Ready.{Ready, ready_keeps, off, next-ready}
use Rattle.sling.proofs.Finished.{trace-closed, finish-closed}

module _ (W : Molecule) (d e : ℕ) (same : (s : ℕ) (w : Written) → Rank W s → Ready W d s w → Ready W e s w → finish d W s w ≡ finish e W s w) where
  trace-depth : (r s : ℕ) (w : Written) → Near W r s → Ready W (suc d) r w → Ready W (suc e) r w → trace (finish d W) W r s w ≡ trace (finish e W) W r s w
  trace-depth r s w n t u = pick (is_traced w r s) (is_written w s) refl refl
    where
      pick : (a b : Bool) → is_traced w r s ≡ a → is_written w s ≡ b → trace (finish d W) W r s w ≡ trace (finish e W) W r s w
      pick true b p q = rw (trace-done (finish d W) W r s w p, trace-done (finish e W) W r s w p)
      pick false true p q = rw (trace-back (finish d W) W r s w p q, trace-back (finish e W) W r s w p q)
      pick false false p q =
          rw (trace-onward (finish d W) W r s w p q, trace-onward (finish e W) W r s w p q)
          (same s _ n.two (next-ready W d r s w n t (off w s q)) (next-ready W e r s w n u (off w s q)))

  traces-depth : (r : ℕ) (l : List ℕ) (w : Written) → All (Near W r) l → Ready W (suc d) r w → Ready W (suc e) r w
      → traces (finish d W) W r l w ≡ traces (finish e W) W r l w
  unfolding traces
  traces-depth r [] w n t u = refl
  traces-depth r (s ∷ l) w n t u =
      let k = (trace-closed W d (finish d W) (finish-closed W d) r s w n.0 t).0.strokes in
      traces-depth r l (trace (finish d W) W r s w) n.1 (strokes_keep W (Ready W (suc d) r) (ready_keeps W (suc d) r) k t)
      (strokes_keep W (Ready W (suc e) r) (ready_keeps W (suc e) r) k u)
      ∙ ap (traces (finish e W) W r l) (trace-depth r s w n.0 t u)

pub finish-depth : (W : Molecule) (d e s : ℕ) (w : Written) → Rank W s → Ready W d s w → Ready W e s w → finish d W s w ≡ finish e W s w
unfolding finish
finish-depth W zero e s w q t u = absurd (not-suc-le-zero t.few)
finish-depth W (suc d) zero s w q t u = absurd (not-suc-le-zero u.few)
finish-depth W (suc d) (suc e) s w q t u =
    traces-depth W d e (λ r v p k j. finish-depth W d e r v p k j) s (neighbours_at W s) (with_hs W s w) (near-all W s q)
    (put_hs-keeps W (Ready W (suc d) s) (ready_keeps W (suc d) s) (hydrogens_at W s) s w q t.on t)
    (put_hs-keeps W (Ready W (suc e) s) (ready_keeps W (suc e) s) (hydrogens_at W s) s w q u.on u)

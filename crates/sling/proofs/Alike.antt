-- A name depends on nothing but the atoms of the molecule: the writer looks only at ranks of it. By induction on the depth.
use mathlib.Core.Path.{◌≡◌, refl, sym, ap, ap₂, ◌∙◌}
use mathlib.Core.Bool.{false, not}
use mathlib.Core.List.{List, [], ◌∷◌, map}
use Prim.Native.Nat.{ℕ, zero, suc, ◌<◌}
use native.Mathlib.Omega.{arith}
use lib.ListN.{get_or}
use lib.Dec.{eqb}
use Rattle.lists.specs.Upto.{upto}
use Rattle.lists.specs.Tests.{keep}
use Rattle.lists.proofs.Upto.{of_upto}
use Rattle.lists.proofs.Kept.{keep-eq}
use Rattle.lists.proofs.All.{All, all_map}
use Rattle.molecule.specs.Molecule.{Molecule, bonded, neighbours}
use Rattle.molecule.specs.Renumbering.{Renumbered}
use Rattle.sling.specs.Items.{atom}
use Rattle.sling.specs.Walk.{kind_at, hydrogens_at, neighbours_at, code_at, Written, serve, put, put_hs, trace, traces, finish, first, written}
use Rattle.sling.specs.Printed.{bytes, name_bytes}
use Rattle.sling.proofs.Strokes.{Rank, near-all}

module _ (W W' : Molecule) (E : Renumbered (λ a. a) W W') where
  kind-alike : (r : ℕ) → Rank W r → kind_at W' r ≡ kind_at W r
  kind-alike zero q = refl
  kind-alike (suc a) q = ap (λ (l : List ℕ). get_or l 0 0) (E.label a q.high)

  hydrogens-alike : (r : ℕ) → Rank W r → hydrogens_at W' r ≡ hydrogens_at W r
  hydrogens-alike zero q = refl
  hydrogens-alike (suc a) q = ap (λ (l : List ℕ). get_or l 1 0) (E.label a q.high)

  code_alike : (r s : ℕ) → Rank W r → Rank W s → code_at W' r s ≡ code_at W r s
  code_alike zero s q p = refl
  code_alike (suc a) zero q p = refl
  code_alike (suc a) (suc b) q p = E.code a b q.high p.high

  neighbours-alike : (r : ℕ) → Rank W r → neighbours_at W' r ≡ neighbours_at W r
  unfolding neighbours
  neighbours-alike zero q = refl
  neighbours-alike (suc a) q =
      ap (map suc)
      (ap (λ (n : ℕ). keep (bonded W' a) (upto n)) E.size
      ∙ keep-eq (upto W.size) (bonded W' a) (bonded W a) (λ b m. ap (λ (c : ℕ). not (eqb c 0)) (E.code a b q.high (of_upto W.size b m))))

  module _ (f f' : ℕ → Written → Written) (same : (s : ℕ) (w : Written) → Rank W s → f' s w ≡ f s w) where
    trace-alike : (r s : ℕ) (w : Written) → Rank W r → Rank W s → trace f' W' r s w ≡ trace f W r s w
    unfolding trace
    trace-alike r s w q p = rw (code_alike r s q p, kind-alike s p, same s (put s (kind_at W s) (code_at W r s) (serve r w)) p)

    traces-alike : (r : ℕ) (l : List ℕ) (w : Written) → Rank W r → All (Rank W) l → traces f' W' r l w ≡ traces f W r l w
    unfolding traces
    traces-alike r [] w q a = refl
    traces-alike r (s ∷ l) w q a = traces-alike r l (trace f' W' r s w) q a.1 ∙ ap (traces f W r l) (trace-alike r s w q a.0)

  finish-alike : (d s : ℕ) (w : Written) → Rank W s → finish d W' s w ≡ finish d W s w
  unfolding finish
  finish-alike zero s w q = refl
  finish-alike (suc d) s w q =
      ap₂ (λ (l : List ℕ) (h : ℕ). traces (finish d W') W' s l (put_hs h s w)) (neighbours-alike s q) (hydrogens-alike s q)
      ∙ traces-alike (finish d W) (finish d W') (λ r v p. finish-alike d r v p) s (neighbours_at W s) (put_hs (hydrogens_at W s) s w) q
      (all_map (λ r n. n.two) (neighbours_at W s) (near-all W s q))

  pub written-alike : 0 < W.size → written W' ≡ written W
  unfolding written
  written-alike h =
      let q : Rank W 1 = record { low = omega arith; high = h } in
      ap₂ (λ (n k : ℕ). finish n W' 1 (record { ranks = 1 ∷ []; bonds = []; cursor = 0; items = atom 1 k ∷ [] })) E.size (kind-alike 1 q)
      ∙ finish-alike W.size 1 (first W) q

  -- an empty molecule has no name, and what the writer makes of one is left open
  pub name-alike : 0 < W.size → name_bytes W ≡ name_bytes W'
  unfolding name_bytes
  name-alike h = ap (λ (w : Written). bytes false w.items) (sym (written-alike h))

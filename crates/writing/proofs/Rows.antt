-- A row of a table, one neighbour after the other.
use mathlib.Core.List.{List, [], ◌∷◌, ◌++◌}
use mathlib.Core.Path.{◌≡◌, ap, ◌∙◌}
use Prim.Native.Nat.{ℕ, suc, ◌+◌, ◌*◌, ◌<◌, ◌≤◌}
use native.Mathlib.Omega.{arith}
use native.Mathlib.Numerals.{add-one}
use lib.ListN.{length, get_or, take, drop, length-drop, length-map, get_or-map}
use lib.Seq.{take-suc, take_all, get_or-take, get_or-drop, length-take-le}
use Rattle.molecule.specs.Molecule.{Molecule, neighbours}
use Rattle.sling.specs.Walk.{neighbours_at}
use Rattle.table.specs.declared.Table.{Table}
use Rattle.writing.specs.Walked.{Lent}

module _ (t : Table) (W : Molecule) (L : Lent t W) (a : ℕ) (h : a < W.size) where
  pub row-long : length (neighbours_at W (suc a)) ≡ get_or t.rows.degrees a 0
  row-long =
      length-map (neighbours W a) suc ∙ ap length (L.row a h)
      ∙ length-take-le _ (drop (6 * a) t.rows.near) (omega (arith, length-drop (6 * a) t.rows.near, L.near_long, L.few a h, L.atoms))

  row_at : (k : ℕ) → k < get_or t.rows.degrees a 0 → get_or (neighbours_at W (suc a)) k 1 ≡ suc (get_or t.rows.near (6 * a + k) 0)
  row_at k l =
      get_or-map suc (neighbours W a) k 0
      ∙ ap suc (ap (λ (x : List ℕ). get_or x k 0) (L.row a h) ∙ get_or-take _ (drop (6 * a) t.rows.near) k 0 l ∙ get_or-drop (6 * a) t.rows.near k 0)

  pub row_next : (k : ℕ) → k < get_or t.rows.degrees a 0
      → take (k + 1) (neighbours_at W (suc a)) ≡ take k (neighbours_at W (suc a)) ++ (suc (get_or t.rows.near (6 * a + k) 0) ∷ [])
  row_next k l =
      ap (λ (j : ℕ). take j (neighbours_at W (suc a))) (add-one k) ∙ take-suc (neighbours_at W (suc a)) k 1 (omega (arith, row-long))
      ∙ ap (λ (x : ℕ). take k (neighbours_at W (suc a)) ++ (x ∷ [])) (row_at k l)

  pub row-end : (k : ℕ) → get_or t.rows.degrees a 0 ≤ k → take k (neighbours_at W (suc a)) ≡ neighbours_at W (suc a)
  row-end k l = take_all k (neighbours_at W (suc a)) (omega (arith, row-long))

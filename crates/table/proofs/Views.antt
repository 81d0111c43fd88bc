-- What a tidy table's arrays say of its molecule: an atom's neighbours are its row, and the code stands beside the neighbour.
use mathlib.Core.Bool.{not}
use mathlib.Core.List.{List, map}
use mathlib.Core.Logic.{◌≢◌, ◌⊎◌, inl, inr}
use mathlib.Core.Path.{◌≡◌, sym, ◌∙◌, ap, subst}
use Prim.Native.Nat.{ℕ, zero, suc, ◌+◌, ◌*◌, ◌<◌}
use native.Mathlib.Decide.{dec_lt, ℕ_discrete}
use native.Mathlib.Omega.{arith}
use lib.Dec.{eqb}
use lib.ListN.{length, get_or, get_or-eq_default}
use borrow.Author.Tests.{eq-eqb, ne_eqb, eqb-true, eqb-false}
use Rattle.lists.specs.Upto.{upto}
use Rattle.lists.specs.Tests.{some, find}
use Rattle.lists.proofs.Kept.{keep-eq}
use Rattle.lists.proofs.Tested.{some-pass}
use Rattle.molecule.specs.Molecule.{bonded, neighbours}
use Rattle.lists.proofs.Found.{find-passes}
use Rattle.lists.proofs.Members.{get_or-mem}
use Rattle.table.specs.Arrays.{Arrays, Tidy, HasRow, row_in, code_found, as_molecule}
use Rattle.table.proofs.ListLaws.{find-le, find_at, find_none, find-before, some-none, Rising, rising, keep-rising}
use Rattle.table.proofs.RowLaws.{row_at, row-long}

module _ (t : Arrays) (T : Tidy t) (a : ℕ) (h : a < t.n) where
  abbrev d : ℕ
  d = get_or t.degrees a 0

  abbrev slot : ℕ → ℕ
  slot p = get_or t.near (6 * a + p) 0

  abbrev row : List ℕ
  row = row_in t.degrees t.near a

  pub tidy-row : HasRow t.degrees t.near a
  tidy-row = record { atom = omega (arith, T.atoms); few = T.few a h; long = T.near_long }

  pub near-long : length row ≡ d
  near-long = row-long t.degrees t.near a (omega (arith, T.few a h, T.near_long, T.atoms))

  pub codes-long : length (row_in t.degrees t.codes a) ≡ d
  codes-long = row-long t.degrees t.codes a (omega (arith, T.few a h, T.codes_long, T.atoms))

  -- the slots ascend
  pub slots_rise : (p q : ℕ) → p < q → q < d → slot p < slot q
  slots_rise p zero l m = absurd (omega arith)
  slots_rise p (suc q) l m = go (ℕ_discrete p q) (slots_rise p q)
    where
      go : Dec (p ≡ q) → (p < q → q < d → slot p < slot q) → slot p < slot (suc q)
      go (yes e) ih = subst (λ (r : ℕ). slot r < slot (suc q)) (sym e) (T.ascending a q h m)
      go (no e) ih = omega (arith, ih (omega arith) (omega arith), T.ascending a q h m)

  -- the code of the neighbour at a slot stands at the same slot
  pub code-slot : (p : ℕ) → p < d → (as_molecule t).code a (slot p) ≡ get_or t.codes (6 * a + p) 0
  unfolding as_molecule code_found
  code-slot p m =
      ap (λ (i : ℕ). get_or (row_in t.degrees t.codes a) i 0)
      (find_at (λ x. eqb x (slot p)) 0 row p (omega (arith, near-long))
      (λ j l. ap (λ (x : ℕ). eqb x (slot p)) (row_at t.degrees t.near a j (omega arith)) ∙ ne_eqb (slot j) (slot p) (λ e. omega (arith, slots_rise j p l m)))
      (eq-eqb _ _ (row_at t.degrees t.near a p m)))
      ∙ row_at t.degrees t.codes a p m

  pub code-none : (b : ℕ) → ((p : ℕ) → p < d → slot p ≢ b) → (as_molecule t).code a b ≡ 0
  unfolding as_molecule code_found
  code-none b f =
      get_or-eq_default (row_in t.degrees t.codes a) 0
      (omega (
        arith,
        codes-long,
        near-long,
        find_none (λ x. eqb x b) 0 row (λ j l. let k : j < d = omega (arith, near-long) in ne_eqb _ b (λ e. f j k (sym (row_at t.degrees t.near a j k) ∙ e))),
      ))

  -- b stands at a slot of the row, or at none
  abbrev pub Placed : ℕ → Type 0
  Placed b = ((p : ℕ) × (p < d) × (slot p ≡ b)) ⊎ ((p : ℕ) → p < d → slot p ≢ b)

  pub placed : (b : ℕ) → Placed b
  placed b = go (dec_lt (find (λ x. eqb x b) row) d)
    where
      i : ℕ
      i = find (λ x. eqb x b) row

      go : Dec (find (λ x. eqb x b) row < d) → Placed b
      go (yes l) = inl (i, l, sym (row_at t.degrees t.near a i l) ∙ eqb-true _ b (find-passes (λ x. eqb x b) row 0 (omega (arith, near-long))))
      go (no l) =
          inr
          (λ p m e.
          eqb-false (get_or row p 0) b (find-before (λ x. eqb x b) 0 row p (omega (arith, find-le (λ x. eqb x b) 0 row, near-long))) (row_at t.degrees t.near a p m ∙ e))

  pub bonded-row : (b : ℕ) → bonded (as_molecule t) a b ≡ some (map (λ x. eqb x b) row)
  bonded-row b = go (placed b)
    where
      go : Placed b → bonded (as_molecule t) a b ≡ some (map (λ x. eqb x b) row)
      go (inl w) =
          let c = code-slot w.0 w.1 in
          let e : (as_molecule t).code a b ≡ get_or t.codes (6 * a + w.0) 0 = subst (λ (x : ℕ). (as_molecule t).code a x ≡ get_or t.codes (6 * a + w.0) 0) w.2 c in
          ap not (ne_eqb ((as_molecule t).code a b) 0 (λ z. omega (arith, T.coded a w.0 h w.1)))
          ∙ sym
          (some-pass (λ x. eqb x b) row (get_or row w.0 0) (get_or-mem row w.0 0 (omega (arith, near-long)))
          (eq-eqb _ b (row_at t.degrees t.near a w.0 w.1 ∙ w.2)))
      go (inr f) =
          ap not (eq-eqb ((as_molecule t).code a b) 0 (code-none b f))
          ∙ sym
          (some-none (λ x. eqb x b) 0 row
          (λ j l. let k : j < d = omega (arith, near-long) in ne_eqb (get_or row j 0) b (λ e. f j k (sym (row_at t.degrees t.near a j k) ∙ e))))

  ascends : Rising 0 (0 + t.n) row
  ascends =
      rising 0 (0 + t.n) row
      (λ i m. let k : i < d = omega (arith, near-long) in omega (arith, row_at t.degrees t.near a i k, T.inside a i h k))
      (λ i m.
      let k : suc i < d = omega (arith, near-long) in
      omega (arith, row_at t.degrees t.near a i (omega arith), row_at t.degrees t.near a (suc i) k, T.ascending a i h k))
      (λ m. omega arith)

  pub neighbours-row : neighbours (as_molecule t) a ≡ row
  unfolding neighbours as_molecule
  neighbours-row =
      keep-eq (upto t.n) (bonded (as_molecule t) a) (λ b. some (map (λ x. eqb x b) row)) (λ b m. bonded-row b) ∙ keep-rising 0 t.n row ascends

  pub degree-row : length (neighbours (as_molecule t) a) ≡ d
  degree-row = ap length neighbours-row ∙ near-long

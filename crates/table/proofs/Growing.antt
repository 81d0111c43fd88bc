-- A table with one more atom: the rows of the others stay, and the new one's is empty.
use mathlib.Core.List.{[], ◌∷◌}
use mathlib.Core.Path.{◌≡◌, sym, ◌∙◌, ap}
use Prim.Native.Nat.{ℕ, suc, ◌+◌, ◌*◌, ◌<◌, ◌≤◌}
use native.Mathlib.Decide.{ℕ_discrete}
use native.Mathlib.Omega.{arith}
use lib.Dec.{eqb}
use lib.ListN.{length, get_or, take, drop, set, length-set}
use lib.Seq.{get_or-set_same, get_or-set_other}
use Rattle.lists.specs.Tests.{find}
use Rattle.molecule.specs.Molecule.{Molecule, neighbours}
use Rattle.table.specs.Arrays.{Arrays, Tidy, code_found, as_molecule}
use Rattle.table.proofs.Views.{code-none, degree-row}

-- an atom more, after the others and with no bond
pub record Grown (M : Molecule) (kind hydrogens : ℕ) (M' : Molecule) : Type 0 where
  pub size : M'.size ≡ suc M.size
  pub label : (a : ℕ) → a < M.size → M'.label a ≡ M.label a
  pub last : M'.label M.size ≡ kind ∷ hydrogens ∷ []
  pub code : (a b : ℕ) → a < M.size → b < M.size → M'.code a b ≡ M.code a b
  pub alone : (a : ℕ) → a ≤ M.size → (M'.code a M.size ≡ 0) × (M'.code M.size a ≡ 0)
  pub degree : (a : ℕ) → a < M.size → length (neighbours M' a) ≡ length (neighbours M a)
  pub none : length (neighbours M' M.size) ≡ 0

module _ (t : Arrays) (T : Tidy t) (k h : ℕ) (room : t.n < 64) where
  abbrev after : Arrays
  after = record {
    n = t.n + 1;
    kinds = set t.kinds t.n k;
    hydrogens = set t.hydrogens t.n h;
    degrees = set t.degrees t.n 0;
    near = t.near;
    codes = t.codes;
  }

  degree-old : (a : ℕ) → a < t.n → get_or after.degrees a 0 ≡ get_or t.degrees a 0
  degree-old a l = get_or-set_other t.degrees t.n a 0 0 (λ e. omega arith)

  degree-new : get_or after.degrees t.n 0 ≡ 0
  degree-new = get_or-set_same t.degrees t.n 0 0 (omega (arith, T.degrees_long))

  -- what holds of each slot of the old atoms holds of each slot
  old_slot : (P : ℕ → ℕ → Type 0) → ((a p : ℕ) → a < t.n → p < get_or t.degrees a 0 → P a p) → (a p : ℕ) → a < t.n + 1 → p < get_or after.degrees a 0 → P a p
  old_slot P f a p l m = go (ℕ_discrete a t.n)
    where
      go : Dec (a ≡ t.n) → P a p
      go (yes e) = absurd (omega (arith, ap (λ (i : ℕ). get_or after.degrees i 0) e, degree-new))
      go (no e) = let o : a < t.n = omega arith in f a p o (omega (arith, degree-old a o))

  few : (a : ℕ) → a < t.n + 1 → get_or after.degrees a 0 ≤ 6
  few a l = go (ℕ_discrete a t.n)
    where
      go : Dec (a ≡ t.n) → get_or after.degrees a 0 ≤ 6
      go (yes e) = omega (arith, ap (λ (i : ℕ). get_or after.degrees i 0) e, degree-new)
      go (no e) = let o : a < t.n = omega arith in omega (arith, degree-old a o, T.few a o)

  pub grown_tidy : Tidy after
  grown_tidy = record {
    atoms = omega arith;
    kinds_long = length-set t.kinds t.n k ∙ T.kinds_long;
    hydrogens_long = length-set t.hydrogens t.n h ∙ T.hydrogens_long;
    degrees_long = length-set t.degrees t.n 0 ∙ T.degrees_long;
    near_long = T.near_long;
    codes_long = T.codes_long;
    few = few;
    inside = old_slot (λ a p. get_or t.near (6 * a + p) 0 < t.n + 1) (λ a p l m. omega (arith, T.inside a p l m));
    ascending = λ a p l m.
        old_slot (λ a q. (p : ℕ) → q ≡ suc p → get_or t.near (6 * a + p) 0 < get_or t.near (6 * a + suc p) 0)
        (λ a q o r p e. T.ascending a p o (omega arith)) a (suc p) l m p (omega arith);
    coded = old_slot (λ a p. (0 < get_or t.codes (6 * a + p) 0) × (get_or t.codes (6 * a + p) 0 ≤ 4)) T.coded;
  }

  code-old : (a b : ℕ) → a < t.n → (as_molecule after).code a b ≡ (as_molecule t).code a b
  unfolding as_molecule code_found
  code-old a b l =
      ap (λ (d : ℕ). get_or (take d (drop (6 * a) t.codes)) (find (λ x. eqb x b) (take d (drop (6 * a) t.near))) 0) (degree-old a l)

  code-new : (a : ℕ) → (as_molecule after).code t.n a ≡ 0
  code-new a = code-none after grown_tidy t.n (omega arith) a (λ p l e. omega (arith, degree-new))

  code-to_new : (a : ℕ) → a ≤ t.n → (as_molecule after).code a t.n ≡ 0
  code-to_new a l = go (ℕ_discrete a t.n)
    where
      go : Dec (a ≡ t.n) → (as_molecule after).code a t.n ≡ 0
      go (yes e) = ap (λ (i : ℕ). (as_molecule after).code i t.n) e ∙ code-new t.n
      go (no e) =
          let o : a < t.n = omega arith in
          code-none after grown_tidy a (omega arith) t.n (λ p m f. omega (arith, T.inside a p o (omega (arith, degree-old a o))))

  pub grown : Grown (as_molecule t) k h (as_molecule after)
  unfolding as_molecule
  grown = record {
    size = omega arith;
    label = λ a l.
        let e = get_or-set_other t.kinds t.n a k 0 (λ f. omega arith) in
        let g = get_or-set_other t.hydrogens t.n a h 0 (λ f. omega arith) in
        λ i. e i ∷ g i ∷ [];
    last =
        let e = get_or-set_same t.kinds t.n k 0 (omega (arith, T.kinds_long)) in
        let g = get_or-set_same t.hydrogens t.n h 0 (omega (arith, T.hydrogens_long)) in
        λ i. e i ∷ g i ∷ [];
    code = λ a b l m. code-old a b l;
    alone = λ a l. (code-to_new a l, code-new a);
    degree = λ a l. degree-row after grown_tidy a (omega arith) ∙ degree-old a l ∙ sym (degree-row t T a l);
    none = degree-row after grown_tidy t.n (omega arith) ∙ degree-new;
  }

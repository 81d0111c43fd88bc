-- The counts of a drawing, one atom or bond at a time.
use mathlib.Core.Bool.{Bool, true, false, cond, not, ◌&&◌, ◌||◌}
use mathlib.Core.List.{List, [], ◌∷◌, map, map-append}
use mathlib.Core.Path.{◌≡◌, ◌∙◌, sym, ap}
use Prim.Native.Nat.{ℕ, ◌+◌, ◌<◌}
use native.Mathlib.Numerals.{add-one}
use lib.Dec.{eqb, ltb}
use lib.ListN.{length, get_or, take}
use lib.Seq.{take-suc}
use Rattle.lists.specs.Upto.{upto, each, sum}
use Rattle.lists.specs.Tests.{some}
use Rattle.lists.proofs.Steps.{each-zero, some_next, sum-next}
use Rattle.lists.proofs.Passed.{count-snoc}
use Rattle.lists.proofs.Tested.{some-pass}
use Rattle.lists.proofs.Upto.{mem_upto, each-get_or}
use Rattle.molecule.specs.Bonds as molecule
use Rattle.molecule.specs.Refusals.{first_fault}
use Rattle.card.proofs.Faults.{Rest, rest_start}
use Rattle.drawing.specs.declared.Bond.{Bond}
use Rattle.drawing.specs.View.{bond_in}
use Rattle.drawing.specs.Tests.{is_h_in, heavy_in, heavy_bonds_in, unknown_tested}
use Rattle.drawing.proofs.Taken.{taken_next}

pub heavies_next : (ks : List ℕ) (p : ℕ) → p < length ks → heavy_in (take (p + 1) ks) ≡ heavy_in (take p ks) + cond (not (eqb (get_or ks p 0) 0)) 1 0
heavies_next ks p h = ap heavy_in (taken_next ks p h) ∙ count-snoc (λ k. not (eqb k 0)) (take p ks) (get_or ks p 0)

-- a bond without an H at an end
abbrev pub is_heavy : List ℕ → molecule.Bond → Bool
is_heavy ks b = not (is_h_in ks b.one || is_h_in ks b.two)

pub bonds-next : (ks : List ℕ) (bs : List Bond) (k : ℕ) (d : Bond) → k < length bs
    → heavy_bonds_in ks (map bond_in (take (k + 1) bs)) ≡ heavy_bonds_in ks (map bond_in (take k bs)) + cond (is_heavy ks (bond_in (get_or bs k d))) 1 0
bonds-next ks bs k d h =
    ap (λ (l : List molecule.Bond). heavy_bonds_in ks l) (rw (add-one k) (ap (λ (l : List Bond). map bond_in l) (take-suc bs k d h) ∙ map-append bond_in (take k bs) (get_or bs k d ∷ [])))
    ∙ count-snoc (is_heavy ks) (map bond_in (take k bs)) (bond_in (get_or bs k d))

-- the unknown symbols, by place
abbrev pub unknown : List ℕ → ℕ → ℕ
unknown kinds q = cond (ltb 24 (get_or kinds q 0)) 3 0

pub unknown-start : (ks : List ℕ) → unknown_tested ks ≡ Rest (unknown ks) (length ks) 0
unknown-start ks = ap first_fault (sym (each-get_or (λ (k : ℕ). cond {A = ℕ} (ltb 24 k) 3 0) ks 0)) ∙ rest_start (unknown ks) (length ks)

-- an H without a bond, and an atom with too many hydrogens, by place
abbrev pub lone : (kinds : List ℕ) → (used : List Bool) → ℕ → Bool
lone kinds used q = eqb (get_or kinds q 0) 0 && not (get_or used q false)

abbrev pub over : List ℕ → ℕ → Bool
over hydrogens b = ltb 4 (get_or hydrogens b 0)

-- a test of the numbers below a bound, one number more; and one that passes
module _ (p : ℕ → Bool) where
  pub none-start : some (each 0 p) ≡ false
  unfolding some
  none-start = ap some (each-zero p)

  pub none-next : (k : ℕ) → some (each k p) ≡ false → p k ≡ false → some (each (k + 1) p) ≡ false
  none-next k e f = rw (add-one k) (some_next k p ∙ rw (e, f))

  pub some-here : (n k : ℕ) → k < n → p k ≡ true → some (each n p) ≡ true
  unfolding each
  some-here n k h e = some-pass p (upto n) k (mem_upto n k h) e

pub sums_next : (f : ℕ → ℕ) (k : ℕ) → sum (each (k + 1) f) ≡ sum (each k f) + f k
sums_next f k = rw (add-one k) (sum-next k f)

pub sums_start : (f : ℕ → ℕ) → sum (each 0 f) ≡ 0
unfolding sum
sums_start f = ap sum (each-zero f)

-- Whatever text is cut into items, their marks are those of the four codes.
use mathlib.Core.Bool.{Bool, true, false, cond, not, ◌&&◌, ◌||◌}
use mathlib.Core.List.{List, [], ◌∷◌}
use Prim.Native.Nat.{ℕ, zero, suc, ◌+◌}
use native.Mathlib.Omega.{arith}
use lib.Dec.{eqb, ltb}
use Rattle.lists.proofs.All.{All}
use Rattle.molecule.specs.Kinds.{kind_of_symbol}
use Rattle.sling.specs.Items.{Target, Item, atom, reference, ring}
use Rattle.sling.specs.Scanned.{Scanned, got, broken, Number, number, none, is_digit, is_capital, is_small, small_first, number_at, placed, stepped, target, bracketed, body, mark_of, scan, token, tokens}
use Rattle.sling.specs.Faults.{code_of}
use Rattle.sling.proofs.Walks.{Marked, MarkedToken}

abbrev MarkedScan : Scanned → Type 0
MarkedScan (got i n) = Marked (code_of i)
MarkedScan broken = Unit {0}

either : (b : Bool) (x y : Scanned) → MarkedScan x → MarkedScan y → MarkedScan (cond b x y)
either true x y p q = p
either false x y p q = q

placed-marked : (v : Number) (k : ℕ) (f : Target → Item) → ((t : Target) → Marked (code_of (f t))) → MarkedScan (placed v k f)
placed-marked none k f h = tt
placed-marked (number v n) k f h = h _

stepped-marked : (v : Number) (k : ℕ) (f : Target → Item) → ((t : Target) → Marked (code_of (f t))) → MarkedScan (stepped v k f)
stepped-marked none k f h = tt
stepped-marked (number zero n) k f h = tt
stepped-marked (number (suc v) n) k f h = h _

target-marked : (l : List ℕ) (k : ℕ) (f : Target → Item) → ((t : Target) → Marked (code_of (f t))) → MarkedScan (target l k f)
unfolding target
target-marked [] k f h = tt
target-marked (b ∷ bs) k f h =
    either (eqb b 45) (stepped (number_at bs) (suc k) f) (placed (number_at (b ∷ bs)) k f) (stepped-marked (number_at bs) (suc k) f h) (placed-marked (number_at (b ∷ bs)) k f h)

bracketed-marked : (l : List ℕ) (k m : ℕ) → Marked m → MarkedScan (bracketed l k m)
unfolding bracketed
bracketed-marked [] k m h = tt
bracketed-marked (c ∷ []) k m h = tt
bracketed-marked (c ∷ s ∷ []) k m h = tt
bracketed-marked (c ∷ s ∷ e ∷ l) k m h = either (is_capital c && is_small s && eqb e 41) (got (atom m (kind_of_symbol (c ∷ s ∷ []))) (k + 4)) broken h tt

body-marked : (l : List ℕ) (k m : ℕ) → Marked m → MarkedScan (body l k m)
unfolding body
body-marked [] k m h = tt
body-marked (b ∷ bs) k m h =
    either (eqb b 47) _ _ (target-marked bs (suc k) (ring m) (λ t. h))
    (either (eqb b 40) _ _ (bracketed-marked bs k m h)
    (either (is_capital b && not (small_first bs)) (got (atom m (kind_of_symbol (b ∷ []))) (suc k)) broken h tt))

mark_marked : (b : ℕ) → Marked (mark_of b)
mark_marked b = pick (eqb b 61) (eqb b 42) (eqb b 60)
  where
    pick : (x y z : Bool) → Marked (cond x 2 (cond y 3 (cond z 4 1)))
    pick true y z = omega arith
    pick false true z = omega arith
    pick false false true = omega arith
    pick false false false = omega arith

scan-marked : (l : List ℕ) → MarkedScan (scan l)
unfolding scan
scan-marked [] = tt
scan-marked (b ∷ bs) =
    either (ltb 1 (mark_of b)) _ _ (body-marked bs 1 (mark_of b) (mark_marked b))
    (either (eqb b 43) _ _ (placed-marked (number_at bs) 1 reference (λ t. omega arith))
    (either (is_digit b || eqb b 45) _ _ (target-marked (b ∷ bs) 0 reference (λ t. omega arith)) (body-marked (b ∷ bs) 0 1 (omega arith))))

pub tokens-marked : (l : List ℕ) (k o : ℕ) → All MarkedToken (tokens l k o)
unfolding tokens
tokens-marked [] k o = tt
tokens-marked (b ∷ bs) (suc k) o = tokens-marked bs k (suc o)
tokens-marked (b ∷ bs) zero o = pick (scan (b ∷ bs)) (scan-marked (b ∷ bs)) (λ k. tokens-marked bs k (suc o))
  where
    pick : (s : Scanned) → MarkedScan s → ((k : ℕ) → All MarkedToken (tokens bs k (suc o))) → All MarkedToken (token s o (λ k. tokens bs k (suc o)))
    pick (got i n) h more = (h, more _)
    pick broken h more = (tt, tt)

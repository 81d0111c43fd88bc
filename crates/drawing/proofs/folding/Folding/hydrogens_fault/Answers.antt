-- No atom passed has too many hydrogens, and the total is that of the atoms passed.
use mathlib.Core.Bool.{Bool, true, false, cond}
use mathlib.Core.List.{List}
use mathlib.Core.Path.{◌≡◌, sym, ◌∙◌, ap, subst}
use Prim.Native.Nat.{ℕ, ◌≤◌, ◌<◌}
use native.Mathlib.Omega.{arith}
use lib.Dec.{ltb}
use lib.ListN.{get_or}
use lib.Seq.{get_or-take}
use borrow.Author.Tests.{lt-ltb, le-ltb}
use Rattle.lists.specs.Upto.{each, sum}
use Rattle.lists.specs.Tests.{some}
use Rattle.drawing.specs.Tests.{hydrogens_tested}
use Rattle.drawing.proofs.CountLaws.{over, none-start, none-next, some-here, sums_start, sums_next}
use Rattle.drawing.proofs.folding.Folding.hydrogens_fault.Goals as goal

-- no atom has too many, and whether the total is too high is known
ended : (hs : List ℕ) (n a total : ℕ) (b : Bool) → a ≡ n → some (each a (over hs)) ≡ false → total ≡ sum (each a (λ x. get_or hs x 0)) → ltb 128 total ≡ b
    → cond b 4 0 ≡ hydrogens_tested hs n
ended hs n a total b same e f g =
    let none : some (each n (over hs)) ≡ false = subst (λ (i : ℕ). some (each i (over hs)) ≡ false) same e in
    sym (rw (none, ← f ∙ ap (λ (i : ℕ). sum (each i (λ x. get_or hs x 0))) same, g))

pub loop-h-init : goal.loop-h-init
loop-h-init c = let hs = c.args.self.now.table.hydrogens in (none-start (over hs), sym (sums_start (λ b. get_or hs b 0)), omega arith)

pub returns-then-h-gt-MAX_HYDROGENS_ON : goal.returns-then-h-gt-MAX_HYDROGENS_ON
returns-then-h-gt-MAX_HYDROGENS_ON c =
    let t = c.args.self.now.table in
    let i : c.loop-h.h-index < t.n = omega arith in
    let h : 4 < get_or t.hydrogens c.loop-h.h-index 0 = omega (arith, get_or-take t.n t.hydrogens c.loop-h.h-index 0 i) in
    sym (rw (some-here (over t.hydrogens) t.n c.loop-h.h-index i (lt-ltb 4 _ h)))

pub loop-h-preserved : goal.loop-h-preserved
loop-h-preserved c =
    let t = c.args.self.now.table in
    let L = c.loop-h in
    let i : L.h-index < t.n = omega arith in
    let e = get_or-take t.n t.hydrogens L.h-index 0 i in
    let h : get_or t.hydrogens L.h-index 0 ≤ 4 = omega (arith, e) in
    (none-next (over t.hydrogens) L.h-index L.invariant.0 (le-ltb 4 _ h), omega (arith, e, L.invariant.1, sums_next (λ b. get_or t.hydrogens b 0) L.h-index), omega (arith, e, L.invariant.2))

pub returns-then-total-gt-MAX_HYDROGENS : goal.returns-then-total-gt-MAX_HYDROGENS
returns-then-total-gt-MAX_HYDROGENS c =
    let t = c.args.self.now.table in
    let L = c.loop-h in
    ended t.hydrogens t.n L.h-index L.total true (omega arith) L.invariant.0 L.invariant.1 (lt-ltb 128 L.total (omega arith))

pub returns : goal.returns
returns c =
    let t = c.args.self.now.table in
    let L = c.loop-h in
    ended t.hydrogens t.n L.h-index L.total false (omega arith) L.invariant.0 L.invariant.1 (le-ltb 128 L.total (omega arith))

-- No H passed is without a bond.
use mathlib.Core.Bool.{Bool, true, false, not, ◌&&◌, and-false}
use mathlib.Core.Path.{◌≡◌, sym, ◌∙◌, ap, ap₂, subst}
use Prim.Native.Nat.{ℕ}
use native.Mathlib.Omega.{arith}
use lib.Dec.{eqb}
use lib.ListN.{get_or}
use Rattle.lists.specs.Upto.{each}
use Rattle.lists.specs.Tests.{some}
use Rattle.kinds.specs.Known.{kind_in}
use Rattle.drawing.specs.View.{numbers_of}
use Rattle.drawing.proofs.Taken.{mapped_at, h_by}
use Rattle.drawing.proofs.CountLaws.{lone, none-start, none-next, some-here}
use Rattle.drawing.proofs.folding.Folding.has_lone_h.Goals.{else-eq-via-then-eq+else-not-self-p, else-eq-via-else-eq}
use Rattle.drawing.proofs.folding.Folding.has_lone_h.Goals as goal

pub loop-p-init : goal.loop-p-init
loop-p-init c = none-start (lone (numbers_of c.args.drawing.now) c.args.self.now.used)

pub returns-then-not-self-p : goal.returns-then-not-self-p
returns-then-not-self-p c =
    let d = c.args.drawing.now in
    let L = c.loop-p in
    let k = mapped_at kind_in d.kinds L.p c.index-drawing-p.result 0 (omega (arith, c.requires.kinds_long, c.requires.atoms)) in
    let h : eqb (get_or (numbers_of d) L.p 0) 0 ≡ true = ap (λ (x : ℕ). eqb x 0) k ∙ sym (h_by (get_or d.kinds L.p c.index-drawing-p.result)) ∙ sym c.eq.ensures ∙ c.if-eq.true in
    sym (some-here (lone (numbers_of d) c.args.self.now.used) d.counts.atoms L.p c.loop-p-test.true (ap₂ ◌&&◌ h (ap not c.if-not-self-p.true)))

pub loop-p-preserved : goal.loop-p-preserved
loop-p-preserved c =
    let d = c.args.drawing.now in
    let L = c.loop-p in
    let k = mapped_at kind_in d.kinds L.p c.index-drawing-p.result 0 (omega (arith, c.requires.kinds_long, c.requires.atoms)) in
    none-next (lone (numbers_of d) c.args.self.now.used) L.p L.invariant
    (elim c.else-eq.branch [
      | else-eq-via-then-eq+else-not-self-p w ↦ ap (λ (b : Bool). eqb (get_or (numbers_of d) L.p 0) 0 && not b) w.if-not-self-p.false ∙ and-false _
      | else-eq-via-else-eq w ↦ ap (λ (b : Bool). b && not (get_or c.args.self.now.used L.p false)) (ap (λ (x : ℕ). eqb x 0) k ∙ sym (h_by (get_or d.kinds L.p c.index-drawing-p.result)) ∙ sym c.eq.ensures ∙ w.if-eq.false)
    ])

pub returns : goal.returns
returns c =
    let e : c.loop-p.p ≡ c.args.drawing.now.counts.atoms = omega arith in
    sym (subst (λ (i : ℕ). some (each i (lone (numbers_of c.args.drawing.now) c.args.self.now.used)) ≡ false) e c.loop-p.invariant)

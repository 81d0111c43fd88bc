-- The atoms passed that are no H are counted.
use mathlib.Core.Bool.{Bool, cond, not}
use mathlib.Core.Path.{◌≡◌, ◌∙◌, sym, ap}
use Prim.Native.Nat.{ℕ, ◌<◌}
use native.Mathlib.Omega.{arith}
use lib.Dec.{eqb}
use lib.ListN.{take, get_or}
use lib.Seq.{get_or-take}
use Rattle.kinds.specs.Known.{kind_in}
use Rattle.drawing.specs.View.{numbers_of}
use Rattle.drawing.specs.Tests.{heavy_in}
use Rattle.drawing.proofs.Taken.{mapped_at, mapped_long, h_by}
use Rattle.drawing.proofs.CountLaws.{heavies_next}
use Rattle.drawing.proofs.Drawing.heavy_atoms.Goals.{then-ne, else-ne}
use Rattle.drawing.proofs.Drawing.heavy_atoms.Goals as goal

pub loop-kind-preserved : goal.loop-kind-preserved
loop-kind-preserved c =
    let d = c.args.self.now in
    let L = c.loop-kind in
    let h : L.kind-index < d.counts.atoms = omega arith in
    let k = ap kind_in (get_or-take d.counts.atoms d.kinds L.kind-index c.kind-item.result h) ∙ sym (mapped_at kind_in d.kinds L.kind-index c.kind-item.result 0 (omega (arith, c.requires.kinds_long, c.requires.atoms))) in
    let e = heavies_next (numbers_of d) L.kind-index (omega (arith, mapped_long kind_in d.kinds, c.requires.kinds_long, c.requires.atoms)) in
    let t : not (eqb (get_or (numbers_of d) L.kind-index 0) 0) ≡ c.ne.result
    = ap (λ (x : ℕ). not (eqb x 0)) (sym (ap kind_in c.kind-item.is ∙ k)) ∙ ap not (sym (h_by c.kind-item.result)) ∙ sym c.ne.ensures in
    elim c.if-ne.branch [
      | then-ne w ↦ (omega (arith, w.n-is, L.invariant.0), omega (arith, w.n-is, L.invariant.1, e, ap (λ (b : Bool). cond {A = ℕ} b 1 0) (t ∙ w.if-ne.true)))
      | else-ne w ↦ (omega (arith, w.n-is, L.invariant.0), omega (arith, w.n-is, L.invariant.1, e, ap (λ (b : Bool). cond {A = ℕ} b 1 0) (t ∙ w.if-ne.false)))
    ]

pub returns : goal.returns
returns c = let e : c.loop-kind.kind-index ≡ c.args.self.now.counts.atoms = omega arith in c.loop-kind.invariant.1 ∙ ap (λ (i : ℕ). heavy_in (take i (numbers_of c.args.self.now))) e

-- One law of Ends for each return.
use mathlib.Core.Path.{sym, ◌∙◌, ap}
use Prim.Native.Nat.{ℕ}
use lib.Dec.{eqb}
use lib.ListN.{get_or}
use native.Mathlib.Omega.{arith}
use Rattle.drawing.proofs.Taken.{h_by, number_at}
use Rattle.drawing.proofs.Ends.{absent_one, absent_two, h_one, h_two, h_none}
use Rattle.drawing.proofs.folding.Folding.ends_fault.Goals.{then-drawing-i-via-then-drawing-i, then-drawing-i-via-else-drawing-i+then-drawing-j}
use Rattle.drawing.proofs.folding.Folding.ends_fault.Goals as goal

pub returns-then-drawing-i : goal.returns-then-drawing-i
returns-then-drawing-i c =
    let a = c.args in
    elim c.then-drawing-i.branch [
      | then-drawing-i-via-then-drawing-i w ↦ absent_one a.drawing.now.kinds a.self.now.used a.drawing.now.counts.atoms a.i a.j a.code w.if-drawing-i.true
      | then-drawing-i-via-else-drawing-i+then-drawing-j w ↦ absent_two a.drawing.now.kinds a.self.now.used a.drawing.now.counts.atoms a.i a.j a.code w.if-drawing-i.false w.if-drawing-j.true
    ]

pub returns-then-eq : goal.returns-then-eq
returns-then-eq c =
    let a = c.args in
    c.h_fault.ensures
    ∙ h_one a.drawing.now.kinds a.self.now.used a.drawing.now.counts.atoms a.i a.j a.code (omega (arith, c.requires.kinds_long, c.requires.atoms)) c.if-drawing-i.false
    c.if-drawing-j.false c.index-drawing-i.result c.index-drawing-j.result (sym (h_by (get_or a.drawing.now.kinds a.i c.index-drawing-i.result)) ∙ sym c.eq.ensures ∙ c.if-eq.true)

pub returns-then-eq-2 : goal.returns-then-eq-2
returns-then-eq-2 c =
    let a = c.args in
    let k = number_at a.drawing.now.kinds a.drawing.now.counts.atoms a.i c.index-drawing-i.result c.requires.atoms c.requires.kinds_long c.if-drawing-i.false in
    let l = number_at a.drawing.now.kinds a.drawing.now.counts.atoms a.i c.index-drawing-i-then-eq-2.result c.requires.atoms c.requires.kinds_long c.if-drawing-i.false in
    c.h_fault-then-eq-2.ensures
    ∙ h_two a.drawing.now.kinds a.self.now.used a.drawing.now.counts.atoms a.i a.j a.code (omega (arith, c.requires.kinds_long, c.requires.atoms)) c.if-drawing-i.false
    c.if-drawing-j.false c.index-drawing-i-then-eq-2.result c.index-drawing-j-2.result
    (ap (λ (x : ℕ). eqb x 0) (sym l ∙ k) ∙ sym (h_by (get_or a.drawing.now.kinds a.i c.index-drawing-i.result)) ∙ sym c.eq.ensures ∙ c.if-eq.false)
    (sym (h_by (get_or a.drawing.now.kinds a.j c.index-drawing-j-2.result)) ∙ sym c.eq-2.ensures ∙ c.if-eq-2.true)

pub returns : goal.returns
returns c =
    let a = c.args in
    h_none a.drawing.now.kinds a.self.now.used a.drawing.now.counts.atoms a.i a.j a.code (omega (arith, c.requires.kinds_long, c.requires.atoms)) c.if-drawing-i.false
    c.if-drawing-j.false c.index-drawing-i.result c.index-drawing-j-2.result (sym (h_by (get_or a.drawing.now.kinds a.i c.index-drawing-i.result)) ∙ sym c.eq.ensures ∙ c.if-eq.false)
    (sym (h_by (get_or a.drawing.now.kinds a.j c.index-drawing-j-2.result)) ∙ sym c.eq-2.ensures ∙ c.if-eq-2.false)

-- The bonds passed without an H end are counted.
use mathlib.Core.Bool.{Bool, cond, not, ◌||◌}
use mathlib.Core.Path.{◌≡◌, ◌∙◌, sym, ap, ap₂}
use Prim.Native.Nat.{ℕ, ◌<◌}
use native.Mathlib.Omega.{arith}
use mathlib.Core.List.{map}
use lib.ListN.{take, get_or}
use lib.Seq.{get_or-take}
use Rattle.drawing.specs.declared.Bond.{Bond}
use Rattle.drawing.specs.View.{kinds_in, bond_in}
use Rattle.drawing.specs.Tests.{is_h_in, heavy_bonds_in}
use Rattle.drawing.proofs.CountLaws.{bonds-next}
use Rattle.drawing.proofs.Drawing.heavy_bonds.Goals.{then-not-is_h+then-not-is_h-2, else-not-is_h, else-not-is_h-via-then-not-is_h+else-not-is_h-2, else-not-is_h-via-else-not-is_h}
use Rattle.drawing.proofs.Drawing.heavy_bonds.Goals as goal

abbrev no : Bond
no = record { one = 0; two = 0; code = 0 }

pub loop-bond-preserved : goal.loop-bond-preserved
loop-bond-preserved c =
    let d = c.args.self.now in
    let L = c.loop-bond in
    let h : L.bond-index < d.counts.bonds = omega arith in
    let b : get_or (take d.counts.bonds d.bonds) L.bond-index no ≡ get_or d.bonds L.bond-index no = get_or-take d.counts.bonds d.bonds L.bond-index no h in
    let e = bonds-next (kinds_in d) d.bonds L.bond-index no (omega (arith, c.requires.bonds_long, c.requires.bonds)) in
    let one = ap (λ (y : Bond). is_h_in (kinds_in d) y.one) (sym b) ∙ sym c.is_h.ensures in
    elim c.if-not-is_h.branch [
      | then-not-is_h+then-not-is_h-2 w ↦
          let two = ap (λ (y : Bond). is_h_in (kinds_in d) y.two) (sym b) ∙ sym w.is_h-then-not-is_h.ensures in
          (omega (arith, w.n-is, L.invariant.0), omega (arith, w.n-is, L.invariant.1, e, ap₂ (λ (p q : Bool). cond {A = ℕ} (not (p || q)) 1 0) (one ∙ w.if-not-is_h.true) (two ∙ w.if-not-is_h-2.true)))
      | else-not-is_h w ↦ elim w.else-not-is_h.branch [
        | else-not-is_h-via-then-not-is_h+else-not-is_h-2 v ↦
            let two = ap (λ (y : Bond). is_h_in (kinds_in d) y.two) (sym b) ∙ sym v.is_h-then-not-is_h.ensures in
            (omega (arith, w.n-is, L.invariant.0), omega (arith, w.n-is, L.invariant.1, e, ap₂ (λ (p q : Bool). cond {A = ℕ} (not (p || q)) 1 0) (one ∙ v.if-not-is_h.true) (two ∙ v.if-not-is_h-2.false)))
        | else-not-is_h-via-else-not-is_h v ↦
            (omega (arith, w.n-is, L.invariant.0), omega (arith, w.n-is, L.invariant.1, e, ap (λ (p : Bool). cond {A = ℕ} (not (p || is_h_in (kinds_in d) (get_or d.bonds L.bond-index no).two)) 1 0) (one ∙ v.if-not-is_h.false)))
      ]
    ]

pub returns : goal.returns
returns c =
    let e : c.loop-bond.bond-index ≡ c.args.self.now.counts.bonds = omega (arith, c.requires.bonds_long, c.requires.bonds) in
    c.loop-bond.invariant.1 ∙ ap (λ (i : ℕ). heavy_bonds_in (kinds_in c.args.self.now) (map bond_in (take i c.args.self.now.bonds))) e

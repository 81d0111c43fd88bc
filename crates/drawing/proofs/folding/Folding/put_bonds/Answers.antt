-- One law of BondLoop for each way of the loop.
use mathlib.Core.Path.{◌≡◌, refl, sym, subst}
use Prim.Native.Nat.{◌<◌}
use native.Mathlib.Omega.{arith}
use lib.ListN.{length, get_or, take}
use Rattle.std.proofs.Common.{rules, Err, Result}
use Rattle.ctfile.specs.Drawings.{no_bond}
use Rattle.refusal.specs.declared.Refusal.{Refusal}
use Rattle.refusal.specs.Numbers.{refusal_in}
use Rattle.card.proofs.Faults.{number_of-some}
use Rattle.drawing.specs.declared.Bond.{Bond}
use Rattle.drawing.specs.View.{bond_in, drawing_in}
use Rattle.drawing.specs.Folding.{BondsFolded}
use Rattle.drawing.proofs.Taken.{mapped_at, mapped_long}
use Rattle.drawing.proofs.FoldLaws.{folded_start}
use Rattle.drawing.proofs.BondLoop.{atoms-length, bonds-length, loop_done, loop_foldable, loop_refused, loop_next}
use Rattle.drawing.proofs.folding.Folding.put_bonds.Goals.{At-loop-bond}
use Rattle.drawing.proofs.folding.Folding.put_bonds.Goals as goal

abbrev no : Bond
no = record { one = 0; two = 0; code = 0 }

-- bond k of the drawing
bond-is : (c : At-loop-bond) → c.loop-bond.bond-index < c.args.drawing.now.counts.bonds
    → bond_in (get_or (take c.args.drawing.now.counts.bonds c.args.drawing.now.bonds) c.loop-bond.bond-index no) ≡ get_or (drawing_in c.args.drawing.now).bonds c.loop-bond.bond-index no_bond
bond-is c h =
    let d = c.args.drawing.now in
    sym (mapped_at bond_in (take d.counts.bonds d.bonds) c.loop-bond.bond-index no no_bond (omega (arith, bonds-length d c.requires.0, mapped_long bond_in (take d.counts.bonds d.bonds))))

more : (c : At-loop-bond) → c.loop-bond.bond-index < length (take c.args.drawing.now.counts.bonds c.args.drawing.now.bonds) → c.loop-bond.bond-index < c.args.drawing.now.counts.bonds
more c h =
    let d = c.args.drawing.now in omega (arith, bonds-length d c.requires.0, mapped_long bond_in (take d.counts.bonds d.bonds))

pub loop-bond-init : goal.loop-bond-init
loop-bond-init c = folded_start (drawing_in c.args.drawing.now) c.args.self.now c.requires.1 (omega (arith, atoms-length c.args.drawing.now c.requires.0, c.requires.0.atoms))

pub put-requires : goal.put-requires
put-requires c =
    let s = (goal.at.put-requires c).At-loop-bond in
    let h = more s c.loop-bond-test.true in
    loop_foldable c.args.drawing.now c.requires.0 c.loop-bond.self c.loop-bond.bond-index c.loop-bond.invariant h _ (bond-is s h)

pub returns-in_err-put : goal.returns-in_err-put
returns-in_err-put c =
    let s = (goal.at.returns-in_err-put c).At-loop-bond in
    let h = more s c.loop-bond-test.true in
    let e : c.from_residual.result ≡ Err c.in_err-put.field-0.0 = search rules in
    subst (λ (x : Result (Unit {0}) Refusal). BondsFolded (drawing_in c.args.drawing.now) c.put.new.self (refusal_in x)) (sym e)
    (loop_refused c.args.drawing.now c.requires.0 c.loop-bond.self c.loop-bond.bond-index c.loop-bond.invariant h _ (bond-is s h) c.put.new.self _ c.in_err-put.ensures (number_of-some _))

pub loop-bond-preserved : goal.loop-bond-preserved
loop-bond-preserved c =
    let s = (goal.at.loop-bond-preserved c).At-loop-bond in
    let h = more s c.loop-bond-test.true in
    loop_next c.args.drawing.now c.requires.0 c.loop-bond.self c.loop-bond.bond-index c.loop-bond.invariant h _ (bond-is s h) c.put.new.self 0 c.in_ok-put.ensures refl

pub returns : goal.returns
returns c =
    let d = c.args.drawing.now in
    loop_done d c.requires.0 c.loop-bond.self c.loop-bond.bond-index c.loop-bond.invariant (omega (arith, bonds-length d c.requires.0, mapped_long bond_in (take d.counts.bonds d.bonds)))

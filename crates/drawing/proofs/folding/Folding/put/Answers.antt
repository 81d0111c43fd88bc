-- A bond whose ends pass is put or counted, and its ends are marked where it is not refused.
use mathlib.Core.Bool.{true}
use mathlib.Core.Path.{◌≡◌, sym, ap, subst}
use Prim.Native.Nat.{◌<◌}
use native.Mathlib.Omega.{arith}
use lib.ListN.{set}
use Rattle.std.proofs.Common.{rules, Err, Result}
use Rattle.refusal.specs.declared.Refusal.{Refusal}
use Rattle.refusal.specs.Numbers.{refusal_in}
use Rattle.card.proofs.Faults.{number_of-some}
use Rattle.drawing.specs.declared.folding.Folding.{Folding}
use Rattle.drawing.specs.View.{numbers_of, bond_in}
use Rattle.drawing.specs.Folding.{BondFolded}
use Rattle.drawing.proofs.Taken.{number_at}
use Rattle.drawing.proofs.Ends.{tested_inside}
use Rattle.drawing.proofs.folding.Folding.put.Goals.{In_ok-ends_fault}
use Rattle.drawing.proofs.folding.Folding.put.Goals as goal

inside : (c : In_ok-ends_fault) → (c.args.bond.one < c.args.drawing.now.counts.atoms) × (c.args.bond.two < c.args.drawing.now.counts.atoms)
inside c = tested_inside (numbers_of c.args.drawing.now) c.args.self.now.used c.args.drawing.now.counts.atoms (bond_in c.args.bond) (sym c.in_ok-ends_fault.ensures)

pub bounds-self-i : goal.bounds-self-i
bounds-self-i c = omega (arith, c.requires.fits.atoms, (inside (goal.at.bounds-self-i c).In_ok-ends_fault).0)

pub bounds-self-j : goal.bounds-self-j
bounds-self-j c = omega (arith, c.requires.fits.atoms, (inside (goal.at.bounds-self-j c).In_ok-ends_fault).1)

pub listed : goal.listed
listed c = omega (arith, c.requires.fits.atoms, c.requires.fits.kinds_long, (inside (goal.at.listed c).In_ok-ends_fault).0)

pub bounds-drawing-i : goal.bounds-drawing-i
bounds-drawing-i c = omega (arith, c.requires.fits.atoms, (inside (goal.at.bounds-drawing-i c).In_ok-ends_fault).0)

pub listed-2 : goal.listed-2
listed-2 c = omega (arith, c.requires.fits.atoms, c.requires.fits.kinds_long, (inside (goal.at.listed-2 c).In_ok-ends_fault).1)

pub bounds-drawing-j : goal.bounds-drawing-j
bounds-drawing-j c = omega (arith, c.requires.fits.atoms, (inside (goal.at.bounds-drawing-j c).In_ok-ends_fault).1)

pub put_link-requires : goal.put_link-requires
put_link-requires c =
    let d = c.args.drawing.now in
    let I = inside (goal.at.put_link-requires c).In_ok-ends_fault in
    let L = c.requires.linkable (sym c.in_ok-ends_fault.ensures) in
    rw (
      sym (number_at d.kinds d.counts.atoms c.args.bond.one c.index-drawing-i.result c.requires.fits.atoms c.requires.fits.kinds_long I.0),
      sym (number_at d.kinds d.counts.atoms c.args.bond.two c.index-drawing-j.result c.requires.fits.atoms c.requires.fits.kinds_long I.1),
    )
    L

pub returns-in_err-put_link : goal.returns-in_err-put_link
returns-in_err-put_link c =
    let d = c.args.drawing.now in
    let I = inside (goal.at.returns-in_err-put_link c).In_ok-ends_fault in
    let e : c.from_residual-in_err-put_link.result ≡ Err c.in_err-put_link.field-0.0 = search rules in
    let P = c.in_err-put_link.ensures in
    subst (λ (x : Result (Unit {0}) Refusal). BondFolded d (bond_in c.args.bond) c.args.self.now c.put_link.new.self (refusal_in x)) (sym e)
    (record {
      absent = λ n. absurd (n (sym c.in_ok-ends_fault.ensures));
      kept = (ap (λ (f : Folding). f.table) P.kept, ap (λ (f : Folding). f.numbers) P.kept);
      linked = λ z. rw (
        number_at d.kinds d.counts.atoms c.args.bond.one c.index-drawing-i.result c.requires.fits.atoms c.requires.fits.kinds_long I.0,
        number_at d.kinds d.counts.atoms c.args.bond.two c.index-drawing-j.result c.requires.fits.atoms c.requires.fits.kinds_long I.1,
      )
          P.rows;
      marked = λ z q. absurd (number_of-some _ q);
    })

pub bounds-self-i-2 : goal.bounds-self-i-2
bounds-self-i-2 c = omega (arith, c.requires.fits.atoms, (inside (goal.at.bounds-self-i-2 c).In_ok-ends_fault).0)

pub bounds-self-j-2 : goal.bounds-self-j-2
bounds-self-j-2 c = omega (arith, c.requires.fits.atoms, (inside (goal.at.bounds-self-j-2 c).In_ok-ends_fault).1)

pub returns : goal.returns
returns c =
    let d = c.args.drawing.now in
    let b = c.args.bond in
    let I = inside (goal.at.returns c).In_ok-ends_fault in
    let P = c.in_ok-put_link.ensures in
    record {
      absent = λ n. absurd (n (sym c.in_ok-ends_fault.ensures));
      kept = (ap (λ (f : Folding). f.table) P.kept, ap (λ (f : Folding). f.numbers) P.kept);
      linked = λ z. rw (
        number_at d.kinds d.counts.atoms b.one c.index-drawing-i.result c.requires.fits.atoms c.requires.fits.kinds_long I.0,
        number_at d.kinds d.counts.atoms b.two c.index-drawing-j.result c.requires.fits.atoms c.requires.fits.kinds_long I.1,
      )
          P.rows;
      marked = λ z q. ap (λ (f : Folding). set (set f.used b.one true) b.two true) P.kept;
    }

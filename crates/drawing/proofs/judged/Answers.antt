-- Each return is the first refusal in the order of document 02, given that none before it was due.
use mathlib.Core.Path.{◌≡◌, refl, sym, subst}
use Rattle.std.proofs.Common.{rules, Err}
use Rattle.drawing.specs.View.{drawing_in}
use Rattle.drawing.specs.Folding.{IsFolded}
use Rattle.drawing.proofs.Whole.{whole-counts, whole-unknown, whole-bonds, whole_ready, whole-finished, whole-ended}
use Rattle.drawing.proofs.judged.Goals as goal

pub returns-in_err-counts_fault : goal.returns-in_err-counts_fault
returns-in_err-counts_fault c =
    let e : c.from_residual.result ≡ Err c.in_err-counts_fault.field-0.0 = search rules in
    subst (IsFolded (drawing_in c.args.drawing.now)) (sym e) (whole-counts c.args.drawing.now c.requires _ c.in_err-counts_fault.ensures)

pub returns-in_err-put_atoms : goal.returns-in_err-put_atoms
returns-in_err-put_atoms c =
    let e : c.from_residual-in_err-put_atoms.result ≡ Err c.in_err-put_atoms.field-0.0 = search rules in
    let P = c.in_err-put_atoms.ensures in
    subst (IsFolded (drawing_in c.args.drawing.now)) (sym e) (whole-unknown c.args.drawing.now c.requires c.in_ok-counts_fault.ensures _ P.refusal)

pub put_bonds-requires : goal.put_bonds-requires
put_bonds-requires c = let P = c.in_ok-put_atoms.ensures in (c.requires, P.atoms refl)

pub returns-in_err-put_bonds : goal.returns-in_err-put_bonds
returns-in_err-put_bonds c =
    let e : c.from_residual-in_err-put_bonds.result ≡ Err c.in_err-put_bonds.field-0.0 = search rules in
    let P = c.in_ok-put_atoms.ensures in
    subst (IsFolded (drawing_in c.args.drawing.now)) (sym e)
    (whole-bonds c.args.drawing.now c.requires c.in_ok-counts_fault.ensures P.refusal c.put_bonds.new.self _ c.in_err-put_bonds.ensures)

pub finished-requires : goal.finished-requires
finished-requires c =
    let P = c.in_ok-put_atoms.ensures in
    let w = whole_ready c.args.drawing.now c.requires c.in_ok-counts_fault.ensures P.refusal c.put_bonds.new.self c.in_ok-put_bonds.ensures in
    (c.requires, w.0, w.1, w.2)

pub returns-in_err-finished : goal.returns-in_err-finished
returns-in_err-finished c =
    let e : c.from_residual-in_err-finished.result ≡ Err c.in_err-finished.field-0.0 = search rules in
    let P = c.in_ok-put_atoms.ensures in
    subst (IsFolded (drawing_in c.args.drawing.now)) (sym e)
    (whole-finished c.args.drawing.now c.requires c.in_ok-counts_fault.ensures P.refusal c.put_bonds.new.self c.in_ok-put_bonds.ensures _ c.in_err-finished.ensures)

pub returns : goal.returns
returns c =
    let P = c.in_ok-put_atoms.ensures in
    whole-ended c.args.drawing.now c.requires c.in_ok-counts_fault.ensures P.refusal c.put_bonds.new.self c.in_ok-put_bonds.ensures c.in_ok-finished.ensures

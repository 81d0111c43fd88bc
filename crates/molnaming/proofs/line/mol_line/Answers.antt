use Rattle.std.proofs.Common.{◌≤◌, sym, length, arith, rules}
use lib.Seq.{length-take-le}
use Rattle.scallopgrid.specs.Returned.{returned}
use Rattle.scallopgrid.proofs.Fits.{molfile_fits}
use Rattle.molnaming.proofs.Named.{line_refused, line_named}
use Rattle.molnaming.proofs.line.mol_line.Goals as goal

pub slice_bounds-lent-end : goal.slice_bounds-lent-end
slice_bounds-lent-end c = let a = c.name_of_molfile-a in omega (arith, molfile_fits _ _ _ _ a.ensures)

pub slice_bounds-put_named-end : goal.slice_bounds-put_named-end
slice_bounds-put_named-end c =
    let a = c.name_of_molfile-a in
    let h : a.result.length ≤ length a.new.out = omega (arith, molfile_fits _ _ _ _ a.ensures) in
    sym (length-take-le _ _ h)

pub put_named-requires : goal.put_named-requires
put_named-requires c =
    let a = c.name_of_molfile-a in
    let h : a.result.length ≤ length a.new.out = omega (arith, molfile_fits _ _ _ _ a.ensures) in
    omega (arith, length-take-le a.result.length a.new.out h, molfile_fits _ _ _ _ a.ensures)

pub returns-in-0 : goal.returns-in-0
returns-in-0 c =
    let a = c.name_of_molfile-a in
    line_named _ _ (returned a.result a.new.out) (search rules) a.ensures _ _ _ c.in-0.is c.put_named.ensures

pub returns-in_default : goal.returns-in_default
returns-in_default c =
    let a = c.name_of_molfile-a in
    line_refused _ _ (returned a.result a.new.out) (search rules) a.ensures _ _ _ (omega arith) c.put_refusal.ensures

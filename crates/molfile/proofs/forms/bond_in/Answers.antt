-- One law of FormLaws for each return. What the test of the length says is taken by arithmetic, so that another test is refused for what it lets through.
use native.Mathlib.Omega.{arith}
use Rattle.std.proofs.Common.{sym, subst}
use Rattle.molfile.specs.Taking.{IsBond}
use Rattle.molfile.proofs.FormLaws.{bond_short, bond_none, bond_first, bond_second, bond_third, bond_right}
use Rattle.molfile.proofs.forms.bond_in.Goals as goal

pub returns-then-line-lt9 : goal.returns-then-line-lt9
returns-then-line-lt9 c = bond_short c.args.line.now (omega arith)

pub returns-in_err-one : goal.returns-in_err-one
returns-in_err-one c =
    let l = c.args.line.now in
    subst (IsBond l) (sym c.from_residual.ensures) (bond_none l (λ h. bond_first l h c.in_err-one.ensures))

pub returns-in_err-two : goal.returns-in_err-two
returns-in_err-two c =
    let l = c.args.line.now in
    subst (IsBond l) (sym c.from_residual-in_err-two.ensures) (bond_none l (λ h. bond_second l h _ c.in_ok-one.ensures c.in_err-two.ensures))

pub returns-in_err-code : goal.returns-in_err-code
returns-in_err-code c =
    let l = c.args.line.now in
    subst (IsBond l) (sym c.from_residual-in_err-code.ensures)
    (bond_none l (λ h. bond_third l h _ c.in_ok-one.ensures _ c.in_ok-two.ensures c.in_err-code.ensures))

pub returns : goal.returns
returns c =
    bond_right c.args.line.now (omega arith) _ c.in_ok-one.ensures _ c.in_ok-two.ensures _ _ _ c.from_one.ensures c.from_one-2.ensures c.in_ok-code.ensures

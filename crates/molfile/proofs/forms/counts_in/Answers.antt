-- One law of FormLaws for each return.
use Rattle.std.proofs.Common.{sym, ◌∙◌, subst}
use Rattle.molfile.specs.Taking.{AreCounts}
use Rattle.molfile.proofs.FormLaws.{counts_version, counts_atoms, counts_bonds, counts_right}
use Rattle.molfile.proofs.forms.counts_in.Goals as goal

pub returns-then-not-is_version : goal.returns-then-not-is_version
returns-then-not-is_version c = counts_version c.args.line.now (sym c.is_version.ensures ∙ c.if-not-is_version.true)

pub returns-in_err-atoms : goal.returns-in_err-atoms
returns-in_err-atoms c =
    subst (AreCounts c.args.line.now) (sym c.from_residual.ensures)
    (counts_atoms c.args.line.now (sym c.is_version.ensures ∙ c.if-not-is_version.false) (c.in_err-atoms.ensures))

pub returns-in_err-bonds : goal.returns-in_err-bonds
returns-in_err-bonds c =
    subst (AreCounts c.args.line.now) (sym c.from_residual-in_err-bonds.ensures)
    (counts_bonds c.args.line.now (sym c.is_version.ensures ∙ c.if-not-is_version.false) _ (c.in_ok-atoms.ensures) (c.in_err-bonds.ensures))

pub returns : goal.returns
returns c =
    counts_right c.args.line.now (sym c.is_version.ensures ∙ c.if-not-is_version.false) _ (c.in_ok-atoms.ensures) _ (c.in_ok-bonds.ensures)

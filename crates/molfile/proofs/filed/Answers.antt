-- One law of FilingLaws for each return.
use Rattle.std.proofs.Common.{◌≡◌, refl, sym, ◌∙◌, ap, subst, rules, Err, ℕ, Option, None}
use lib.ListN.{length, length-replicate}
use Rattle.drawing.specs.declared.Bond.{Bond}
use Rattle.drawing.specs.declared.Drawing.{Drawing}
use Rattle.molfile.specs.Filing.{IsFiled}
use Rattle.molfile.proofs.FilingLaws.{filed_header, filed_counts, few_atoms, few_bonds, filed_atoms, filed_bonds, filed_ended}
use Rattle.molfile.proofs.filed.Goals as goal

pub returns-in_err-at_counts : goal.returns-in_err-at_counts
returns-in_err-at_counts c =
    let e : c.from_residual.result ≡ Err c.in_err-at_counts.field-0.0 = search rules in
    let P = c.in_err-at_counts.ensures in
    subst (IsFiled c.args.file.now _) (sym e) (filed_header c.args.file.now _ _ P.passes)

pub returns-in_err-at_atoms : goal.returns-in_err-at_atoms
returns-in_err-at_atoms c =
    let e : c.from_residual-in_err-at_atoms.result ≡ Err c.in_err-at_atoms.field-0.0 = search rules in
    let H = c.in_ok-at_counts.ensures in
    let P = c.in_err-at_atoms.ensures in
    subst (IsFiled c.args.file.now _) (sym e) (filed_counts c.args.file.now _ H.passes _ _ P.passes)

pub pass-requires-3 : goal.pass-requires-3
pass-requires-3 c =
    let H = c.in_ok-at_counts.ensures in
    let C = c.in_ok-at_atoms.ensures in (
      few_atoms c.args.file.now _ H.passes _ C.passes _ C.taken,
      record { long = ap (λ (d : Drawing). length d.kinds) c.requires ∙ length-replicate {A = Option ℕ} 999 None; are = refl },
    )

pub returns-in_err-at_bonds : goal.returns-in_err-at_bonds
returns-in_err-at_bonds c =
    let e : c.from_residual-in_err-at_bonds.result ≡ Err c.in_err-at_bonds.field-0.0 = search rules in
    let H = c.in_ok-at_counts.ensures in
    let C = c.in_ok-at_atoms.ensures in
    let P = c.in_err-at_bonds.ensures in
    subst (IsFiled c.args.file.now _) (sym e) (filed_atoms c.args.file.now _ H.passes _ C.passes _ C.taken _ _ P.passes)

pub pass-requires-4 : goal.pass-requires-4
pass-requires-4 c =
    let H = c.in_ok-at_counts.ensures in
    let C = c.in_ok-at_atoms.ensures in (
      few_bonds c.args.file.now _ H.passes _ C.passes _ C.taken,
      record {
        long = ap (λ (d : Drawing). length d.bonds) c.requires ∙ length-replicate {A = Bond} 999 (record { one = 0; two = 0; code = 0 });
        are = refl;
      },
    )

pub returns-in_err-at_properties : goal.returns-in_err-at_properties
returns-in_err-at_properties c =
    let e : c.from_residual-in_err-at_properties.result ≡ Err c.in_err-at_properties.field-0.0 = search rules in
    let H = c.in_ok-at_counts.ensures in
    let C = c.in_ok-at_atoms.ensures in
    let A = c.in_ok-at_bonds.ensures in
    let P = c.in_err-at_properties.ensures in
    subst (IsFiled c.args.file.now _) (sym e) (filed_bonds c.args.file.now _ H.passes _ C.passes _ C.taken _ A.passes _ _ P.passes)

pub properties-requires : goal.properties-requires
properties-requires c =
    let H = c.in_ok-at_counts.ensures in
    let C = c.in_ok-at_atoms.ensures in
    few_atoms c.args.file.now _ H.passes _ C.passes _ C.taken

pub returns : goal.returns
returns c =
    let H = c.in_ok-at_counts.ensures in
    let C = c.in_ok-at_atoms.ensures in
    let A = c.in_ok-at_bonds.ensures in
    let B = c.in_ok-at_properties.ensures in
    filed_ended c.args.file.now _ H.passes _ C.passes _ C.taken _ A.passes _ B.passes _ _ A.taken B.taken _ c.properties.ensures

-- A bond to an H counts at its other end; another is judged as on a card, and put into both rows.
use mathlib.Core.Path.{◌≡◌, refl, sym, ◌∙◌, ap}
use Rattle.std.proofs.Common.{rules, Err, Result}
use borrow.Author.Tests.{eqb-false}
use Rattle.refusal.specs.declared.Refusal.{Refusal}
use Rattle.refusal.specs.Numbers.{refusal_in}
use Rattle.card.proofs.Faults.{number_of-some}
use Rattle.drawing.specs.Tests.{capped}
use Rattle.drawing.proofs.Taken.{h_by}
use Rattle.drawing.proofs.Codes.{byte_is, byte_tested, byte_same, put_same}
use Rattle.drawing.proofs.folding.Folding.put_link.Goals as goal

pub returns-in_err-bond_fault : goal.returns-in_err-bond_fault
returns-in_err-bond_fault c =
    let u = eqb-false _ _ (sym (h_by c.args.kind) ∙ sym c.eq.ensures ∙ c.if-eq.false) in
    let v = eqb-false _ _ (sym (h_by c.args.other) ∙ sym c.eq-2.ensures ∙ c.if-eq-2.false) in
    let e : c.from_residual.result ≡ Err c.in_err-bond_fault.field-0.0 = search rules in
    let n = ap (λ (x : Result (Unit {0}) Refusal). refusal_in x) e in
    let b : c.min-byte.result ≡ capped c.args.code = c.min-byte.ensures ∙ byte_is c.args.code in
    let R = c.args.self.now.table.rows in
    record {
      kept = refl;
      rows = record {
        one = λ z. absurd (u z);
        two = λ y z. absurd (v z);
        judged = λ y z. n ∙ c.in_err-bond_fault.ensures ∙ byte_tested c.args.self.now.table.n R.degrees R.near R.codes c.args.a.0 c.args.b.0 c.args.code _ b;
        bond = λ y z w. absurd (number_of-some _ (sym n ∙ w));
      };
    }

pub put_bond-requires : goal.put_bond-requires
put_bond-requires c =
    let R = c.args.self.now.table.rows in
    let b : c.min-byte.result ≡ capped c.args.code = c.min-byte.ensures ∙ byte_is c.args.code in
    c.requires.bond (sym (byte_tested c.args.self.now.table.n R.degrees R.near R.codes c.args.a.0 c.args.b.0 c.args.code _ b) ∙ sym c.in_ok-bond_fault.ensures)

pub returns : goal.returns
returns c =
    let u = eqb-false _ _ (sym (h_by c.args.kind) ∙ sym c.eq.ensures ∙ c.if-eq.false) in
    let v = eqb-false _ _ (sym (h_by c.args.other) ∙ sym c.eq-2.ensures ∙ c.if-eq-2.false) in
    let b : c.min-byte.result ≡ capped c.args.code = c.min-byte.ensures ∙ byte_is c.args.code in
    let R = c.args.self.now.table.rows in
    let t = byte_tested c.args.self.now.table.n R.degrees R.near R.codes c.args.a.0 c.args.b.0 c.args.code _ b in
    let k = byte_same c.args.self.now.table.n R.degrees R.near R.codes c.args.a.0 c.args.b.0 c.args.code _ b (sym c.in_ok-bond_fault.ensures) in
    record {
      kept = refl;
      rows = record {
        one = λ z. absurd (u z);
        two = λ y z. absurd (v z);
        judged = λ y z. c.in_ok-bond_fault.ensures ∙ t;
        bond = λ y z w. (put_same _ _ _ _ _ _ k c.put_bond.ensures, refl);
      };
    }

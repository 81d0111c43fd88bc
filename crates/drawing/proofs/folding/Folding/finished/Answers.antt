-- Each return is the first fault in the order of the rules, given that none before it was due.
use mathlib.Core.Path.{◌≡◌, ◌∙◌, ap}
use Rattle.std.proofs.Common.{rules, Err, Result}
use Rattle.refusal.specs.declared.Refusal.{Refusal}
use Rattle.refusal.specs.Numbers.{refusal_in}
use Rattle.drawing.proofs.Whole.{ended-lone, ended-hydrogens, ended-apart, ended-whole}
use Rattle.drawing.proofs.folding.Folding.finished.Goals as goal

pub returns-then-has_lone_h : goal.returns-then-has_lone_h
returns-then-has_lone_h c = ended-lone c.args.drawing.now c.args.self.now _ c.has_lone_h.ensures c.if-has_lone_h.true

pub returns-in_err-hydrogens_fault : goal.returns-in_err-hydrogens_fault
returns-in_err-hydrogens_fault c =
    let e : c.from_residual.result ≡ Err c.in_err-hydrogens_fault.field-0.0 = search rules in
    ap (λ (x : Result (Unit {0}) Refusal). refusal_in x) e
    ∙ ended-hydrogens c.args.drawing.now c.args.self.now _ c.has_lone_h.ensures c.if-has_lone_h.false _ c.in_err-hydrogens_fault.ensures

pub returns-then-not-connected : goal.returns-then-not-connected
returns-then-not-connected c =
    ended-apart c.args.drawing.now c.args.self.now _ c.has_lone_h.ensures c.if-has_lone_h.false c.in_ok-hydrogens_fault.ensures _ c.connected.ensures c.if-not-connected.true

pub returns : goal.returns
returns c =
    ended-whole c.args.drawing.now c.args.self.now _ c.has_lone_h.ensures c.if-has_lone_h.false c.in_ok-hydrogens_fault.ensures _ c.connected.ensures c.if-not-connected.false

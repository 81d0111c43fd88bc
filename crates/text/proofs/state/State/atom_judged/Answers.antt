-- One law of JudgedLaws for each return, from the tests on the way to it.
use Rattle.std.proofs.Common.{ap, arith, not, rules}
use Rattle.text.proofs.JudgedLaws.{counted, byte-small, ready, few-at, atom-3, atom-7, atom-4, atom-0, some-places}
use Rattle.text.proofs.state.State.atom_judged.Goals as goal

pub returns-in_err-kind : goal.returns-in_err-kind
returns-in_err-kind c = atom-3 _ c.requires.0 c.requires.1 _ _ _ c.in_err-kind.field-0.0 (search rules) c.in_err-kind.ensures.refusal

pub atom-from-requires : goal.atom-from-requires
atom-from-requires c =
    let r = ready _ c.requires.0 c.requires.1 in
    (omega (arith, r.from, r.places), c.requires.0.tallied.placed_long)

pub new-new-requires : goal.new-new-requires
new-new-requires c = let r = ready _ c.requires.0 c.requires.1 in omega (arith, r.from, r.places)

pub returns-in_err-h_fault : goal.returns-in_err-h_fault
returns-in_err-h_fault c =
    atom-7 _ c.requires.0 c.requires.1 _ _ _ _ c.in_ok-kind.ensures.kind c.in_ok-kind.ensures.refusal _ _ c.atom-from.ensures c.new-new.ensures
    _ c.in_err-h_fault.field-0.0 (search rules) c.in_err-h_fault.ensures

pub overflow_add-atoms : goal.overflow_add-atoms
overflow_add-atoms c = omega (arith, (ready _ c.requires.0 c.requires.1).atoms, byte-small (not c.eq-is_h.result))

pub overflow_add-hydrogens : goal.overflow_add-hydrogens
overflow_add-hydrogens c = omega (arith, (ready _ c.requires.0 c.requires.1).total, byte-small c.eq-is_h.result)

pub limit_fault-requires : goal.limit_fault-requires
limit_fault-requires c =
    let r = ready _ c.requires.0 c.requires.1 in
    (r.bonds, few-at _ c.requires.0 c.requires.1 _ (omega (arith, r.from, r.places)) _ c.atom-from.ensures, rw c.new-new.ensures (omega arith, omega arith))

pub returns-in_err-limit_fault : goal.returns-in_err-limit_fault
returns-in_err-limit_fault c =
    atom-4 _ c.requires.0 c.requires.1 _ _ _ _ c.in_ok-kind.ensures.kind c.in_ok-kind.ensures.refusal _ _ c.atom-from.ensures c.new-new.ensures c.in_ok-h_fault.ensures
    _ _ (counted _ _ _ (ap not c.eq-is_h.ensures)) (counted _ _ _ c.eq-is_h.ensures) _ c.in_err-limit_fault.field-0.0 (search rules) c.in_err-limit_fault.ensures

pub returns : goal.returns
returns c =
    record {
      refusal = atom-0 _ c.requires.0 c.requires.1 _ _ _ _ c.in_ok-kind.ensures.kind c.in_ok-kind.ensures.refusal _ _ c.atom-from.ensures c.new-new.ensures c.in_ok-h_fault.ensures
          _ _ (counted _ _ _ (ap not c.eq-is_h.ensures)) (counted _ _ _ c.eq-is_h.ensures) c.in_ok-limit_fault.ensures;
      step = rw (some-places _ c.requires.0 c.requires.1, c.in_ok-kind.ensures.kind);
    }

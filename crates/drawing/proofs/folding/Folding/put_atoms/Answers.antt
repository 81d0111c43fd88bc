-- One law of Bared for each way of the loop.
use mathlib.Core.Path.{◌≡◌, sym, ◌∙◌, ap, subst}
use Prim.Native.Nat.{ℕ, ◌<◌}
use native.Mathlib.Omega.{arith}
use lib.ListN.{length, get_or}
use Rattle.std.proofs.Common.{rules, Err, Option}
use Rattle.kinds.specs.Known.{kind_in}
use Rattle.drawing.specs.View.{numbers_of, kinds_in}
use Rattle.drawing.specs.Folding.{AtomsPut}
use Rattle.drawing.proofs.Taken.{mapped_at, mapped_long, taken_length, taken_there}
use Rattle.refusal.specs.declared.Refusal.{Refusal}
use Rattle.card.proofs.Faults.{rest_end}
use Rattle.drawing.proofs.CountLaws.{unknown}
use Rattle.drawing.proofs.Bared.{known_given, unknown_given, AtomsTo, atoms_start, atoms_few, atoms_room, atoms_stop, atoms_next, atoms_done}
use Rattle.drawing.proofs.folding.Folding.put_atoms.Goals.{Start, At-loop-p}
use Rattle.drawing.proofs.folding.Folding.put_atoms.Goals as goal

size : (c : Start) → length (kinds_in c.args.drawing.now) ≡ c.args.drawing.now.counts.atoms
size c =
    let d = c.args.drawing.now in
    taken_length (numbers_of d) d.counts.atoms (omega (arith, mapped_long kind_in d.kinds, c.requires.1.kinds_long, c.requires.1.atoms))

kind-is : (c : Start) (p : ℕ) (x : Option ℕ) → p < c.args.drawing.now.counts.atoms → kind_in (get_or c.args.drawing.now.kinds p x) ≡ get_or (kinds_in c.args.drawing.now) p 0
kind-is c p x h =
    let d = c.args.drawing.now in
    sym
    (taken_there (numbers_of d) d.counts.atoms (omega (arith, mapped_long kind_in d.kinds, c.requires.1.kinds_long, c.requires.1.atoms)) p 0 h
    ∙ mapped_at kind_in d.kinds p x 0 (omega (arith, c.requires.1.kinds_long, c.requires.1.atoms)))

pub loop-p-init : goal.loop-p-init
loop-p-init c = subst (AtomsTo (kinds_in c.args.drawing.now) 0) (sym c.requires.0) (atoms_start (kinds_in c.args.drawing.now))

pub overflow_cast-self : goal.overflow_cast-self
overflow_cast-self c =
    let s = (goal.at.overflow_cast-self c).Start in
    let h : c.loop-p.p < length (kinds_in c.args.drawing.now) = omega (arith, size s) in
    let k = atoms_few (kinds_in c.args.drawing.now) c.loop-p.p c.loop-p.self c.loop-p.invariant h c.requires.2 in
    omega (arith, k)

-- Before the return: where a kind that is none is let through, this is what fails.
pub loop-p-preserved : goal.loop-p-preserved
loop-p-preserved c =
    let s = (goal.at.loop-p-preserved c).Start in
    let ks = kinds_in c.args.drawing.now in
    let h : c.loop-p.p < length ks = omega (arith, size s) in
    let w = known_given (get_or c.args.drawing.now.kinds c.loop-p.p c.index-drawing-p.result) _ _ _ c.known.ensures c.ok_or.ensures.value _ c.in_ok-kind.was in
    let k = sym w.0 ∙ kind-is s c.loop-p.p c.index-drawing-p.result c.loop-p-test.true in
    atoms_next ks c.loop-p.p c.loop-p.self c.loop-p.invariant h c.requires.2 (omega (arith, size s, c.requires.1.atoms)) _ k w.1 _ c.put_kind.ensures

pub returns-in_err-kind : goal.returns-in_err-kind
returns-in_err-kind c =
    let s = (goal.at.returns-in_err-kind c).Start in
    let ks = kinds_in c.args.drawing.now in
    let h : c.loop-p.p < length ks = omega (arith, size s) in
    let u = unknown_given (get_or c.args.drawing.now.kinds c.loop-p.p c.index-drawing-p.result) _ _ _ c.known.ensures c.ok_or.ensures.value _ c.in_err-kind.was in
    let e : c.from_residual.result ≡ Err c.in_err-kind.field-0.0 = search rules in
    let k = kind-is s c.loop-p.p c.index-drawing-p.result c.loop-p-test.true in
    let f = atoms_stop ks c.loop-p.p c.loop-p.self c.loop-p.invariant h c.requires.2 (omega (arith, u.0, k)) in
    subst (AtomsPut ks _) (sym (e ∙ ap (λ (x : Refusal). Err x) u.1)) (record { refusal = f; atoms = λ z. absurd (omega arith) })

pub put_kind-requires : goal.put_kind-requires
put_kind-requires c =
    let s = (goal.at.put_kind-requires c).Start in
    let ks = kinds_in c.args.drawing.now in
    let h : c.loop-p.p < length ks = omega (arith, size s) in
    let w = known_given (get_or c.args.drawing.now.kinds c.loop-p.p c.index-drawing-p.result) _ _ _ c.known.ensures c.ok_or.ensures.value _ c.in_ok-kind.was in
    let k = sym w.0 ∙ kind-is s c.loop-p.p c.index-drawing-p.result c.loop-p-test.true in
    atoms_room ks c.loop-p.p c.loop-p.self c.loop-p.invariant h c.requires.2 _ k

pub returns : goal.returns
returns c =
    let s = (goal.at.returns c).Start in
    let ks = kinds_in c.args.drawing.now in
    let e : c.loop-p.p ≡ length ks = omega (arith, size s) in
    let A = subst (λ (i : ℕ). AtomsTo ks i c.loop-p.self) e c.loop-p.invariant in
    record { refusal = sym (A.rest ∙ rest_end (unknown ks) (length ks) (length ks) (omega arith)); atoms = λ z. atoms_done ks c.loop-p.self c.requires.2 A }

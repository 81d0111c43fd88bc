-- The table has the places passed that have no H, in their order, and no row has anything.
use Rattle.text.specs.Folding.{molecule_of, BareTo}
use Rattle.std.proofs.Common.{ℕ, subst, ◌≡◌, ◌<◌, ◌∙◌, sym, ap, arith, rules, true, false}
use native.Mathlib.Nat.{not-suc-le-zero}
use lib.ListN.{length-set}
use lib.Dec.{eqb}
use Rattle.text.specs.declared.state.TextAtom.{TextAtom}
use Rattle.text.specs.Holding.{atom_at, view_of}
use Rattle.text.proofs.FoldLaws.{heavies_start, bare-table, read-atom, few-atoms, room-atoms, atoms-same, atoms-more, numbered_more}
use Rattle.text.proofs.fold.bare_atoms.Goals.{Else-eq}
use Rattle.text.proofs.fold.bare_atoms.Goals as goal

is-heavy : (c : Else-eq) → eqb (atom_at c.args.state.now c.loop-p.p).kind 0 ≡ false
is-heavy c =
    ap (λ (x : TextAtom). eqb x.kind 0) (sym (read-atom c.args.state.now c.requires c.loop-p.p c.loop-p-test.true c.index-state-p.result)) ∙ sym c.eq.ensures
    ∙ c.if-eq.false

room : (c : Else-eq) → c.loop-p.table.n < 64
room c = let L = c.loop-p in room-atoms c.args.state.now c.requires L.p _ _ _ L.invariant.heavies c.loop-p-test.true (is-heavy c)

pub loop-p-init : goal.loop-p-init
loop-p-init c =
    record { heavies = heavies_start (view_of c.args.state.now); bare = c.empty.ensures; long = search rules; numbers = λ q h. absurd (not-suc-le-zero h) }

pub overflow_cast-numbers : goal.overflow_cast-numbers
overflow_cast-numbers c = let L = c.loop-p in omega (arith, few-atoms c.args.state.now c.requires L.p _ _ _ L.invariant.heavies L.auto.p-end)

pub loop-p-preserved-then-eq : goal.loop-p-preserved-then-eq
loop-p-preserved-then-eq c =
    let st = c.args.state.now in
    let L = c.loop-p in
    let a = read-atom st c.requires L.p c.loop-p-test.true c.index-state-p.result in
    let k : eqb (atom_at st L.p).kind 0 ≡ true = ap (λ (x : TextAtom). eqb x.kind 0) (sym a) ∙ sym c.eq.ensures ∙ c.if-eq.true in
    record {
      heavies = atoms-same st c.requires L.p _ _ _ L.invariant.heavies c.loop-p-test.true k;
      bare = L.invariant.bare;
      long = length-set L.numbers L.p _ ∙ L.invariant.long;
      numbers = numbered_more (view_of st) L.numbers L.p _ (omega (arith, c.loop-p-test.true, c.requires.tallied.places, L.invariant.long)) L.invariant.heavies.size L.invariant.numbers;
    }

pub listed-in-loop-p : goal.listed-in-loop-p
listed-in-loop-p c = omega (arith, room (goal.at.listed-in-loop-p c).Else-eq, c.loop-p.invariant.heavies.kinds_long)

pub bounds-table-table : goal.bounds-table-table
bounds-table-table c = room (goal.at.bounds-table-table c).Else-eq

pub bounds-table-table-in-loop-p : goal.bounds-table-table-in-loop-p
bounds-table-table-in-loop-p c = room (goal.at.bounds-table-table-in-loop-p c).Else-eq

pub overflow_add-table : goal.overflow_add-table
overflow_add-table c = omega (arith, room (goal.at.overflow_add-table c).Else-eq)

pub loop-p-preserved : goal.loop-p-preserved
loop-p-preserved c =
    let st = c.args.state.now in
    let L = c.loop-p in
    let e = is-heavy (goal.at.loop-p-preserved c).Else-eq in
    let a = read-atom st c.requires L.p c.loop-p-test.true c.index-state-p.result in
    record {
      heavies = rw a (atoms-more st c.requires L.p _ _ _ L.invariant.heavies c.loop-p-test.true e);
      bare = L.invariant.bare;
      long = length-set L.numbers L.p _ ∙ L.invariant.long;
      numbers = numbered_more (view_of st) L.numbers L.p _ (omega (arith, c.loop-p-test.true, c.requires.tallied.places, L.invariant.long)) L.invariant.heavies.size L.invariant.numbers;
    }

pub returns : goal.returns
returns c =
    let st = c.args.state.now in
    let L = c.loop-p in
    let e : L.p ≡ st.n = omega (arith, c.loop-p-test.false, L.auto.p-end) in
    let B = bare-table (view_of st) L.p L.table L.invariant.bare (few-atoms st c.requires L.p _ _ _ L.invariant.heavies L.auto.p-end) L.invariant.heavies in
    record { tidy = B.0; is = subst (λ (i : ℕ). BareTo (view_of st) i (molecule_of L.table)) e B.1; long = L.invariant.long; numbers = λ p h. L.invariant.numbers p (omega arith) }

-- What is still to be seen of the row, seen from here on, comes to what the whole row comes to.
use mathlib.Core.List.{List}
use mathlib.Core.Path.{sym, ◌∙◌, ap, subst}
use Prim.Native.Nat.{ℕ, ◌+◌, ◌<◌}
use native.Mathlib.Omega.{arith}
use native.Mathlib.Numerals.{add-one}
use lib.ListN.{get_or, length, drop_of_length-le, drop}
use lib.Seq.{drop-cons}
use Rattle.table.specs.Flood.{Counted, see, see_all}
use Rattle.table.specs.declared.flood.Flood.{Flood}
use Rattle.table.proofs.RowLaws.{row_at, row-long}
use Rattle.table.proofs.FloodLaws.{see-counted}
use Rattle.table.proofs.flood.Flood.visit.Goals.{At-loop-b}
use Rattle.table.proofs.flood.Flood.visit.Goals as goal

-- the neighbour due next is an atom
atom : (c : At-loop-b) → c.loop-b.b-index < length c.near_of-b-items.result.now → get_or c.near_of-b-items.result.now c.loop-b.b-index 0 < 64
atom c h =
    let R = c.args.rows.now in
    let i = c.loop-b.b-index in
    let d : i < get_or R.degrees c.args.a.0 0 = omega (arith, ap length c.near_of-b-items.ensures, row-long R.degrees R.near c.args.a.0 (omega (arith, c.requires.1))) in
    subst (λ (x : ℕ). x < 64) (sym (ap (λ (l : List ℕ). get_or l i 0) c.near_of-b-items.ensures ∙ row_at R.degrees R.near c.args.a.0 i d)) (c.requires.2 i d)

pub see-requires : goal.see-requires
see-requires c = (c.loop-b.invariant.0, atom (goal.at.see-requires c).At-loop-b c.loop-b-test.true)

pub loop-b-preserved : goal.loop-b-preserved
unfolding see_all
loop-b-preserved c =
    let l = c.near_of-b-items.result.now in
    let i = c.loop-b.b-index in (
      subst Counted (sym c.see.ensures) (see-counted _ _ c.loop-b.invariant.0 (atom (goal.at.loop-b-preserved c).At-loop-b c.loop-b-test.true)),
      ap (λ (f : Flood). see_all f (drop (i + 1) l)) c.see.ensures
          ∙ sym (ap (see_all c.loop-b.self) (drop-cons l i 0 c.loop-b-test.true) ∙ ap (λ (k : ℕ). see_all (see c.loop-b.self (get_or l i 0)) (drop k l)) (sym (add-one i)))
          ∙ c.loop-b.invariant.1,
    )

pub returns : goal.returns
unfolding see_all
returns c =
    let l = c.near_of-b-items.result.now in
    sym (ap (see_all c.loop-b.self) (drop_of_length-le _ c.loop-b-test.false)) ∙ c.loop-b.invariant.1 ∙ ap (see_all c.args.self.now) c.near_of-b-items.ensures

-- The pieces of the slots before this one are written, and there is room for the rest of the row.
use mathlib.Core.List.{flatten}
use mathlib.Core.Path.{◌≡◌, subst}
use Prim.Native.Nat.{ℕ}
use native.Mathlib.Omega.{arith}
use lib.ListN.{get_or}
use Rattle.lists.specs.Upto.{each}
use Rattle.card.specs.Writing.{slot_piece, row_bytes, PutIn}
use Rattle.card.proofs.Written.{put_start, put_next, put_room}
use Rattle.card.proofs.writing.Writer.row.Goals as goal

pub loop-p-init : goal.loop-p-init
loop-p-init c = put_start (slot_piece c.args.rows.now.near c.args.rows.now.codes c.args.a.0) c.args.self.now

pub bond-requires : goal.bond-requires
unfolding row_bytes
bond-requires c =
    put_room (slot_piece c.args.rows.now.near c.args.rows.now.codes c.args.a.0) c.args.self.now c.loop-p.self _ c.loop-p.p c.loop-p.invariant c.requires.1
    c.loop-p-test.true

pub loop-p-preserved : goal.loop-p-preserved
loop-p-preserved c =
    put_next (slot_piece c.args.rows.now.near c.args.rows.now.codes c.args.a.0) c.args.self.now c.loop-p.self _ c.loop-p.p c.loop-p.invariant c.bond.ensures

pub returns : goal.returns
unfolding row_bytes
returns c =
    let e : c.loop-p.p ≡ get_or c.args.rows.now.degrees c.args.a.0 0 = omega arith in
    subst (λ (k : ℕ). PutIn c.args.self.now (flatten (each k (slot_piece c.args.rows.now.near c.args.rows.now.codes c.args.a.0))) c.loop-p.self) e c.loop-p.invariant

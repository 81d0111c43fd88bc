-- The sheet's name is the name, so that writing it is writing the name.
use mathlib.Core.List.{List}
use mathlib.Core.Path.{◌∙◌, subst}
use Prim.Native.Nat.{ℕ}
use lib.ListN.{get_or}
use Rattle.lent.specs.Written.{Written}
use Rattle.table.specs.View.{view_of}
use Rattle.writing.specs.Shown.{begun}
use Rattle.writing.proofs.Top.{first-room, walk_ready, name-whole}
use Rattle.writing.proofs.write.Goals as goal

pub started-sheet-requires : goal.started-sheet-requires
started-sheet-requires c = first-room c.args.t.now c.requires c.index-t-0.result

pub finish-requires : goal.finish-requires
finish-requires c =
    let t = c.args.t.now in
    (view_of t, begun (get_or t.kinds 0 0), walk_ready t c.requires _ _ c.started-sheet.ensures)

pub returns : goal.returns
returns c =
    let t = c.args.t.now in
    let n = name-whole t c.requires _ (c.finish.ensures (view_of t) (begun (get_or t.kinds 0 0)) (walk_ready t c.requires _ _ c.started-sheet.ensures)) in
    subst (λ (l : List ℕ). Written l c.args.out.now c.write.new.out c.write.result) (c.bytes.ensures ∙ n) c.write.ensures

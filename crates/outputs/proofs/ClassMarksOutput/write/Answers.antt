-- The marks of the numbering are the class marks.
use mathlib.Core.List.{List}
use mathlib.Core.Path.{subst}
use Prim.Native.Nat.{ℕ}
use Rattle.lent.specs.Written.{Written}
use Rattle.outputs.proofs.Ready.{marks-few, marks-are}
use Rattle.outputs.proofs.ClassMarksOutput.write.Goals as goal

pub write-requires : goal.write-requires
write-requires c = marks-few _ _ c.requires

pub returns : goal.returns
returns c =
    subst (λ (l : List ℕ). Written l c.args.out.now c.write.new.out c.write.result) (marks-are _ _ c.requires) c.write.ensures

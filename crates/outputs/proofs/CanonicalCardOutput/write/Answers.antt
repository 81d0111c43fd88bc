-- Put in rank order and written: each step meets what the next asks.
use mathlib.Core.List.{List}
use mathlib.Core.Path.{subst}
use Prim.Native.Nat.{ℕ}
use Rattle.lent.specs.Written.{Written}
use Rattle.outputs.proofs.Ready.{plain, card-is}
use Rattle.outputs.proofs.CanonicalCardOutput.write.Goals as goal

pub renumbered-requires : goal.renumbered-requires
renumbered-requires c = plain _ _ c.requires

pub returns : goal.returns
returns c =
    let u = c.renumbered.ensures in
    subst (λ (l : List ℕ). Written l c.args.out.now c.write.new.out c.write.result) (card-is _ _ c.requires _ u.0 u.1) c.write.ensures

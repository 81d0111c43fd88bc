use mathlib.Core.Path.{◌≡◌, subst}
use Prim.Native.Nat.{ℕ}
use native.Mathlib.Omega.{arith}
use Rattle.sling.specs.Walk.{put_hs}
use Rattle.writing.specs.Shown.{Lettered}
use Rattle.writing.proofs.Further.{further_hs, hs_room}
use Rattle.writing.proofs.Letters.{letters_hydrogen}
use Rattle.writing.proofs.strokes.Pen.put_hydrogens.Goals as goal

pub loop-h-init : goal.loop-h-init
unfolding put_hs
loop-h-init c = λ r w l a s. l

pub put_hydrogen-requires : goal.put_hydrogen-requires
put_hydrogen-requires c =
    let q = c.requires in
    let i = c.loop-h in
    (q.0, put_hs i.h q.0 q.1, i.invariant q.0 q.1 q.2 q.3 q.4, (further_hs i.h q.0 q.1).kept q.0 _ q.3, hs_room i.h _ q.0 q.1 c.loop-h-test.true q.4)

pub loop-h-preserved : goal.loop-h-preserved
loop-h-preserved c =
    let i = c.loop-h in
    λ r w l a s.
    letters_hydrogen i.h r w (c.put_hydrogen.ensures r (put_hs i.h r w) (i.invariant r w l a s) ((further_hs i.h r w).kept r _ a) (hs_room i.h _ r w c.loop-h-test.true s))

pub returns : goal.returns
returns c =
    let i = c.loop-h in
    let e : i.h ≡ c.args.count = omega arith in
    λ r w l a s. subst (λ (k : ℕ). Lettered i.self (put_hs k r w)) e (i.invariant r w l a s)

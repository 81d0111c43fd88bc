use Prim.Native.Nat.{ℕ, ◌≤◌}
use Rattle.sling.specs.Walk.{Written, put_hs}
use Rattle.writing.specs.Shown.{size, At, Lettered}
use Rattle.writing.proofs.strokes.Pen.put_hydrogens.Given as goal

abbrev pub invariant-loop-h : goal.invariant-loop-h
invariant-loop-h l =
    (r : ℕ) (w : Written) → Lettered l.initial.self w → At w r l.place → size (put_hs l.count r w) ≤ 2048 → Lettered l.self (put_hs l.h r w)

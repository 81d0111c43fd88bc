-- Kept: what is lent keeps its length, and on a refusal its bytes, as for a card.
use mathlib.Core.Bool.{Bool, true, false, cond}
use mathlib.Core.List.{List}
use Prim.Native.Nat.{ℕ, zero, suc}
use lib.Dec.{ltb}
use lib.ListN.{length}
use Rattle.rules.specs.Answers.{refused, numbered, unless_faulty, name_out}
use Rattle.rules.specs.Promises.{KeptBy}
use Rattle.rules.proofs.Settled.{refused-keeps, numbered-keeps}
use Rattle.ctfile.specs.Filed.{Verdict, sound, broken, verdict, Drawing, drawing_of}
use Rattle.ctfile.specs.Drawings.{folded, drawing_fault}
use Rattle.ctfile.specs.Molfiles.{most_file, name_of_drawing, unless_broken, name_of_molfile}
use Rattle.ctfile.specs.Promises.{AlwaysKept}

drawing-keeps : (d : Drawing) (allowance : ℕ) (lent : List ℕ) → KeptBy (name_of_drawing d allowance (length lent)) lent
unfolding name_of_drawing
drawing-keeps d allowance lent = go (drawing_fault d)
  where
    go : (n : ℕ) → KeptBy (unless_faulty n (numbered name_out allowance (length lent) (folded d))) lent
    go zero = numbered-keeps name_out allowance (folded d) lent
    go (suc n) = refused-keeps n 0 lent

pub kept : AlwaysKept
unfolding name_of_molfile
kept file allowance lent = go (ltb most_file (length file)) (verdict file)
  where
    go : (b : Bool) (v : Verdict) → KeptBy (cond b (refused 4 0) (unless_broken v (name_of_drawing (drawing_of file) allowance (length lent)))) lent
    go true v = refused-keeps 3 0 lent
    go false sound = drawing-keeps (drawing_of file) allowance lent
    go false (broken p) = refused-keeps 10 p lent

-- A file read into the arrays of its drawing.
use Rattle.std.specs.Prelude.{ℕ, ◌≡◌, List, Result, IfOk}
use Rattle.ctfile.specs.Filed.{verdict, drawing_of}
use Rattle.refusal.specs.declared.Refused.{Refused}
use Rattle.drawing.specs.declared.Drawing.{Drawing}
use Rattle.drawing.specs.View.{drawing_in, Fits}
use Rattle.molfile.specs.Passing.{IsBroken, verdict_of}

-- "11 for a broken or unsupported line, with the line's byte offset (the file's length if missing) as place", or the drawing in its arrays
pub record IsFiled (s : List ℕ) (d : Drawing) (r : Result (Unit {0}) Refused) : Type 0 where
  pub judged : verdict s ≡ verdict_of r
  pub refusal : IsBroken r
  pub fits : IfOk r (λ _. Fits d)
  pub drawing : IfOk r (λ _. drawing_in d ≡ drawing_of s)

-- What is printed so far at the start of a lent buffer, and what a function that prints more adds to it.
use Rattle.std.specs.Prelude.{List, ◌≡◌, ℕ, length}
use Rattle.std.specs.Borrow.{MutBor}
use Rattle.lines.specs.declared.output.Printed.{Printed}
use Rattle.lines.specs.Written.{Puts}

-- nothing is printed yet into the lent buffer
pub record Begins (lent : MutBor (List ℕ)) (p : Printed) : Type 0 where
  pub nothing : p.at ≡ 0
  pub unchanged : p.out.now ≡ lent.now
  pub same_reference : p.out.ghost_name ≡ lent.ghost_name

-- xs is put behind what is printed so far, into the same buffer
pub record Adds (xs : List ℕ) (before after : Printed) : Type 0 where
  pub puts : Puts xs before.out.now before.at after.out.now after.at
  pub kept : length after.out.now ≡ length before.out.now
  pub same_reference : after.out.ghost_name ≡ before.out.ghost_name

-- What reading comes to, as the rules have it.
use Rattle.std.specs.Prelude.{ℕ, ◌≡◌, List, Result, Ok, Err, IfOk}
use Rattle.refusal.specs.declared.Refused.{Refused}
use Rattle.refusal.specs.Numbers.{number_of}
use Rattle.sling.specs.Scanned.{tokens}
use Rattle.sling.specs.Reading.{start}
use Rattle.sling.specs.Faults.{Outcome, stopped, finished, run}
use Rattle.text.specs.declared.state.State.{State}
use Rattle.text.specs.Holding.{view_of, Held}

abbrev pub outcome_of : Result State Refused → Outcome
outcome_of (Ok st) = finished (view_of st)
outcome_of (Err p) = stopped (number_of p.refusal) p.place

pub record Reads (s : List ℕ) (r : Result State Refused) : Type 0 where
  pub is : outcome_of r ≡ run (tokens s 0 0) start
  pub held : IfOk r Held

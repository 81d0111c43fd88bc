-- The loop goes up one step a turn; what is left of the steps, from where it is, leads where all of them lead from the cursor.
use Prim.Native.Nat.{◌-◌, ◌<◌}
use mathlib.Core.Path.{◌≡◌}
use Rattle.sling.specs.Reading.{climb}
use Rattle.text.specs.Holding.{view_of}
use Rattle.text.proofs.state.State.climbed.Given as goal

abbrev pub invariant-loop-step : goal.invariant-loop-step
invariant-loop-step l = (l.p < l.self.n) × (climb (view_of l.self) (l.steps - l._step) l.p ≡ climb (view_of l.self) l.steps l.self.cursor.0)

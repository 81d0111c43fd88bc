-- The entries before this one are entries.
use Prim.Native.Nat.{ℕ}
use mathlib.Core.Path.{◌≡◌, sym, ◌∙◌, ap}
use native.Mathlib.Omega.{arith}
use Rattle.lists.specs.Upto.{each}
use Rattle.lists.specs.Tests.{every}
use Rattle.ctfile.specs.Forms.{is_entry}
use Rattle.lists.proofs.Steps.{each-zero}
use Rattle.molfile.proofs.PropertyLaws.{every_more, every-not}
use Rattle.molfile.proofs.properties.are_entries.Goals as goal

pub loop-e-init : goal.loop-e-init
unfolding every
loop-e-init c = rw (each-zero (is_entry c.args.atoms c.args.line.now))

pub returns-then-not-is_entry : goal.returns-then-not-is_entry
returns-then-not-is_entry c =
    sym (every-not (is_entry c.args.atoms c.args.line.now) c.args.entries c.loop-e.e c.loop-e-test.true
    (sym c.is_entry.ensures ∙ c.if-not-is_entry.true))

pub loop-e-preserved : goal.loop-e-preserved
loop-e-preserved c =
    every_more (is_entry c.args.atoms c.args.line.now) c.loop-e.e c.loop-e.invariant (sym c.is_entry.ensures ∙ c.if-not-is_entry.false)

pub returns : goal.returns
returns c =
    let e : c.loop-e.e ≡ c.args.entries = omega arith in sym c.loop-e.invariant ∙ ap (λ (k : ℕ). every (each k (is_entry c.args.atoms c.args.line.now))) e

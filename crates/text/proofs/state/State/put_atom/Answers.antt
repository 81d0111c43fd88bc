-- The first atom is grown and the cursor put on it; a later one is grown and a bond drawn to it.
use Rattle.std.proofs.Common.{sym, refl, subst}
use Rattle.sling.specs.Items.{atom}
use Rattle.text.specs.declared.state.State.{State}
use Rattle.text.specs.Changing.{moved, bonded, Bondable, Follows}
use Rattle.text.proofs.ChangeLaws.{growable, first-follows, later_bondable, later_follows}
use Rattle.text.proofs.state.State.put_atom.Goals as goal

pub grow-requires : goal.grow-requires
grow-requires c = growable c.args.self.now c.args.code c.args.kind c.requires

pub draw-requires : goal.draw-requires
draw-requires c =
    subst (λ (g : State). Bondable g c.args.self.now.n) (sym c.grow.ensures)
    (later_bondable c.args.self.now c.args.code c.args.kind c.requires (record { 0 = c.args.self.now.n }) refl c.if-place-eq0.false)

pub returns-then-place-eq0 : goal.returns-then-place-eq0
returns-then-place-eq0 c =
    subst (λ (g : State). Follows c.args.self.now (atom c.args.code c.args.kind) (moved (record { 0 = c.args.self.now.n }) g)) (sym c.grow.ensures)
    (first-follows c.args.self.now c.args.code c.args.kind c.requires (record { 0 = c.args.self.now.n }) refl c.if-place-eq0.true)

pub returns-else-place-eq0 : goal.returns-else-place-eq0
returns-else-place-eq0 c =
    subst (Follows c.args.self.now (atom c.args.code c.args.kind)) (sym c.draw.ensures)
    (subst (λ (g : State). Follows c.args.self.now (atom c.args.code c.args.kind) (bonded (record { 0 = c.args.self.now.n }) c.args.code g)) (sym c.grow.ensures)
    (later_follows c.args.self.now c.args.code c.args.kind c.requires (record { 0 = c.args.self.now.n }) refl c.if-place-eq0.false))

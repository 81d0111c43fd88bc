-- Each test that fails breaks the rules' layout, and all that pass make it sound.
use mathlib.Core.Path.{◌≡◌, ◌∙◌, ap}
use Prim.Native.Nat.{ℕ, ◌+◌, ◌%◌}
use native.Mathlib.Omega.{arith}
use lib.ListN.{get_or}
use Rattle.molecule.specs.Layout.{length_at, bonds_length}
use Rattle.card.proofs.Layouts.{broken-fields, no_tag, odd_atoms, no_second_tag, odd_bonds, wrong_length, sound-fields}
use Rattle.card.proofs.layout.find_fields.Goals.{After-length_at-b, then-card-lt6-via-then-card-lt6, then-card-lt6-via-else-card-lt6+then-card-ne1, then-a-ne0-via-then-a-ne0, then-a-ne0-via-else-a-ne0+then-card-a, then-a-ne0-via-else-a-ne0+else-card-a+then-card-a-ne2, then-b-ne0-via-then-b-ne0, then-b-ne0-via-else-b-ne0+then-card-a-2}
use Rattle.card.proofs.layout.find_fields.Goals as goal

second : (c : After-length_at-b) → c.length_at-b.result ≡ bonds_length c.args.card.now
second c =
    c.length_at-b.ensures ∙ ap (λ (x : ℕ). length_at c.args.card.now (x + 4)) c.length_at-a.ensures

pub returns-then-card-lt6 : goal.returns-then-card-lt6
returns-then-card-lt6 c =
    let s = c.args.card.now in
    broken-fields s
    (elim c.then-card-lt6.branch [
      | then-card-lt6-via-then-card-lt6 w ↦ wrong_length s (λ q. omega (arith, q, w.if-card-lt6.true))
      | then-card-lt6-via-else-card-lt6+then-card-ne1 w ↦ no_tag s w.if-card-ne1.true
    ])

pub returns-then-a-ne0 : goal.returns-then-a-ne0
returns-then-a-ne0 c =
    let s = c.args.card.now in
    let e = c.length_at-a.ensures in
    broken-fields s
    (elim c.then-a-ne0.branch [
      | then-a-ne0-via-then-a-ne0 w ↦ odd_atoms s (λ q. w.if-a-ne0.true (ap (λ (x : ℕ). x % 2) e ∙ q))
      | then-a-ne0-via-else-a-ne0+then-card-a w ↦ wrong_length s (λ q. omega (arith, q, e, w.if-card-a.true))
      | then-a-ne0-via-else-a-ne0+else-card-a+then-card-a-ne2 w ↦
          no_second_tag s (λ q. w.if-card-a-ne2.true (ap (λ (x : ℕ). get_or s (x + 3) 0) e ∙ q))
    ])

pub returns-then-b-ne0 : goal.returns-then-b-ne0
returns-then-b-ne0 c =
    let s = c.args.card.now in
    let f = second (goal.at.returns-then-b-ne0 c).After-length_at-b in
    broken-fields s
    (elim c.then-b-ne0.branch [
      | then-b-ne0-via-then-b-ne0 w ↦ odd_bonds s (λ q. w.if-b-ne0.true (ap (λ (x : ℕ). x % 3) f ∙ q))
      | then-b-ne0-via-else-b-ne0+then-card-a-2 w ↦ wrong_length s (λ q. w.if-card-a-2.true (omega (arith, q, c.length_at-a.ensures, f)))
    ])

pub returns : goal.returns
returns c =
    sound-fields c.args.card.now _ _ c.if-card-ne1.false c.length_at-a.ensures c.if-a-ne0.false c.if-card-a-ne2.false
    (second (goal.at.returns c).After-length_at-b) c.if-b-ne0.false c.if-card-a-2.false

-- The library's place of the first LF in what is left is the rules'.
use mathlib.Core.List.{List}
use mathlib.Core.Path.{◌≡◌, sym, ◌∙◌, ap}
use Prim.Native.Nat.{ℕ, ◌+◌, ◌-◌, ◌<◌}
use native.Mathlib.Omega.{arith}
use lib.Dec.{eqb}
use lib.ListN.{length, take, drop, length-drop}
use Rattle.std.specs.Prelude.{Option, Some, position}
use Rattle.molfile.specs.Cutting.{line_feed}
use Rattle.table.proofs.Positions.{position-some, position-none}
use Rattle.molfile.proofs.FieldLaws.{rest}
use Rattle.molfile.proofs.line.line_feed.Goals as goal

-- what is left from an offset on, as a slice has it
left : (l : List ℕ) (a : ℕ) (r : Option ℕ) → r ≡ position (λ b. eqb b 10) (take (length l - a) (drop a l)) → position (λ b. eqb b 10) (drop a l) ≡ r
left l a r e = sym (e ∙ ap (λ (k : List ℕ). position (λ b. eqb b 10) k) (rest l a))

found : (l : List ℕ) (a p : ℕ) (r : Option ℕ) → r ≡ position (λ b. eqb b 10) (take (length l - a) (drop a l)) → r ≡ Some p
    → (line_feed (drop a l) ≡ p) × (p < length (drop a l))
found l a p r e f = position-some (λ b. eqb b 10) (drop a l) p (left l a r e ∙ f)

pub overflow_add-result : goal.overflow_add-result
overflow_add-result c =
    let s = found c.args.file.now c.args.at c.in-Some.p _ c.feed_in.ensures c.in-Some.is in
    omega (arith, s.1, length-drop c.args.at c.args.file.now)

pub returns-in-Some : goal.returns-in-Some
returns-in-Some c =
    let s = found c.args.file.now c.args.at c.in-Some.p _ c.feed_in.ensures c.in-Some.is in
    ap (λ (k : ℕ). c.args.at + k) (sym s.0)

pub returns-in-None : goal.returns-in-None
returns-in-None c =
    let l = c.args.file.now in
    let n = position-none (λ b. eqb b 10) (drop c.args.at l) (left l c.args.at _ c.feed_in.ensures ∙ c.in-None.is) in
    omega (arith, n, c.requires, length-drop c.args.at l)

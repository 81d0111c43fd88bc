-- The neighbours that the chain counts are those of the sum.
use mathlib.Core.Path.{◌≡◌, sym, ◌∙◌, ap}
use Prim.Native.Nat.{ℕ, ◌+◌, ◌*◌, ◌-◌}
use native.Mathlib.Omega.{arith}
use lib.Dec.{ltb}
use lib.ListN.{get_or, take, drop}
use Rattle.std.proofs.Common.{rules, slice_range}
use Rattle.std.specs.List.{count_by}
use Rattle.card.proofs.Lengths.{row-counted}
use Rattle.card.proofs.writing.row_length.Goals as goal

pub returns : goal.returns
returns c =
    let R = c.args.rows.now in
    let d = get_or R.degrees c.args.a.0 0 in
    let e : c.count.result ≡ count_by (ltb c.args.a.0) (slice_range R.near (6 * c.args.a.0) (6 * c.args.a.0 + d)) = search rules in
    let f : 6 * c.args.a.0 + d - 6 * c.args.a.0 ≡ d = omega arith in
    ap (λ (k : ℕ). 3 * k) (e ∙ ap (λ (k : ℕ). count_by (ltb c.args.a.0) (take k (drop (6 * c.args.a.0) R.near))) f) ∙ sym (row-counted R.degrees R.near c.args.a.0 c.requires)

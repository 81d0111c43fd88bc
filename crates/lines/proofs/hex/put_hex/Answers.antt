use Rattle.std.proofs.Common.{◌≡◌, ◌∙◌, sym, ap, ap₂, ℕ, ◌*◌, List, length, set, arith}
use Rattle.lists.specs.Upto.{each}
use Rattle.lists.proofs.Upto.{length-each}
use Rattle.lines.specs.Hex.{hex_at}
use Rattle.lines.specs.Written.{fronted}
use Rattle.lines.proofs.Fronted.{each_none, each_more}
use Rattle.lines.proofs.hex.put_hex.Goals as goal

pub loop-k-init : goal.loop-k-init
loop-k-init c = each_none _ _

pub loop-k-preserved : goal.loop-k-preserved
loop-k-preserved c =
    ap₂ (λ (o : List ℕ) (x : ℕ). set o c.loop-k.k x) c.loop-k.invariant c.hex_at.ensures
    ∙ each_more (hex_at c.args.bytes.now) c.args.out.now c.loop-k.k (omega arith)

pub returns-clause-prints : goal.returns-clause-prints
returns-clause-prints c =
    let e : c.loop-k.k ≡ 2 * length c.args.bytes.now = omega arith in
    record {
      long = sym (length-each (2 * length c.args.bytes.now) (hex_at c.args.bytes.now));
      is = c.loop-k.invariant ∙ ap (λ (k : ℕ). fronted (each k (hex_at c.args.bytes.now)) c.args.out.now) e;
    }

use Rattle.std.proofs.Common.{◌≡◌, ◌∙◌, true, sym, ap, ap₂, ℕ, ◌+◌, ◌*◌, ◌/◌, ◌<◌, List, length, set, get_or, arith, Some, Option, is_some}
use Rattle.lists.specs.Upto.{each}
use Rattle.lists.proofs.Upto.{length-each}
use Rattle.lines.specs.Hex.{hex_digit_of, hex_value, is_hex, byte_at}
use Rattle.lines.specs.Written.{fronted}
use Rattle.lines.proofs.Fronted.{each_none, each_more}
use Rattle.lines.proofs.HexDigits.{digit_below}
use Rattle.lines.proofs.hex.read_bytes.Goals as goal

-- the digit at i of a field that is hexadecimal, as it is read
read : (l : List ℕ) → is_hex l ≡ true → (i : ℕ) → i < length l → (o : Option ℕ) (d : ℕ) → o ≡ hex_value (get_or l i 0) → o ≡ Some d
    → (d < 16) × (d ≡ hex_digit_of (get_or l i 0))
read l e i h o d is some =
    let k = digit_below l e i h in
    let v : d ≡ hex_digit_of (get_or l i 0) = let j = k.1 in cc in
    (let j = k.0 in omega arith, v)

pub loop-i-init : goal.loop-i-init
loop-i-init c = each_none _ _

pub unwrap-high-requires : goal.unwrap-high-requires
unwrap-high-requires c = ap is_some (c.hex_digit.ensures ∙ (digit_below c.args.field.now c.requires.0 (2 * c.loop-i.i) (omega arith)).1)

pub unwrap-low-requires : goal.unwrap-low-requires
unwrap-low-requires c =
    ap is_some (c.hex_digit-in-loop-i.ensures ∙ (digit_below c.args.field.now c.requires.0 (2 * c.loop-i.i + 1) (omega arith)).1)

pub overflow_mul-out : goal.overflow_mul-out
overflow_mul-out c =
    omega (arith, read c.args.field.now c.requires.0 (2 * c.loop-i.i) (omega arith) _ c.unwrap-high.result c.hex_digit.ensures c.unwrap-high.ensures)

pub overflow_add-out : goal.overflow_add-out
overflow_add-out c =
    let high = read c.args.field.now c.requires.0 (2 * c.loop-i.i) (omega arith) _ c.unwrap-high.result c.hex_digit.ensures c.unwrap-high.ensures in
    let low = read c.args.field.now c.requires.0 (2 * c.loop-i.i + 1) (omega arith) _ c.unwrap-low.result c.hex_digit-in-loop-i.ensures c.unwrap-low.ensures in
    omega (arith, high.0, low.0)

pub loop-i-preserved : goal.loop-i-preserved
loop-i-preserved c =
    let high = read c.args.field.now c.requires.0 (2 * c.loop-i.i) (omega arith) _ c.unwrap-high.result c.hex_digit.ensures c.unwrap-high.ensures in
    let low = read c.args.field.now c.requires.0 (2 * c.loop-i.i + 1) (omega arith) _ c.unwrap-low.result c.hex_digit-in-loop-i.ensures c.unwrap-low.ensures in
    ap₂ (λ (o : List ℕ) (x : ℕ). set o c.loop-i.i x) c.loop-i.invariant (ap₂ (λ (h k : ℕ). 16 * h + k) high.1 low.1)
    ∙ each_more (byte_at c.args.field.now) c.args.out.now c.loop-i.i (omega arith)

pub returns : goal.returns
returns c =
    let e : c.loop-i.i ≡ length c.args.field.now / 2 = omega arith in
    record {
      long = sym (length-each (length c.args.field.now / 2) (byte_at c.args.field.now));
      is = c.loop-i.invariant ∙ ap (λ (k : ℕ). fronted (each k (byte_at c.args.field.now)) c.args.out.now) e;
    }

-- A bond judged with its code in one byte: all codes above 4 are alike.
use mathlib.Core.Bool.{Bool, true, false, cond, not, ◌||◌}
use mathlib.Core.List.{List}
use mathlib.Core.Path.{◌≡◌, refl, sym, ◌∙◌, ap, subst}
use Prim.Native.Nat.{ℕ, min}
use Rattle.std.proofs.Math.Nat.{min-eq_left, min-eq_right}
use native.Mathlib.Omega.{arith}
use lib.Dec.{eqb, leb, ltb}
use borrow.Author.Tests.{ltb-true, ltb-false, ne_eqb}
use Rattle.lists.proofs.Booleans.{or_neither, unless}
use Rattle.table.specs.Arrays.{code_found}
use Rattle.table.specs.declared.rows.Rows.{Rows}
use Rattle.table.specs.Changes.{bond_of, BondPut}
use Rattle.card.specs.Tests.{bond_tested}
use Rattle.drawing.specs.Tests.{capped}

module _ (n : ℕ) (degrees near codes : List ℕ) (a b code byte : ℕ) (e : byte ≡ capped code) where
  zero-alike : eqb byte 0 ≡ eqb code 0
  zero-alike = go (ltb 4 code) refl
    where
      go : (p : Bool) → ltb 4 code ≡ p → eqb byte 0 ≡ eqb code 0
      go true f = let h = ltb-true 4 code f in rw (e, f) (sym (ne_eqb code 0 (λ z. omega arith)))
      go false f = rw (e, f)

  over-alike : ltb 4 byte ≡ ltb 4 code
  over-alike = go (ltb 4 code) refl
    where
      go : (p : Bool) → ltb 4 code ≡ p → ltb 4 byte ≡ ltb 4 code
      go true f = ap (ltb 4) (e ∙ ap (λ (q : Bool). cond {A = ℕ} q 5 code) f) ∙ sym f
      go false f = ap (ltb 4) (e ∙ ap (λ (q : Bool). cond {A = ℕ} q 5 code) f)

  pub byte_tested : bond_tested n degrees near codes (bond_of a b byte) ≡ bond_tested n degrees near codes (bond_of a b code)
  unfolding bond_tested
  byte_tested = rw (zero-alike, over-alike)

  -- a code that passes is kept
  pub byte_same : bond_tested n degrees near codes (bond_of a b byte) ≡ 0 → byte ≡ code
  unfolding bond_tested
  byte_same z =
      let there = unless (leb n a || leb n b) 4 _ z in
      let w = or_neither (eqb a b || not (eqb (code_found degrees near codes a b) 0) || eqb byte 0) (ltb 4 byte) (unless _ 5 _ there.1).0 in
      let f : ltb 4 code ≡ false = sym over-alike ∙ w.1 in
      e ∙ rw f

pub put_same : (R : Rows) (a b byte code : ℕ) (R' : Rows) → byte ≡ code → BondPut R a b byte R' → BondPut R a b code R'
put_same R a b byte code R' e P = subst (λ (x : ℕ). BondPut R a b x R') e P

-- a code in one byte
pub byte_is : (code : ℕ) → min code 5 ≡ capped code
byte_is code = go (ltb 4 code) refl
  where
    go : (p : Bool) → ltb 4 code ≡ p → min code 5 ≡ capped code
    go true e = let h = ltb-true 4 code e in rw e (min-eq_right (omega arith))
    go false e = let h = ltb-false 4 code e in rw e (min-eq_left (omega arith))

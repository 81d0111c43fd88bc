-- What the test of a kind's number lets through, and what it does not.
use mathlib.Core.Bool.{Bool, true, false, cond}
use mathlib.Core.Path.{◌≡◌, refl}
use Prim.Native.Nat.{ℕ, ◌<◌, ◌≤◌}
use native.Mathlib.Omega.{arith}
use lib.Dec.{ltb}
use borrow.Author.Tests.{ltb-true, ltb-false}
use Rattle.std.specs.Prelude.{Option, Some, None}
use Rattle.kinds.specs.Known.{kind_in, known_in}

pub known_some : (k : Option ℕ) (x : ℕ) → known_in k ≡ Some x → (kind_in k ≡ x) × (x ≤ 24)
known_some None x e = cc
known_some (Some k) x e = pick (ltb k 25) refl e
  where
    pick : (b : Bool) → ltb k 25 ≡ b → cond b (Some k) None ≡ Some x → (k ≡ x) × (x ≤ 24)
    pick true t f = let z : k ≡ x = cc in (z, omega (arith, ltb-true k 25 t))
    pick false t f = cc

pub known_none : (k : Option ℕ) → known_in k ≡ None → 24 < kind_in k
known_none None e = omega arith
known_none (Some k) e = pick (ltb k 25) refl e
  where
    pick : (b : Bool) → ltb k 25 ≡ b → cond b (Some k) None ≡ None → 24 < k
    pick true t f = cc
    pick false t f = omega (arith, ltb-false k 25 t)

-- What the checks of a drawing come to: the form in which the other proofs use them.
use mathlib.Core.Bool.{true, false, not, ◌&&◌}
use mathlib.Core.List.{map, Memᴰ}
use mathlib.Core.Logic.{◌≢◌}
use mathlib.Core.Path.{◌≡◌}
use Prim.Native.Nat.{ℕ, ◌<◌, ◌≤◌}
use lib.Dec.{eqb}
use lib.ListN.{length, get_or}
use Rattle.lists.specs.Tests.{keep, count}
use Rattle.molecule.specs.Bonds.{Bond, on, joins}
use Rattle.ctfile.specs.Filed.{Drawing}
use Rattle.ctfile.specs.Drawings.{is_h, to_h}

pub record Clean (d : Drawing) : Type 0 where
  pub some : 0 < count (map (λ k. not (eqb k 0)) d.kinds)
  pub atoms : count (map (λ k. not (eqb k 0)) d.kinds) ≤ 64
  pub bonds : count (map (λ b. not (to_h d b)) d.bonds) ≤ 80
  pub known : (p : ℕ) → p < length d.kinds → get_or d.kinds p 25 ≤ 24
  pub ends : (b : Bond) → Memᴰ b d.bonds → (b.one < length d.kinds) × (b.two < length d.kinds)
  pub apart : (b : Bond) → Memᴰ b d.bonds → b.one ≢ b.two
  pub coded : (b : Bond) → Memᴰ b d.bonds → (0 < b.code) × (b.code ≤ 4)
  pub one_h : (b : Bond) → Memᴰ b d.bonds → (is_h d b.one && is_h d b.two) ≡ false
  pub once : (p q : ℕ) → count (map (joins p q) d.bonds) ≤ 1
  pub held_once : (p : ℕ) → p < length d.kinds → is_h d p ≡ true → count (map (on p) d.bonds) ≡ 1
  pub six : (p : ℕ) → count (map (on p) (keep (λ b. not (to_h d b)) d.bonds)) ≤ 6

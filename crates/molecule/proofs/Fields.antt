-- A card of two fields is laid out as document 01 asks: the reader finds both values where it looks for them.
use mathlib.Core.Bool.{true}
use mathlib.Core.List.{List, ◌++◌}
use mathlib.Core.Path.{◌≡◌, refl, ap, ◌∙◌}
use Prim.Native.Nat.{ℕ, suc, ◌+◌, ◌<◌, ◌%◌}
use native.Mathlib.Nat.{add-zero}
use native.Mathlib.Omega.{arith}
use lib.ListN.{length, get_or, length-append, get_or-append}
use lib.Seq.{get_or-append-add}
use borrow.Author.Tests.{eq-eqb}
use Rattle.molecule.specs.Layout.{length_at, atoms_length, bonds_length, in_layout}
use Rattle.molecule.specs.Written.{field}

abbrev pub fields : List ℕ → List ℕ → List ℕ
fields atoms bonds = field 1 atoms ++ field 2 bonds

layout : (s : List ℕ) (a b : ℕ) → get_or s 0 0 ≡ 1 → atoms_length s ≡ a → bonds_length s ≡ b → get_or s (a + 3) 0 ≡ 2 → a % 2 ≡ 0 → b % 3 ≡ 0
    → length s ≡ a + b + 6 → in_layout s ≡ true
unfolding in_layout
layout s a b t e f u h k l = let g : length_at s (a + 4) ≡ b = rw e at f in simp (t, e, g, u, h, k, l, eq-eqb (a + b + 6) (a + b + 6) refl)

module _ (atoms bonds : List ℕ) where
  pub fields_atoms : (i : ℕ) → i < length atoms → get_or (fields atoms bonds) (i + 3) 0 ≡ get_or atoms i 0
  unfolding field
  fields_atoms i h =
      let e : i + 3 ≡ suc (suc (suc i)) = omega arith in
      ap (λ (k : ℕ). get_or (fields atoms bonds) k 0) e ∙ get_or-append atoms (field 2 bonds) 0 i h

  second : (i : ℕ) → get_or (fields atoms bonds) (length atoms + i + 3) 0 ≡ get_or (field 2 bonds) i 0
  unfolding field
  second i =
      let e : length atoms + i + 3 ≡ suc (suc (suc (length atoms + i))) = omega arith in
      ap (λ (k : ℕ). get_or (fields atoms bonds) k 0) e ∙ get_or-append-add atoms (field 2 bonds) i 0

  pub fields_bonds : (i : ℕ) → get_or (fields atoms bonds) (length atoms + i + 6) 0 ≡ get_or bonds i 0
  unfolding field
  fields_bonds i =
      let e : length atoms + i + 6 ≡ length atoms + suc (suc (suc i)) + 3 = omega arith in
      ap (λ (k : ℕ). get_or (fields atoms bonds) k 0) e ∙ second (suc (suc (suc i)))

  pub fields_atoms_length : atoms_length (fields atoms bonds) ≡ length atoms
  unfolding field
  fields_atoms_length = omega arith

  pub fields_bonds_length : bonds_length (fields atoms bonds) ≡ length bonds
  unfolding field
  fields_bonds_length =
      let e : atoms_length (fields atoms bonds) + 4 ≡ length atoms + 1 + 3 = omega arith in
      let f : suc (length atoms + 1 + 3) ≡ length atoms + 2 + 3 = omega arith in
      simp (e, f, second 1, second 2) (omega arith)

  pub fields_in_layout : length atoms % 2 ≡ 0 → length bonds % 3 ≡ 0 → in_layout (fields atoms bonds) ≡ true
  unfolding field
  fields_in_layout h k =
      let tag : get_or (fields atoms bonds) (length atoms + 3) 0 ≡ 2 = rw (add-zero (length atoms)) at (second 0) in
      layout (fields atoms bonds) (length atoms) (length bonds) refl fields_atoms_length fields_bonds_length tag h k
      (omega (arith, length-append atoms (field 2 bonds)))

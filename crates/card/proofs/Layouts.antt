-- A card's layout: each test that fails breaks it, all that pass make it sound, and a sound one says where everything stands.
use mathlib.Core.Bool.{Bool, true, false, and-false}
use mathlib.Core.List.{List}
use mathlib.Core.Path.{◌≡◌, refl, sym, ◌∙◌, ap, ap₂}
use Prim.Native.Nat.{ℕ, ◌+◌, ◌*◌, ◌/◌, ◌%◌}
use native.Mathlib.Omega.{arith}
use lib.Dec.{eqb}
use lib.ListN.{length, get_or}
use borrow.Author.Tests.{eq-eqb, ne_eqb, eqb-true}
use Rattle.std.specs.Prelude.{cond, Option, Some, None}
use Rattle.lists.proofs.Booleans.{and_both}
use Rattle.molecule.specs.Layout.{atoms_length, bonds_length, in_layout, atom_count, bond_count}
use Rattle.card.specs.declared.layout.Fields.{Fields}
use Rattle.card.specs.Tests.{fields_of}

module _ (s : List ℕ) where
  pub broken-fields : in_layout s ≡ false → None ≡ fields_of s
  broken-fields e = rw e

  pub fields-sound : (f : Fields) → Some f ≡ fields_of s → (in_layout s ≡ true) × (f ≡ record { atoms = atom_count s; bonds = bond_count s })
  fields-sound f e = go (in_layout s) refl e
    where
      go : (b : Bool) → in_layout s ≡ b → Some f ≡ cond b (Some (record { atoms = atom_count s; bonds = bond_count s })) None
          → (in_layout s ≡ true) × (f ≡ record { atoms = atom_count s; bonds = bond_count s })
      go true q e = (q, (cc))
      go false q e = cc

  pub fields-broken : ◌≡◌ {A = Option Fields} None (fields_of s) → in_layout s ≡ false
  fields-broken e = go (in_layout s) refl e
    where
      go : (b : Bool) → in_layout s ≡ b → ◌≡◌ {A = Option Fields} None (cond b (Some (record { atoms = atom_count s; bonds = bond_count s })) None)
          → in_layout s ≡ false
      go true q e = cc
      go false q e = q

  pub no_tag : (get_or s 0 0 ≡ 1 → ⊥) → in_layout s ≡ false
  unfolding in_layout
  no_tag h = simp (ne_eqb (get_or s 0 0) 1 h)

  pub odd_atoms : (atoms_length s % 2 ≡ 0 → ⊥) → in_layout s ≡ false
  unfolding in_layout
  odd_atoms h = simp (ne_eqb (atoms_length s % 2) 0 h, and-false)

  pub no_second_tag : (get_or s (atoms_length s + 3) 0 ≡ 2 → ⊥) → in_layout s ≡ false
  unfolding in_layout
  no_second_tag h = simp (ne_eqb (get_or s (atoms_length s + 3) 0) 2 h, and-false)

  pub odd_bonds : (bonds_length s % 3 ≡ 0 → ⊥) → in_layout s ≡ false
  unfolding in_layout
  odd_bonds h = simp (ne_eqb (bonds_length s % 3) 0 h, and-false)

  pub wrong_length : (length s ≡ atoms_length s + bonds_length s + 6 → ⊥) → in_layout s ≡ false
  unfolding in_layout
  wrong_length h = simp (ne_eqb (length s) (atoms_length s + bonds_length s + 6) h, and-false)

  pub sound-fields : (a b : ℕ) → get_or s 0 0 ≡ 1 → a ≡ atoms_length s → a % 2 ≡ 0 → get_or s (a + 3) 0 ≡ 2 → b ≡ bonds_length s → b % 3 ≡ 0 → length s ≡ a + b + 6
      → Some (record { atoms = a / 2; bonds = b / 3 }) ≡ fields_of s
  unfolding in_layout atom_count bond_count
  sound-fields a b t e h u f k l =
      let x : atoms_length s % 2 ≡ 0 = sym (ap (λ (i : ℕ). i % 2) e) ∙ h in
      let y : get_or s (atoms_length s + 3) 0 ≡ 2 = sym (ap (λ (i : ℕ). get_or s (i + 3) 0) e) ∙ u in
      let z : bonds_length s % 3 ≡ 0 = sym (ap (λ (i : ℕ). i % 3) f) ∙ k in
      let w : length s ≡ atoms_length s + bonds_length s + 6 = omega (arith, e, f, l) in
      ap₂ (λ (i j : ℕ). Some (record { atoms = i / 2; bonds = j / 3 })) e f
      ∙ sym (simp (eq-eqb (get_or s 0 0) 1 t, eq-eqb (atoms_length s % 2) 0 x, eq-eqb (get_or s (atoms_length s + 3) 0) 2 y, eq-eqb (bonds_length s % 3) 0 z, eq-eqb (length s) (atoms_length s + bonds_length s + 6) w))

  pub record Laid : Type 0 where
    pub atoms : atoms_length s ≡ 2 * atom_count s
    pub long : length s ≡ 2 * atom_count s + 3 * bond_count s + 6

  pub laid : in_layout s ≡ true → Laid
  unfolding in_layout atom_count bond_count
  laid e =
      let a = and_both _ (eqb (length s) (atoms_length s + bonds_length s + 6)) e in
      let b = and_both _ (eqb (bonds_length s % 3) 0) a.0 in
      let c = and_both _ (eqb (get_or s (atoms_length s + 3) 0) 2) b.0 in
      let d = and_both (eqb (get_or s 0 0) 1) (eqb (atoms_length s % 2) 0) c.0 in
      let x = eqb-true (length s) (atoms_length s + bonds_length s + 6) a.1 in
      let y = eqb-true (bonds_length s % 3) 0 b.1 in
      let z = eqb-true (atoms_length s % 2) 0 d.1 in
      record { atoms = omega (arith, z); long = omega (arith, x, y, z) }

  pub laid_long : in_layout s ≡ true → length s ≡ 2 * atom_count s + 3 * bond_count s + 6
  laid_long e = (laid e).long

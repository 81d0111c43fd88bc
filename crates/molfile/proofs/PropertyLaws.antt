-- The lines behind the bonds by their fields: one law for each answer of the code.
use Prim.Native.Nat.{ℕ, ◌+◌, ◌*◌, ◌≤◌, ◌<◌}
use mathlib.Core.Path.{◌≡◌, refl, sym, ap, ◌∙◌}
use mathlib.Core.List.{List}
use mathlib.Core.Bool.{Bool, true, false, ◌&&◌}
use native.Mathlib.Numerals.{add-one}
use native.Mathlib.Omega.{arith}
use lib.ListN.{length, get_or, take, drop}
use lib.Dec.{eqb, ltb, leb}
use borrow.Author.Tests.{lt-ltb, le-ltb, le-leb, lt-leb}
use Rattle.lists.specs.Upto.{each}
use Rattle.lists.specs.Tests.{every}
use Rattle.lists.proofs.Tested.{every-true_below}
use Rattle.lists.proofs.Steps.{every-next}
use Rattle.ctfile.specs.Fields.{is_blank, are_blank, columns, is_text, size_in}
use Rattle.ctfile.specs.Forms.{number_at, is_entry, lists_entries, is_property_line, is_end_line}

-- ---- Entries

module _ (atoms : ℕ) (l : List ℕ) (e : ℕ) where
  pub entry-before : is_blank (get_or l (9 + 8 * e) 32) ≡ false → false ≡ is_entry atoms l e
  unfolding is_entry
  entry-before n = simp n

  module _ (p : is_blank (get_or l (9 + 8 * e) 32) ≡ true) where
    pub entry-between : is_blank (get_or l (9 + 8 * e + 4) 32) ≡ false → false ≡ is_entry atoms l e
    unfolding is_entry
    entry-between n = simp (p, n)

    module _ (q : is_blank (get_or l (9 + 8 * e + 4) 32) ≡ true) where
      pub entry-atom : (ltb 0 (number_at (9 + 8 * e + 1) l) && leb (number_at (9 + 8 * e + 1) l) atoms) ≡ false → false ≡ is_entry atoms l e
      unfolding is_entry
      entry-atom n = simp (p, q, n)

      pub entry_value : (ltb 0 (number_at (9 + 8 * e + 1) l) && leb (number_at (9 + 8 * e + 1) l) atoms) ≡ true → eqb (size_in (columns (9 + 8 * e + 5) 3 l)) 0 ≡ is_entry atoms l e
      unfolding is_entry
      entry_value n = simp (p, q, n)

-- ---- Tests of all numbers below a bound, one by one

module _ (p : ℕ → Bool) where
  pub every_more : (n : ℕ) → every (each n p) ≡ true → p n ≡ true → every (each (n + 1) p) ≡ true
  every_more n e f = ap (λ (k : ℕ). every (each k p)) (add-one n) ∙ every-next n p ∙ rw (e, f)

  pub every-not : (n a : ℕ) → a < n → p a ≡ false → every (each n p) ≡ false
  every-not n a h e = pick (every (each n p)) refl
    where
      pick : (b : Bool) → every (each n p) ≡ b → b ≡ false
      pick true q = let z = every-true_below n p q a h in cc
      pick false q = refl

-- ---- A property line

module _ (l : List ℕ) where
  pub zero-charge : is_text "M  CHG" (take 6 l) ≡ true → true ≡ lists_entries l
  unfolding lists_entries
  zero-charge e = simp e

  pub zero-radical : is_text "M  CHG" (take 6 l) ≡ false → is_text "M  RAD" (take 6 l) ≡ true → true ≡ lists_entries l
  unfolding lists_entries
  zero-radical e f = simp (e, f)

  pub zero-isotope : is_text "M  CHG" (take 6 l) ≡ false → is_text "M  RAD" (take 6 l) ≡ false → is_text "M  ISO" (take 6 l) ≡ lists_entries l
  unfolding lists_entries
  zero-isotope e f = simp (e, f)

pub property_other : (atoms : ℕ) (l : List ℕ) → lists_entries l ≡ false → false ≡ is_property_line atoms l
unfolding is_property_line
property_other atoms l z = simp z

pub property-no_number : (atoms : ℕ) (l : List ℕ) → lists_entries l ≡ true → number_at 6 l ≡ 1000 → false ≡ is_property_line atoms l
unfolding is_property_line
property-no_number atoms l z e = let k : 8 < number_at 6 l = omega arith in let h : 0 < number_at 6 l = omega arith in simp (z, lt-ltb _ _ h, lt-leb _ _ k)

module _ (atoms : ℕ) (l : List ℕ) (n : ℕ) (e : n ≡ number_at 6 l) where
  module _ (z : lists_entries l ≡ true) where
    pub property_none : n ≡ 0 → false ≡ is_property_line atoms l
    unfolding is_property_line
    property_none q = let k : number_at 6 l ≤ 0 = omega arith in simp (z, le-ltb _ _ k)

    module _ (m : n ≡ 0 → ⊥) where
      any : 0 < number_at 6 l
      any = omega arith

      pub property_many : 8 < n → false ≡ is_property_line atoms l
      unfolding is_property_line
      property_many h = let k : 8 < number_at 6 l = omega arith in simp (z, lt-ltb _ _ any, lt-leb _ _ k)

      module _ (few : n ≤ 8) where
        eight : number_at 6 l ≤ 8
        eight = omega arith

        pub property_short : length l < 9 + 8 * n → false ≡ is_property_line atoms l
        unfolding is_property_line
        property_short h = let k : length l < 9 + 8 * number_at 6 l = omega (arith, e) in simp (z, lt-ltb _ _ any, le-leb _ _ eight, lt-leb _ _ k)

        module _ (long : 9 + 8 * n ≤ length l) where
          full : 9 + 8 * number_at 6 l ≤ length l
          full = omega (arith, e)

          entered : every (each n (is_entry atoms l)) ≡ every (each (number_at 6 l) (is_entry atoms l))
          entered = ap (λ (k : ℕ). every (each k (is_entry atoms l))) e

          pub property_entry : every (each n (is_entry atoms l)) ≡ false → false ≡ is_property_line atoms l
          unfolding is_property_line
          property_entry f = simp (z, lt-ltb _ _ any, le-leb _ _ eight, le-leb _ _ full, sym entered ∙ f)

          pub property_rest : every (each n (is_entry atoms l)) ≡ true → are_blank (drop (9 + 8 * n) l) ≡ is_property_line atoms l
          unfolding is_property_line
          property_rest t =
              ap (λ (k : ℕ). are_blank (drop (9 + 8 * k) l)) e
              ∙ simp (z, lt-ltb _ _ any, le-leb _ _ eight, le-leb _ _ full, sym entered ∙ t)

-- ---- The end line

module _ (l : List ℕ) where
  pub end-other : is_text "M  END" (take 6 l) ≡ false → false ≡ is_end_line l
  unfolding is_end_line
  end-other e = simp e

  pub end_rest : is_text "M  END" (take 6 l) ≡ true → are_blank (drop 6 l) ≡ is_end_line l
  unfolding is_end_line
  end_rest e = simp e

-- The ends of a bond, tested by the arrays and by the rules.
use mathlib.Core.Bool.{Bool, true, false, cond, not, ◌&&◌, ◌||◌}
use mathlib.Core.List.{List, map}
use mathlib.Core.Path.{◌≡◌, refl, sym, ◌∙◌, ap}
use Prim.Native.Nat.{ℕ, ◌<◌, ◌≤◌}
use lib.Dec.{eqb, leb}
use lib.ListN.{length, get_or}
use borrow.Author.Tests.{leb-false, le-leb, lt-leb}
use native.Mathlib.Omega.{arith}
use Rattle.std.specs.Prelude.{Option}
use Rattle.kinds.specs.Known.{kind_in}
use Rattle.table.specs.Changes.{bond_of}
use Rattle.lists.specs.Tests.{keep, some}
use Rattle.lists.proofs.Booleans.{or_neither, unless}
use Rattle.molecule.specs.Bonds.{Bond, on}
use Rattle.molecule.specs.Refusals.{or_next}
use Rattle.molecule.specs.Judged.{bond_judged}
use Rattle.ctfile.specs.Filed.{Drawing}
use Rattle.ctfile.specs.Drawings.{is_h, to_h, wrong_h, bond_fault}
use Rattle.drawing.specs.Tests.{h_tested, ends_tested}
use Rattle.drawing.proofs.Taken.{mapped_at}
use Rattle.drawing.proofs.Links.{Inside}

-- H at one end, at the other, the code 1, the first end bonded, the second
table : (p q c s t : Bool) (j : ℕ)
    → cond ((p || q) && (p && q || not c || p && s || q && t)) 7 (cond (p || q) 0 j) ≡ or_next (cond p (cond (q || not c || s) 7 0) (cond q (cond (p || not c || t) 7 0) 0)) (cond (p || q) 0 j)
table true true c s t j = refl
table true false true true t j = refl
table true false true false t j = refl
table true false false s t j = refl
table false true true s true j = refl
table false true true s false j = refl
table false true false s t j = refl
table false false c s t j = refl

-- the ends of a bond that passes are there
pub tested_inside : (kinds : List ℕ) (used : List Bool) (atoms : ℕ) (b : Bond) → ends_tested kinds used atoms b ≡ 0 → (b.one < atoms) × (b.two < atoms)
unfolding ends_tested
tested_inside kinds used atoms b z =
    let w = or_neither (leb atoms b.one) (leb atoms b.two) (unless _ 4 _ z).0 in
    (leb-false atoms b.one w.0, leb-false atoms b.two w.1)

module _ (d : Drawing) (before : List Bond) (kinds : List ℕ) (used : List Bool)
    (K : (p : ℕ) → p < length d.kinds → get_or kinds p 0 ≡ get_or d.kinds p 25)
    (U : (p : ℕ) → p < length d.kinds → get_or used p false ≡ some (map (on p) before)) (b : Bond) where
  abbrev pub tested : ℕ
  tested = ends_tested kinds used (length d.kinds) b

  h_is : (p : ℕ) → p < length d.kinds → eqb (get_or kinds p 0) 0 ≡ is_h d p
  h_is p h = ap (λ (k : ℕ). eqb k 0) (K p h)

  inside : (leb (length d.kinds) b.one || leb (length d.kinds) b.two) ≡ false → Inside d b
  inside e = let w = or_neither _ _ e in (leb-false _ _ w.0, leb-false _ _ w.1)

  pub ends-judged : bond_fault d before b ≡ or_next tested (cond (to_h d b) 0 (bond_judged (length d.kinds) (keep (λ x. not (to_h d x)) before) b))
  unfolding bond_fault wrong_h ends_tested
  ends-judged = go (leb (length d.kinds) b.one || leb (length d.kinds) b.two) refl
    where
      j : ℕ
      j = bond_judged (length d.kinds) (keep (λ x. not (to_h d x)) before) b

      go : (p : Bool) → (leb (length d.kinds) b.one || leb (length d.kinds) b.two) ≡ p
          → cond p 5 (cond (wrong_h d before b) 7 (cond (to_h d b) 0 j))
          ≡ or_next
          (cond p 5
          (cond (eqb (get_or kinds b.one 0) 0) (cond (eqb (get_or kinds b.two 0) 0 || not (eqb b.code 1) || get_or used b.one false) 7 0)
          (cond (eqb (get_or kinds b.two 0) 0) (cond (eqb (get_or kinds b.one 0) 0 || not (eqb b.code 1) || get_or used b.two false) 7 0) 0)))
          (cond (to_h d b) 0 j)
      go true e = refl
      go false e =
          let I = inside e in
          rw (h_is b.one I.0, h_is b.two I.1, U b.one I.0, U b.two I.1)
          (table (is_h d b.one) (is_h d b.two) (eqb b.code 1) (some (map (on b.one) before)) (some (map (on b.two) before)) j)

  module _ (z : tested ≡ 0) where
    pub ends-inside : Inside d b
    ends-inside = tested_inside kinds used (length d.kinds) b z

    -- the other end of a bond to an H is none
    pub ends-other : is_h d b.one ≡ true → is_h d b.two ≡ false
    unfolding ends_tested
    ends-other e =
        let I = ends-inside in
        let one = eqb (get_or kinds b.one 0) 0 in
        let two = eqb (get_or kinds b.two 0) 0 in
        let h = h_tested (get_or kinds b.two 0) (get_or used b.one false) b.code in
        let g = h_tested (get_or kinds b.one 0) (get_or used b.two false) b.code in
        let y = (unless (leb (length d.kinds) b.one || leb (length d.kinds) b.two) 4 (cond one h (cond two g 0)) z).1 in
        let x = ap (λ (p : Bool). cond p h (cond two g 0)) (sym (h_is b.one I.0 ∙ e)) ∙ y in
        sym (h_is b.two I.1) ∙ (or_neither two (not (eqb b.code 1)) (or_neither (two || not (eqb b.code 1)) (get_or used b.one false) (unless _ 6 0 x).0).0).0

-- ---- The same by the arrays: each return of the code

module _ (ks : List (Option ℕ)) (used : List Bool) (atoms i j code : ℕ) where
  abbrev tests : ℕ
  tests = ends_tested (map kind_in ks) used atoms (bond_of i j code)

  pub absent_one : atoms ≤ i → 5 ≡ tests
  unfolding ends_tested
  absent_one h = simp (le-leb _ _ h)

  pub absent_two : i < atoms → atoms ≤ j → 5 ≡ tests
  unfolding ends_tested
  absent_two h k = simp (lt-leb _ _ h, le-leb _ _ k)

  module _ (few : atoms ≤ length ks) (h : i < atoms) (k : j < atoms) (x y : Option ℕ) where
    kind-one : get_or (map kind_in ks) i 0 ≡ kind_in (get_or ks i x)
    kind-one = mapped_at kind_in ks i x 0 (omega arith)

    kind-two : get_or (map kind_in ks) j 0 ≡ kind_in (get_or ks j y)
    kind-two = mapped_at kind_in ks j y 0 (omega arith)

    pub h_one : eqb (kind_in (get_or ks i x)) 0 ≡ true → h_tested (kind_in (get_or ks j y)) (get_or used i false) code ≡ tests
    unfolding ends_tested
    h_one e = simp (lt-leb _ _ h, lt-leb _ _ k, kind-one, kind-two, e)

    module _ (e : eqb (kind_in (get_or ks i x)) 0 ≡ false) where
      pub h_two : eqb (kind_in (get_or ks j y)) 0 ≡ true → h_tested (kind_in (get_or ks i x)) (get_or used j false) code ≡ tests
      unfolding ends_tested
      h_two f = simp (lt-leb _ _ h, lt-leb _ _ k, kind-one, kind-two, e, f)

      pub h_none : eqb (kind_in (get_or ks j y)) 0 ≡ false → 0 ≡ tests
      unfolding ends_tested
      h_none f = simp (lt-leb _ _ h, lt-leb _ _ k, kind-one, kind-two, e, f)

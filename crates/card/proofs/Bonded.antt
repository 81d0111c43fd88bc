-- A table with the bonds of a list: with none, and with one more.
use mathlib.Core.Bool.{Bool, true, false, cond, not, ◌||◌, or-true, or-false, true≢false}
use mathlib.Core.List.{List, [], ◌∷◌, ◌++◌, map}
use mathlib.Core.Logic.{inl, inr}
use mathlib.Core.Path.{◌≡◌, refl, sym, ◌∙◌, ap}
use Prim.Native.Nat.{ℕ, ◌<◌}
use native.Mathlib.Omega.{arith}
use lib.Dec.{eqb, leb, ltb}
use lib.ListN.{length, get_or}
use borrow.Author.Tests.{ne_eqb, eqb-true, leb-false, not-false}
use Rattle.lists.specs.Tests.{count, some}
use Rattle.lists.proofs.Booleans.{or_neither}
use Rattle.lists.proofs.Passed.{count-snoc}
use Rattle.lists.proofs.Tested.{some-snoc}
use Rattle.molecule.specs.Bonds.{Bond, on, joins, code_in}
use Rattle.molecule.specs.Molecule.{neighbours}
use Rattle.molecule.specs.Judged.{bond_judged}
use Rattle.molecule.proofs.BondLists.{joins-ends, Between, joins-swap, code_in-swap}
use Rattle.molecule.proofs.Judging.{Fits, judged-fits}
use Rattle.table.specs.declared.Table.{Table}
use Rattle.table.specs.Arrays.{as_molecule, code_found}
use Rattle.table.specs.View.{arrays_of, view_of, TidyTable}
use Rattle.table.proofs.Views.{code-none, degree-row}
use Rattle.table.proofs.Joins.{Joinable, Joined}
use Rattle.card.specs.Tests.{bond_tested}

pub record Bonded (n : ℕ) (bs : List Bond) (t : Table) : Type 0 where
  pub tidy : TidyTable t
  pub size : t.n ≡ n
  pub code : (x y : ℕ) → x < n → y < n → (view_of t).code x y ≡ code_in bs x y
  pub degree : (x : ℕ) → x < n → length (neighbours (view_of t) x) ≡ count (map (on x) bs)
  pub paired : (x y : ℕ) → some (map (joins x y) bs) ≡ not (eqb (code_in bs x y) 0)

pub bonded-none : (t : Table) → TidyTable t → ((a : ℕ) → a < t.n → get_or t.rows.degrees a 0 ≡ 0) → Bonded t.n [] t
unfolding some
bonded-none t T z = record {
  tidy = T;
  size = refl;
  code = λ x y h k. code-none (arrays_of t) T x h y (λ p l. absurd (omega (arith, z x h)));
  degree = λ x h. degree-row (arrays_of t) T x h ∙ z x h;
  paired = λ x y. refl;
}

module _ (n : ℕ) (bs : List Bond) (t : Table) (H : Bonded n bs t) where
  -- other hydrogens change no bond
  pub bonded-counted : (hs : List ℕ) → length hs ≡ 64
      → Bonded n bs (record { n = t.n; kinds = t.kinds; hydrogens = hs; rows = t.rows })
  unfolding as_molecule neighbours
  bonded-counted hs e = record {
    tidy =
        let T = H.tidy in
        record {
          atoms = T.atoms;
          kinds_long = T.kinds_long;
          hydrogens_long = e;
          degrees_long = T.degrees_long;
          near_long = T.near_long;
          codes_long = T.codes_long;
          few = T.few;
          inside = T.inside;
          ascending = T.ascending;
          coded = T.coded;
        };
    size = H.size;
    code = H.code;
    degree = H.degree;
    paired = H.paired;
  }

  module _ (b : Bond) where
    degree-counts : (x : ℕ) → x < n → get_or t.rows.degrees x 0 ≡ count (map (on x) bs)
    degree-counts x h = sym (degree-row (arrays_of t) H.tidy x (omega (arith, H.size))) ∙ H.degree x h

    pair_found : (x y : ℕ) → x < n → y < n → not (eqb (code_found t.rows.degrees t.rows.near t.rows.codes x y) 0) ≡ some (map (joins x y) bs)
    unfolding as_molecule
    pair_found x y h l = ap (λ (v : ℕ). not (eqb v 0)) (H.code x y h l) ∙ sym (H.paired x y)

    -- the test over the table's arrays is that of the rules over the bonds before
    pub bonded-tested : bond_tested n t.rows.degrees t.rows.near t.rows.codes b ≡ bond_judged n bs b
    unfolding bond_tested
    bonded-tested = go (leb n b.one || leb n b.two) refl
      where
        go : (p : Bool) → (leb n b.one || leb n b.two) ≡ p
            → cond {A = ℕ} p 5 (cond (eqb b.one b.two || not (eqb (code_found t.rows.degrees t.rows.near t.rows.codes b.one b.two) 0) || eqb b.code 0 || ltb 4 b.code) 6
            (cond (leb 6 (get_or t.rows.degrees b.one 0) || leb 6 (get_or t.rows.degrees b.two 0)) 4 0))
            ≡ cond p 5 (cond (eqb b.one b.two || some (map (joins b.one b.two) bs) || eqb b.code 0 || ltb 4 b.code) 6
            (cond (leb 6 (count (map (on b.one) bs)) || leb 6 (count (map (on b.two) bs))) 4 0))
        go true e = refl
        go false e =
            let w = or_neither (leb n b.one) (leb n b.two) e in
            let h = leb-false n b.one w.0 in
            let l = leb-false n b.two w.1 in
            rw (pair_found b.one b.two h l, degree-counts b.one h, degree-counts b.two l)

    module _ (passes : bond_judged n bs b ≡ 0) where
      fits : Fits n bs b
      fits = judged-fits n bs b passes

      none : code_in bs b.one b.two ≡ 0
      none = eqb-true _ 0 (not-false _ (sym (H.paired b.one b.two) ∙ fits.first))

      pub bonded-joinable : Joinable (view_of t) b
      unfolding as_molecule
      bonded-joinable = record {
        one = omega (arith, H.size, fits.ends.0);
        two = omega (arith, H.size, fits.ends.1);
        apart = fits.ends.2;
        first = H.code b.one b.two fits.ends.0 fits.ends.1 ∙ none;
        back = H.code b.two b.one fits.ends.1 fits.ends.0 ∙ code_in-swap bs b.two b.one ∙ none;
        room-one = omega (arith, H.degree b.one fits.ends.0, fits.room-one);
        room-two = omega (arith, H.degree b.two fits.ends.1, fits.room-two);
        some = fits.some;
        known = fits.known;
      }

      -- the last bond is the first that joins its two
      code_in-last : (l : List Bond) (x y : ℕ) → some (map (joins b.one b.two) l) ≡ false → code_in (l ++ (b ∷ [])) x y ≡ cond (joins x y b) b.code (code_in l x y)
      unfolding some
      code_in-last [] x y e = refl
      code_in-last (d ∷ l) x y e = go (joins x y d) (joins x y b) refl refl (joins b.one b.two d) refl e (code_in-last l x y)
        where
          clash : joins x y d ≡ true → joins x y b ≡ true → joins b.one b.two d ≡ true
          clash p q = pick (joins-ends x y b q)
            where
              pick : Between x y b → joins b.one b.two d ≡ true
              pick (inl w) = ap (λ (v : ℕ). joins v b.two d) w.0 ∙ ap (λ (v : ℕ). joins x v d) w.1 ∙ p
              pick (inr w) = ap (λ (v : ℕ). joins v b.two d) w.0 ∙ ap (λ (v : ℕ). joins y v d) w.1 ∙ joins-swap y x d ∙ p

          go : (p q : Bool) → joins x y d ≡ p → joins x y b ≡ q → (r : Bool) → joins b.one b.two d ≡ r → (r || some (map (joins b.one b.two) l)) ≡ false
              → (some (map (joins b.one b.two) l) ≡ false → code_in (l ++ (b ∷ [])) x y ≡ cond (joins x y b) b.code (code_in l x y))
              → cond p d.code (code_in (l ++ (b ∷ [])) x y) ≡ cond q b.code (cond p d.code (code_in l x y))
          go p q f g true h e ih = absurd (true≢false e)
          go true true f g false h e ih = absurd (true≢false (sym (clash f g) ∙ h))
          go true false f g false h e ih = refl
          go false true f g false h e ih = ih e ∙ rw g
          go false false f g false h e ih = ih e ∙ rw g

      next-pair : (x y : ℕ) → some (map (joins x y) (bs ++ (b ∷ []))) ≡ not (eqb (code_in (bs ++ (b ∷ [])) x y) 0)
      next-pair x y = some-snoc (joins x y) bs b ∙ go (joins x y b) ∙ ap (λ (v : ℕ). not (eqb v 0)) (sym (code_in-last bs x y fits.first))
        where
          go : (p : Bool) → (some (map (joins x y) bs) || p) ≡ not (eqb (cond p b.code (code_in bs x y)) 0)
          go true = or-true (some (map (joins x y) bs)) ∙ sym (ap not (ne_eqb b.code 0 (λ z. omega (arith, fits.some))))
          go false = or-false (some (map (joins x y) bs)) ∙ H.paired x y

      pub bonded-next : (t' : Table) → TidyTable t' → Joined (view_of t) b (view_of t') → Bonded n (bs ++ (b ∷ [])) t'
      unfolding as_molecule
      bonded-next t' T J = record {
        tidy = T;
        size = J.size ∙ H.size;
        code = λ x y h l.
            J.code x y (omega (arith, H.size)) (omega (arith, H.size)) ∙ ap (cond (joins x y b) b.code) (H.code x y h l) ∙ sym (code_in-last bs x y fits.first);
        degree = λ x h. omega (arith, J.degree x (omega (arith, H.size)), H.degree x h, count-snoc (on x) bs b);
        paired = next-pair;
      }

-- The code that is read between the places of two ranks is the molecule's: a bond traced has the code of its ranks, and all are traced.
use mathlib.Core.Path.{◌≡◌, refl, sym, ap, ◌∙◌}
use mathlib.Core.Bool.{Bool, true, false, true≢false}
use mathlib.Core.List.{List, [], ◌∷◌, ◌++◌, map}
use mathlib.Core.Logic.{◌⊎◌, inl, inr, ⊎_elim, ◌≢◌}
use Prim.Native.Nat.{ℕ, zero, suc, ◌<◌}
use native.Mathlib.Nat.{not-suc-le-zero}
use native.Mathlib.Decide.{ℕ_discrete}
use native.Mathlib.Omega.{arith}
use lib.ListN.{length, get_or, length-append, get_or-append}
use lib.Seq.{get_or-append_seam}
use Rattle.lists.specs.Tests.{some}
use Rattle.lists.proofs.Tested.{some-pass}
use Rattle.lists.proofs.All.{All, all_map, all_snoc}
use Rattle.molecule.specs.Bonds.{Bond, joins, code_in}
use Rattle.molecule.specs.Molecule.{Molecule}
use Rattle.molecule.proofs.Sound.{Sound}
use Rattle.molecule.proofs.BondLists.{Coded, joins-ends, code_in-coded}
use Rattle.sling.specs.Walk.{code_at, place_in, is_traced, written}
use Rattle.sling.proofs.Tidy.{bond}
use Rattle.sling.proofs.Places.{On, rank_at}
use Rattle.sling.proofs.Strokes.{Rank, Keeps}
use Rattle.sling.proofs.Finished.{written_keeps, all_on, all_traced}

-- a bond within the places, to an H or with the code of the ranks at its ends
pub record Exact (W : Molecule) (l : List ℕ) (b : Bond) : Type 0 where
  pub one : b.one < length l
  pub two : b.two < length l
  pub code : (get_or l b.two 0 ≡ 0) ⊎ (b.code ≡ code_at W (get_or l b.one 0) (get_or l b.two 0))

exact_more : (W : Molecule) (l : List ℕ) (s : ℕ) (bs : List Bond) → All (Exact W l) bs → All (Exact W (l ++ (s ∷ []))) bs
exact_more W l s bs a =
    let e = length-append l (s ∷ []) in
    all_map (λ b x.
    record {
      one = omega (arith, x.one);
      two = omega (arith, x.two);
      code = rw (get_or-append l (s ∷ []) 0 b.one x.one, get_or-append l (s ∷ []) 0 b.two x.two) x.code;
    }) bs a

exact_put : (W : Molecule) (l : List ℕ) (bs : List Bond) (r s m : ℕ) → On l r → (s ≡ 0) ⊎ (m ≡ code_at W r s) → All (Exact W l) bs
    → All (Exact W (l ++ (s ∷ []))) (bs ++ (bond (place_in l r) (length l) m ∷ []))
exact_put W l bs r s m h c a =
    let e = length-append l (s ∷ []) in
    all_snoc (Exact W (l ++ (s ∷ []))) bs _ (exact_more W l s bs a)
    (record {
      one = omega arith;
      two = omega arith;
      code = rw (get_or-append l (s ∷ []) 0 (place_in l r) h, get_or-append_seam l s [] 0, rank_at l r h) c;
    })

exact_keeps : (W : Molecule) → Keeps W (λ w. All (Exact W w.ranks) w.bonds)
exact_keeps W =
    record {
      hydrogen = λ r w q h a. exact_put W w.ranks w.bonds r 0 1 h (inl refl) a;
      onward = λ r s w n h k a. exact_put W w.ranks w.bonds r s (code_at W r s) h (inr refl) a;
      back = λ r s w n h k u a.
          all_snoc (Exact W w.ranks) w.bonds _ a (record { one = h; two = k; code = inr (rw (rank_at w.ranks r h, rank_at w.ranks s k)) });
    }

-- the code of two places that are joined, and of two that are not
code-exact : (W : Molecule) (l : List ℕ) (p q : ℕ) → get_or l p 0 ≢ 0 → get_or l q 0 ≢ 0
    → code_at W (get_or l p 0) (get_or l q 0) ≡ code_at W (get_or l q 0) (get_or l p 0) → (bs : List Bond) → All (Exact W l) bs → some (map (joins p q) bs) ≡ true
    → code_in bs p q ≡ code_at W (get_or l p 0) (get_or l q 0)
unfolding some
code-exact W l p q np nq ev [] a e = cc
code-exact W l p q np nq ev (b ∷ bs) a e = pick (joins p q b) refl (code-exact W l p q np nq ev bs a.1)
  where
    at : (x y : ℕ) → get_or l y 0 ≢ 0 → b.one ≡ x → b.two ≡ y → b.code ≡ code_at W (get_or l x 0) (get_or l y 0)
    at x y n f g = ⊎_elim (λ z. absurd (n (ap (λ (k : ℕ). get_or l k 0) (sym g) ∙ z))) (λ z. z ∙ rw (f, g)) a.0.code

    pick : (y : Bool) → joins p q b ≡ y → (some (map (joins p q) bs) ≡ true → code_in bs p q ≡ code_at W (get_or l p 0) (get_or l q 0))
        → code_in (b ∷ bs) p q ≡ code_at W (get_or l p 0) (get_or l q 0)
    pick true j f = simp j (⊎_elim (λ z. at p q nq z.0 z.1) (λ z. at q p np z.0 z.1 ∙ sym ev) (joins-ends p q b j))
    pick false j f = simp j (f (simp j at e))

pub code-none : (p q : ℕ) (bs : List Bond) → some (map (joins p q) bs) ≡ false → code_in bs p q ≡ 0
code-none p q bs e = pick (code_in-coded bs p q)
  where
    pick : Coded bs p q → code_in bs p q ≡ 0
    pick (inl w) = absurd (true≢false (sym (some-pass (joins p q) bs w.0 w.1 w.2) ∙ e))
    pick (inr w) = w.1

code-even : (W : Molecule) → Sound W → (r s : ℕ) → Rank W r → Rank W s → code_at W r s ≡ code_at W s r
code-even W S zero s q p = absurd (not-suc-le-zero q.low)
code-even W S (suc a) zero q p = absurd (not-suc-le-zero p.low)
code-even W S (suc a) (suc b) q p = S.even a b q.high p.high

pub codes-are : (W : Molecule) → Sound W → (r s : ℕ) → Rank W r → Rank W s
    → code_in (written W).bonds (place_in (written W).ranks r) (place_in (written W).ranks s) ≡ code_at W r s
codes-are W S r s q p = pick (is_traced (written W) r s) refl
  where
    er : get_or (written W).ranks (place_in (written W).ranks r) 0 ≡ r
    er = rank_at (written W).ranks r (all_on W S.some S.linked r q)

    es : get_or (written W).ranks (place_in (written W).ranks s) 0 ≡ s
    es = rank_at (written W).ranks s (all_on W S.some S.linked s p)

    untraced : Dec (code_at W r s ≡ 0) → is_traced (written W) r s ≡ false → 0 ≡ code_at W r s
    untraced (yes z) e = sym z
    untraced (no n) e = let t = all_traced W S.some S.linked r s (record { one = q; two = p; code = n }) in cc

    pick : (b : Bool) → is_traced (written W) r s ≡ b → code_in (written W).bonds (place_in (written W).ranks r) (place_in (written W).ranks s) ≡ code_at W r s
    pick true e =
        code-exact W (written W).ranks (place_in (written W).ranks r) (place_in (written W).ranks s) (λ z. omega (arith, q.low, er)) (λ z. omega (arith, p.low, es))
        (rw (er, es) (code-even W S r s q p)) (written W).bonds (written_keeps W S.some (λ w. All (Exact W w.ranks) w.bonds) (exact_keeps W) tt) e
        ∙ rw (er, es)
    pick false e = code-none _ _ (written W).bonds e ∙ untraced (ℕ_discrete (code_at W r s) 0) e

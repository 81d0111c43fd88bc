-- Atom lines in another order, and bond lines with the new numbers in any order, are a renumbering of the drawing: where no pair has two bonds, its
-- code is the sum of the codes of the bonds that join it, and a sum does not depend on the order.
use mathlib.Core.Bool.{Bool, true, false, cond}
use mathlib.Core.List.Permᴰ
use mathlib.Core.List.{List, [], ◌∷◌, map, Permᴰ, Memᴰ}
use mathlib.Core.Path.{◌≡◌, refl, sym, ap, ◌∙◌}
use Prim.Native.Nat.{ℕ, ◌+◌, ◌<◌, ◌≤◌}
use native.Mathlib.Decide.{ℕ_discrete}
use native.Mathlib.Omega.{arith}
use lib.Dec.{eqb}
use borrow.Author.Tests.{eq-eqb, ne_eqb}
use Rattle.lists.specs.Upto.{sum}
use Rattle.lists.specs.Tests.{count}
use Rattle.lists.specs.Shuffle.{Shuffle}
use Rattle.lists.proofs.Permutation.{count-perm, sum-perm}
use Rattle.molecule.specs.Bonds.{Bond, joins, code_in}
use Rattle.molecule.specs.Renumbering.{Renumbered}
use Rattle.ctfile.specs.Filed.{Drawing}
use Rattle.ctfile.specs.Promises.{drawn, moved, Redrawn}
use Rattle.ctfile.proofs.Clean.{Clean}

-- ---- The code of a pair as a sum

module _ (p q : ℕ) where
  -- what a bond adds
  abbrev share : Bond → ℕ
  share b = cond (joins p q b) b.code 0

  no_share : (bs : List Bond) → count (map (joins p q) bs) ≡ 0 → sum (map share bs) ≡ 0
  unfolding sum
  no_share [] h = refl
  no_share (b ∷ bs) h = pick (joins p q b) h (no_share bs)
    where
      pick : (x : Bool) → cond x 1 0 + count (map (joins p q) bs) ≡ 0 → (count (map (joins p q) bs) ≡ 0 → sum (map share bs) ≡ 0)
          → cond x b.code 0 + sum (map share bs) ≡ 0
      pick true k ih = absurd (omega arith)
      pick false k ih = omega (arith, ih (omega arith))

  code_sum : (bs : List Bond) → count (map (joins p q) bs) ≤ 1 → code_in bs p q ≡ sum (map share bs)
  unfolding sum
  code_sum [] h = refl
  code_sum (b ∷ bs) h = pick (joins p q b) h (code_sum bs)
    where
      pick : (x : Bool) → cond x 1 0 + count (map (joins p q) bs) ≤ 1 → (count (map (joins p q) bs) ≤ 1 → code_in bs p q ≡ sum (map share bs))
          → cond x b.code (code_in bs p q) ≡ cond x b.code 0 + sum (map share bs)
      pick true k ih = omega (arith, no_share bs (omega arith))
      pick false k ih = omega (arith, ih (omega arith))

  code-perm : {bs cs : List Bond} → Permᴰ bs cs → count (map (joins p q) cs) ≤ 1 → code_in cs p q ≡ code_in bs p q
  code-perm {bs} {cs} π h =
      code_sum cs h
      ∙ sym (sum-perm (Permᴰ.map share π))
      ∙ sym (code_sum bs (omega (arith, count-perm (Permᴰ.map (joins p q) π))))

-- ---- The bonds with the new numbers

module _ {σ : ℕ → ℕ} {n : ℕ} (S : Shuffle σ n) where
  eqb-moved : (a b : ℕ) → a < n → b < n → eqb (σ a) (σ b) ≡ eqb a b
  eqb-moved a b h k = go (ℕ_discrete a b)
    where
      go : Dec (a ≡ b) → eqb (σ a) (σ b) ≡ eqb a b
      go (yes e) = eq-eqb (σ a) (σ b) (ap σ e) ∙ sym (eq-eqb a b e)
      go (no e) = ne_eqb (σ a) (σ b) (λ f. e (S.apart a b h k f)) ∙ sym (ne_eqb a b e)

  code-moved : (p q : ℕ) → p < n → q < n → (bs : List Bond) → ((b : Bond) → Memᴰ b bs → (b.one < n) × (b.two < n))
      → code_in (map (moved σ) bs) (σ p) (σ q) ≡ code_in bs p q
  code-moved p q h k [] e = refl
  code-moved p q h k (b ∷ bs) e =
      let w = e b (Memᴰ.head refl) in
      rw (
        eqb-moved b.one p w.0 h,
        eqb-moved b.two q w.1 k,
        eqb-moved b.one q w.0 k,
        eqb-moved b.two p w.1 h,
        code-moved p q h k bs (λ c m. e c (Memᴰ.tail m)),
      )

pub redrawn_renumbered : (σ : ℕ → ℕ) (d d' : Drawing) → Redrawn σ d d' → Clean d → Clean d' → Renumbered σ (drawn d) (drawn d')
redrawn_renumbered σ d d' R C C' = record {
  size = R.atoms;
  shuffle = R.shuffle;
  label = λ a h. ap (λ k. k ∷ []) (R.kinds a h);
  code = λ a b h k. code-perm (σ a) (σ b) R.bonds (C'.once (σ a) (σ b)) ∙ code-moved R.shuffle a b h k d.bonds C.ends;
}

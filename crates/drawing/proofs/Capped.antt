-- Hydrogens counted to one over the limit are judged as if they were counted to the end.
use mathlib.Core.Bool.{Bool, true, false, cond, ◌||◌, true≢false}
use mathlib.Core.List.{[], ◌∷◌}
use mathlib.Core.Path.{◌≡◌, refl, sym, ◌∙◌, ap, ap₂}
use Prim.Native.Nat.{ℕ, ◌<◌}
use native.Mathlib.Decide.{ℕ_discrete}
use native.Mathlib.Omega.{arith}
use lib.Dec.{ltb}
use lib.ListN.{get_or}
use Rattle.lists.specs.Upto.{each, sum}
use Rattle.lists.specs.Tests.{some}
use Rattle.lists.proofs.Booleans.{or_neither, unless}
use Rattle.lists.proofs.Sums.{sum-eq}
use Rattle.lists.proofs.Upto.{each-eq}
use Rattle.molecule.specs.Molecule.{connected, hydrogens}
use Rattle.molecule.specs.Renumbering.{Renumbered}
use Rattle.molecule.specs.Refusals.{or_next}
use Rattle.sling.specs.Folded as rules
use Rattle.table.specs.declared.Table.{Table}
use Rattle.table.specs.Arrays.{as_molecule}
use Rattle.table.specs.View.{view_of}
use Rattle.card.proofs.Alike.{connected-alike}
use Rattle.card.proofs.Faults.{or_next-some}
use Rattle.ctfile.specs.Filed.{Drawing}
use Rattle.ctfile.specs.Drawings.{folded, hydrogens_fault, apart_fault}
use Rattle.drawing.specs.Tests.{capped, hydrogens_tested}
use Rattle.drawing.specs.Folding.{Holds}
use Rattle.drawing.proofs.CountLaws.{some-here}

over-capped : (c : ℕ) → ltb 4 (capped c) ≡ ltb 4 c
over-capped c = go (ltb 4 c) refl
  where
    go : (p : Bool) → ltb 4 c ≡ p → ltb 4 (capped c) ≡ ltb 4 c
    go true e = ap (λ (q : Bool). ltb 4 (cond q 5 c)) e ∙ sym e
    go false e = ap (λ (q : Bool). ltb 4 (cond q 5 c)) e

exact : (c : ℕ) → ltb 4 c ≡ false → capped c ≡ c
exact c e = ap (λ (q : Bool). cond q 5 c) e

abbrev too_many : ℕ → (ℕ → ℕ) → ℕ
too_many n f = cond (some (each n (λ a. ltb 4 (f a))) || ltb 128 (sum (each n f))) 4 0

module _ (n : ℕ) (f g : ℕ → ℕ) (G : (a : ℕ) → a < n → g a ≡ capped (f a)) where
  over-alike : some (each n (λ a. ltb 4 (g a))) ≡ some (each n (λ a. ltb 4 (f a)))
  over-alike = ap some (each-eq n (λ a. ltb 4 (g a)) (λ a. ltb 4 (f a)) (λ a h. ap (ltb 4) (G a h) ∙ over-capped (f a)))

  none_over : some (each n (λ a. ltb 4 (f a))) ≡ false → (a : ℕ) → a < n → ltb 4 (f a) ≡ false
  none_over e a h = go (ltb 4 (f a)) refl
    where
      go : (p : Bool) → ltb 4 (f a) ≡ p → ltb 4 (f a) ≡ false
      go true q = absurd (true≢false (sym (some-here (λ b. ltb 4 (f b)) n a h q) ∙ e))
      go false q = q

  pub many_alike : too_many n g ≡ too_many n f
  many_alike = go (some (each n (λ a. ltb 4 (f a)))) refl
    where
      go : (p : Bool) → some (each n (λ a. ltb 4 (f a))) ≡ p → too_many n g ≡ too_many n f
      go true e = rw (over-alike, e)
      go false e = rw (over-alike, e, sum-eq n g f (λ a h. G a h ∙ exact (f a) (none_over e a h)))

  pub many_exact : too_many n g ≡ 0 → (a : ℕ) → a < n → g a ≡ f a
  many_exact z a h =
      let w = or_neither (some (each n (λ a. ltb 4 (g a)))) (ltb 128 (sum (each n g))) (unless _ 3 0 z).0 in
      G a h ∙ exact (f a) (none_over (sym over-alike ∙ w.0) a h)

-- the test of a table's hydrogens is that of its molecule
pub hydrogens-view : (t : Table) → hydrogens_tested t.hydrogens t.n ≡ hydrogens_fault (view_of t)
unfolding hydrogens_fault as_molecule
hydrogens-view t = refl

module _ (d : Drawing) (t : Table) (H : Holds d t) where
  counted : (a : ℕ) → a < t.n → get_or t.hydrogens a 0 ≡ capped (hydrogens (folded d) a)
  counted = H.hydrogens

  pub hydrogens-alike : hydrogens_fault (folded d) ≡ hydrogens_tested t.hydrogens t.n
  unfolding hydrogens_fault
  hydrogens-alike = ap (λ (n : ℕ). too_many n (hydrogens (folded d))) (sym H.size) ∙ sym (many_alike t.n (hydrogens (folded d)) (λ a. get_or t.hydrogens a 0) counted)

  pub holds_view : hydrogens_tested t.hydrogens t.n ≡ 0 → Renumbered (λ a. a) (folded d) (view_of t)
  unfolding as_molecule folded rules.folded
  holds_view z = record {
    size = H.size;
    shuffle = record { within = λ a h. h; apart = λ a b h l e. e };
    label = λ a h.
        let l : a < t.n = omega (arith, H.size) in
        let e = H.kinds a l in
        let f = many_exact t.n (hydrogens (folded d)) (λ b. get_or t.hydrogens b 0) counted z a l in
        λ i. e i ∷ f i ∷ [];
    code = λ a b h l. H.code a b (omega (arith, H.size)) (omega (arith, H.size));
  }

  -- 4 for the hydrogens, then 8, by the table
  pub ended-alike : or_next (hydrogens_fault (folded d)) (apart_fault (folded d)) ≡ or_next (hydrogens_fault (view_of t)) (apart_fault (view_of t))
  unfolding apart_fault
  ended-alike = go (ℕ_discrete (hydrogens_tested t.hydrogens t.n) 0)
    where
      same : hydrogens_fault (folded d) ≡ hydrogens_fault (view_of t)
      same = hydrogens-alike ∙ hydrogens-view t

      go : Dec (hydrogens_tested t.hydrogens t.n ≡ 0) → or_next (hydrogens_fault (folded d)) (cond (connected (folded d)) 0 8) ≡ or_next (hydrogens_fault (view_of t)) (cond (connected (view_of t)) 0 8)
      go (yes z) = ap₂ (λ (m : ℕ) (p : Bool). or_next m (cond p 0 8)) same (connected-alike (holds_view z))
      go (no z) =
          or_next-some (hydrogens_fault (folded d)) _ (λ q. z (sym hydrogens-alike ∙ q)) ∙ same
          ∙ sym (or_next-some (hydrogens_fault (view_of t)) _ (λ q. z (hydrogens-view t ∙ q)))

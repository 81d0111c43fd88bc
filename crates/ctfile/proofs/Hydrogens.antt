-- The hydrogens folded into an atom are the H that have a code with it: every pair has at most one bond, so that its bonds to H, counted bond by
-- bond, are as many as the H at their other ends, counted place by place.
use mathlib.Core.Bool.{Bool, true, false, cond, not, ◌&&◌, and-false, and-true, or-false}
use mathlib.Core.List.{map}
use mathlib.Core.Path.{◌≡◌, refl, sym, ap, ◌∙◌}
use Prim.Native.Nat.{ℕ, ◌<◌}
use lib.Dec.{eqb}
use lib.ListN.{length}
use borrow.Author.Tests.{eqb-true}
use Rattle.lists.specs.Upto.{upto, each, sum}
use Rattle.lists.specs.Tests.{keep, count}
use Rattle.lists.proofs.Sums.{count-sum, sum-swap}
use Rattle.lists.proofs.Counts.{count_none, count-eq, count-pick}
use Rattle.lists.proofs.Members.{map-eq}
use Rattle.lists.proofs.Passed.{count-keep}
use Rattle.lists.proofs.All.{map-all}
use Rattle.lists.proofs.Tested.{some_one}
use Rattle.molecule.specs.Bonds.{Bond, on, joins, code_in}
use Rattle.sling.specs.Reading.{State, to_h, hydrogens_on}
use Rattle.sling.specs.Reading as reader
use Rattle.sling.proofs.Tidy.{Proper}
use Rattle.sling.proofs.Folds.{code-joined}
use Rattle.ctfile.specs.Filed.{Drawing}
use Rattle.ctfile.specs.Drawings.{is_h, as_read}
use Rattle.ctfile.proofs.Clean.{Clean}
use Rattle.ctfile.proofs.AsText.{h_there, bonds-proper}

-- the H that a bond joins with a place that is none
h_end : (st : State) (p : ℕ) → reader.is_h st p ≡ false → (b : Bond) → Proper st.kinds b
    → count (each (length st.kinds) (λ q. reader.is_h st q && joins p q b)) ≡ cond (on p b && to_h st b) 1 0
h_end st p h b g = pick (eqb b.one p) (eqb b.two p) refl refl
  where
    pick : (x y : Bool) → eqb b.one p ≡ x → eqb b.two p ≡ y
        → count (each (length st.kinds) (λ q. reader.is_h st q && joins p q b)) ≡ cond (on p b && to_h st b) 1 0
    pick true true e f = absurd (g.apart (eqb-true _ _ e ∙ sym (eqb-true _ _ f)))
    pick true false e f =
        let z : reader.is_h st b.one ≡ false = rw (eqb-true b.one p e) h in
        simp (e, f, z, and-false, or-false) (count-pick (length st.kinds) b.two (reader.is_h st) g.two)
    pick false true e f =
        let z : reader.is_h st b.two ≡ false = rw (eqb-true b.two p f) h in
        simp (e, f, z, and-true, or-false) (count-pick (length st.kinds) b.one (reader.is_h st) g.one)
    pick false false e f = simp (e, f, and-false) (count_none (length st.kinds) (λ q. false) (λ q l. refl))

module _ (d : Drawing) (C : Clean d) (p : ℕ) where
  -- the bonds to an H, and the H that have a code with p
  by_places : reader.is_h (as_read d) p ≡ false
      → count (map (λ q. not (eqb (code_in d.bonds p q) 0)) (keep (reader.is_h (as_read d)) (upto (length d.kinds)))) ≡ hydrogens_on (as_read d) p
  unfolding each
  by_places h =
      let hs = keep (reader.is_h (as_read d)) (upto (length d.kinds)) in
      count-sum (λ q. not (eqb (code_in d.bonds p q) 0)) hs
      ∙ ap sum (map-eq hs _ (λ q. count (map (joins p q) d.bonds))
      (λ q m. ap (λ (x : Bool). cond {A = ℕ} x 1 0) (code-joined d.kinds p q d.bonds (bonds-proper d C)) ∙ some_one _ (C.once p q)))
      ∙ sum-swap (joins p) hs d.bonds
      ∙ ap sum (map-all _ (λ b. cond (on p b && to_h (as_read d) b) 1 0)
      (λ b g. count-keep (reader.is_h (as_read d)) (λ q. joins p q b) (upto (length d.kinds)) ∙ h_end (as_read d) p h b g) d.bonds (bonds-proper d C))
      ∙ sym (count-sum (λ b. on p b && to_h (as_read d) b) d.bonds)

  pub hydrogens-by_code : p < length d.kinds → is_h d p ≡ false
      → hydrogens_on (as_read d) p ≡ count (each (length d.kinds) (λ q. is_h d q && not (eqb (code_in d.bonds p q) 0)))
  unfolding each
  hydrogens-by_code l h =
      sym (by_places (h_there d p l ∙ h))
      ∙ count-keep (reader.is_h (as_read d)) (λ q. not (eqb (code_in d.bonds p q) 0)) (upto (length d.kinds))
      ∙ count-eq (length d.kinds) _ (λ q. is_h d q && not (eqb (code_in d.bonds p q) 0))
      (λ q k. ap (λ (x : Bool). x && not (eqb (code_in d.bonds p q) 0)) (h_there d q k))

-- A drawing judged, put together: the first refusal in the order of document 02 stands.
use mathlib.Core.Bool.{Bool, true, false, cond, not, ◌&&◌}
use mathlib.Core.List.{List, map}
use mathlib.Core.Path.{◌≡◌, refl, sym, ◌∙◌, ap, ap₂}
use Prim.Native.Nat.{ℕ, ◌<◌, ◌≤◌}
use native.Mathlib.Omega.{arith}
use lib.Dec.{eqb}
use lib.ListN.{length, get_or}
use Rattle.std.specs.Prelude.{Ok, Err}
use Rattle.lists.specs.Upto.{each}
use Rattle.lists.specs.Tests.{some}
use Rattle.lists.proofs.Upto.{each-eq}
use Rattle.molecule.specs.Bonds.{on}
use Rattle.molecule.specs.Molecule.{connected}
use Rattle.molecule.specs.Refusals.{or_next}
use Rattle.molecule.proofs.Judging as judging
use Rattle.sling.specs.Folded as text
use Rattle.refusal.specs.declared.Refusal.{Refusal}
use Rattle.refusal.specs.Numbers.{number_of}
use Rattle.table.specs.View.{view_of, TidyTable, EvenTable}
use Rattle.card.proofs.Faults.{number_of-some, or_next-some, or_next-none}
use Rattle.card.proofs.Whole.{counts_low}
use Rattle.ctfile.specs.Filed as rules
use Rattle.ctfile.specs.Drawings.{is_h, folded, counts_fault, kinds_fault, bonds_fault, lone_fault, hydrogens_fault, apart_fault, drawing_fault}
use Rattle.kinds.specs.Known.{kind_in}
use Rattle.drawing.specs.declared.Drawing.{Drawing}
use Rattle.drawing.specs.declared.folding.Folding.{Folding}
use Rattle.drawing.specs.View.{numbers_of, kinds_in, bonds_in, drawing_in, Fits}
use Rattle.drawing.specs.Tests.{heavy_in, heavy_bonds_in, counts_tested, unknown_tested, lone_in, hydrogens_tested}
use Rattle.drawing.specs.Folding.{Holds, Used, BondsFolded, finished_fault, IsFolded}
use Rattle.drawing.proofs.Taken.{mapped_long, taken_length, taken_there}
use Rattle.drawing.proofs.Bared.{heavies_all}
use Rattle.drawing.proofs.Held.{holds_even}
use Rattle.drawing.proofs.Capped.{hydrogens-view, holds_view, ended-alike}

-- what is judged once all bonds are: each return is the first fault in the order of the rules
module _ (d : Drawing) (f : Folding) where
  abbrev ended : ℕ
  ended = or_next (hydrogens_fault (view_of f.table)) (apart_fault (view_of f.table))

  lone-is : (p : Bool) → p ≡ lone_in (numbers_of d) f.used d.counts.atoms → finished_fault d f ≡ or_next (cond p 7 0) ended
  lone-is p e = ap (λ (s : Bool). or_next (cond s 7 0) ended) (sym e)

  pub ended-lone : (p : Bool) → p ≡ lone_in (numbers_of d) f.used d.counts.atoms → p ≡ true → 7 ≡ finished_fault d f
  ended-lone p e t = sym (lone-is p e ∙ ap (λ (s : Bool). or_next (cond s 7 0) ended) t)

  module _ (p : Bool) (e : p ≡ lone_in (numbers_of d) f.used d.counts.atoms) (t : p ≡ false) where
    after-lone : finished_fault d f ≡ ended
    after-lone = lone-is p e ∙ ap (λ (s : Bool). or_next (cond s 7 0) ended) t

    pub ended-hydrogens : (r : Refusal) → number_of r ≡ hydrogens_tested f.table.hydrogens f.table.n → number_of r ≡ finished_fault d f
    ended-hydrogens r g =
        let h = g ∙ hydrogens-view f.table in
        h ∙ sym (after-lone ∙ or_next-some _ _ (λ x. number_of-some r (h ∙ x)))

    module _ (z : 0 ≡ hydrogens_tested f.table.hydrogens f.table.n) (s : Bool) (k : s ≡ connected (view_of f.table)) where
      apart : finished_fault d f ≡ cond s 0 8
      unfolding apart_fault
      apart = after-lone ∙ or_next-none _ _ (sym (z ∙ hydrogens-view f.table)) ∙ ap (λ (c : Bool). cond {A = ℕ} c 0 8) (sym k)

      pub ended-apart : s ≡ false → 8 ≡ finished_fault d f
      ended-apart x = sym (apart ∙ ap (λ (c : Bool). cond {A = ℕ} c 0 8) x)

      pub ended-whole : s ≡ true → 0 ≡ finished_fault d f
      ended-whole x = sym (apart ∙ ap (λ (c : Bool). cond {A = ℕ} c 0 8) x)

module _ (d : Drawing) (A : Fits d) where
  abbrev drawn : rules.Drawing
  drawn = drawing_in d

  few : d.counts.atoms ≤ length (numbers_of d)
  few = omega (arith, A.atoms, A.kinds_long, mapped_long kind_in d.kinds)

  refuse : (r : Refusal) → number_of r ≡ drawing_fault drawn → IsFolded drawn (Err r)
  refuse r e = record { refusal = e; tidy = tt; view = tt }

  lone_alike : (marks : List Bool) → Used drawn marks → lone_fault drawn ≡ cond (lone_in (numbers_of d) marks d.counts.atoms) 7 0
  unfolding lone_fault
  lone_alike marks U =
      ap (λ (l : List Bool). cond {A = ℕ} (some l) 7 0)
      (ap (λ (n : ℕ). each n (λ p. is_h drawn p && not (some (map (on p) drawn.bonds)))) (taken_length (numbers_of d) d.counts.atoms few)
      ∙ each-eq d.counts.atoms (λ p. is_h drawn p && not (some (map (on p) drawn.bonds))) (λ p. eqb (get_or (numbers_of d) p 0) 0 && not (get_or marks p false))
      (λ p h. ap₂ ◌&&◌ (ap (λ (k : ℕ). eqb k 0) (taken_there (numbers_of d) d.counts.atoms few p 25 h))
      (ap not (sym (U p (omega (arith, taken_length (numbers_of d) d.counts.atoms few)))))))

  folded-size : (folded drawn).size ≡ heavy_in (kinds_in d)
  unfolding folded text.folded text.heavy_places
  folded-size = heavies_all drawn.kinds

  abbrev later : ℕ
  later = or_next (bonds_fault drawn) (or_next (lone_fault drawn) (or_next (hydrogens_fault (folded drawn)) (apart_fault (folded drawn))))

  start : drawing_fault drawn ≡ or_next (counts_tested (heavy_in (kinds_in d)) (heavy_bonds_in (kinds_in d) (bonds_in d))) (or_next (kinds_fault drawn) later)
  unfolding drawing_fault counts_fault
  start = refl

  pub whole-counts : (r : Refusal) → number_of r ≡ counts_tested (heavy_in (kinds_in d)) (heavy_bonds_in (kinds_in d) (bonds_in d)) → IsFolded drawn (Err r)
  whole-counts r e = refuse r (e ∙ sym (start ∙ or_next-some _ _ (λ x. number_of-some r (e ∙ x))))

  module _ (z : 0 ≡ counts_tested (heavy_in (kinds_in d)) (heavy_bonds_in (kinds_in d) (bonds_in d))) where
    low : (0 < heavy_in (kinds_in d)) × (heavy_in (kinds_in d) ≤ 64)
    low = counts_low (heavy_in (kinds_in d)) (heavy_bonds_in (kinds_in d) (bonds_in d)) (sym z)

    pub whole-few : heavy_in (kinds_in d) ≤ 64
    whole-few = low.1

    after-counts : drawing_fault drawn ≡ or_next (unknown_tested (kinds_in d)) later
    unfolding kinds_fault
    after-counts = start ∙ or_next-none _ _ (sym z)

    pub whole-unknown : (r : Refusal) → number_of r ≡ unknown_tested (kinds_in d) → IsFolded drawn (Err r)
    whole-unknown r e = refuse r (e ∙ sym (after-counts ∙ or_next-some _ _ (λ x. number_of-some r (e ∙ x))))

    module _ (y : 0 ≡ unknown_tested (kinds_in d)) where
      after-kinds : drawing_fault drawn ≡ later
      after-kinds = after-counts ∙ or_next-none _ _ (sym y)

      pub whole-bonds : (f : Folding) (r : Refusal) → BondsFolded drawn f (number_of r) → IsFolded drawn (Err r)
      whole-bonds f r B = refuse r (B.refusal ∙ sym (after-kinds ∙ or_next-some _ _ (λ x. number_of-some r (B.refusal ∙ x))))

      module _ (f : Folding) (B : BondsFolded drawn f 0) where
        holds : Holds drawn f.table
        holds = B.table refl

        pub whole_ready : TidyTable f.table × EvenTable f.table × (0 < f.table.n)
        whole_ready = (holds.tidy, holds_even drawn f.table holds, omega (arith, holds.size, folded-size, low.0))

        after-bonds : drawing_fault drawn ≡ finished_fault d f
        after-bonds = after-kinds ∙ or_next-none _ _ (sym B.refusal) ∙ ap₂ or_next (lone_alike f.used (B.used refl)) (ended-alike drawn f.table holds)

        pub whole-finished : (r : Refusal) → number_of r ≡ finished_fault d f → IsFolded drawn (Err r)
        whole-finished r e = refuse r (e ∙ sym after-bonds)

        pub whole-ended : 0 ≡ finished_fault d f → IsFolded drawn (Ok f.table)
        whole-ended e = record { refusal = e ∙ sym after-bonds; tidy = holds.tidy; view = holds_view drawn f.table holds exact }
          where
            exact : hydrogens_tested f.table.hydrogens f.table.n ≡ 0
            exact =
                let w = judging.or_next-none (cond (lone_in (numbers_of d) f.used d.counts.atoms) 7 0) (or_next (hydrogens_fault (view_of f.table)) (apart_fault (view_of f.table))) (sym e) in
                hydrogens-view f.table ∙ (judging.or_next-none (hydrogens_fault (view_of f.table)) (apart_fault (view_of f.table)) w.1).0

-- The loop over the bonds of a drawing in arrays.
use mathlib.Core.Bool.{Bool}
use mathlib.Core.List.{List}
use mathlib.Core.Logic.{◌≢◌}
use mathlib.Core.Path.{◌≡◌, sym, ◌∙◌, ap, subst}
use Prim.Native.Nat.{ℕ, ◌+◌, ◌<◌, ◌≤◌}
use native.Mathlib.Decide.{ℕ_discrete}
use native.Mathlib.Omega.{arith}
use lib.ListN.{length, get_or, take}
use lib.Seq.{length-take-le}
use Rattle.molecule.specs.Bonds as molecule
use Rattle.table.specs.declared.Table.{Table}
use Rattle.table.specs.Changes as table
use Rattle.card.proofs.Faults.{rest_end}
use Rattle.ctfile.specs.Filed as rules
use Rattle.ctfile.specs.Drawings.{no_bond, bonds_fault}
use Rattle.drawing.specs.declared.Bond.{Bond}
use Rattle.drawing.specs.declared.Drawing.{Drawing}
use Rattle.drawing.specs.declared.folding.Folding.{Folding}
use Rattle.kinds.specs.Known.{kind_in}
use Rattle.drawing.specs.Tests.{ends_tested}
use Rattle.drawing.specs.View.{numbers_of, bond_in, drawing_in, Fits}
use Rattle.drawing.specs.Folding.{heavies_to, changed, ends_in, Foldable, BondFolded, BondsFolded}
use Rattle.drawing.proofs.Taken.{mapped_long, taken_length, taken_there}
use Rattle.drawing.proofs.FoldLaws.{fault_at, FoldedTo, FoldingTo}
use Rattle.drawing.proofs.Step.{ends, step_absent, step_inside, step_linkable, step_wrong, step_next}
use Rattle.drawing.proofs.Held.{folded-holds, folded-used}

module _ (d : Drawing) (A : Fits d) where
  abbrev pub drawn : rules.Drawing
  drawn = drawing_in d

  few : d.counts.atoms ≤ length (numbers_of d)
  few = omega (arith, A.atoms, A.kinds_long, mapped_long kind_in d.kinds)

  pub atoms-length : length drawn.kinds ≡ d.counts.atoms
  atoms-length = taken_length (numbers_of d) d.counts.atoms few

  pub bonds-length : length drawn.bonds ≡ d.counts.bonds
  bonds-length = mapped_long bond_in (take d.counts.bonds d.bonds) ∙ length-take-le d.counts.bonds d.bonds (omega (arith, A.bonds, A.bonds_long))

  kind-is : (p : ℕ) → p < length drawn.kinds → get_or (numbers_of d) p 0 ≡ get_or drawn.kinds p 25
  kind-is p h = sym (taken_there (numbers_of d) d.counts.atoms few p 25 (omega (arith, atoms-length)))

  pub loop_done : (f : Folding) (k : ℕ) → FoldingTo drawn f k → d.counts.bonds ≤ k → BondsFolded drawn f 0
  loop_done f k F l =
      let G = F.folded in
      let e : k ≡ length drawn.bonds = omega (arith, G.few, bonds-length) in
      record {
        refusal = sym (G.rest ∙ rest_end (fault_at drawn) (length drawn.bonds) k (omega arith));
        table = λ x. folded-holds drawn f.table f.used k G e;
        used = λ x. folded-used drawn f.table f.used k G e;
      }

  module _ (f : Folding) (k : ℕ) (F : FoldingTo drawn f k) (h : k < d.counts.bonds) (x : Bond) (ex : bond_in x ≡ get_or drawn.bonds k no_bond) where
    abbrev b : molecule.Bond
    b = bond_in x

    later : k < length drawn.bonds
    later = omega (arith, bonds-length)

    same : get_or drawn.bonds k no_bond ≡ table.bond_of x.one x.two x.code
    same = sym ex

    abbrev tested : ℕ
    tested = ends_in d f (bond_in x)

    tested_is : tested ≡ ends drawn f.table f.used k F.folded later (numbers_of d) kind-is x.one x.two x.code same
    tested_is = ap (λ (n : ℕ). ends_tested (numbers_of d) f.used n (table.bond_of x.one x.two x.code)) (sym atoms-length)

    absent-is : tested ≢ 0 → tested ≡ bonds_fault drawn
    absent-is z = tested_is ∙ step_absent drawn f.table f.used k F.folded later (numbers_of d) kind-is x.one x.two x.code same (λ y. z (tested_is ∙ y))

    module _ (z : tested ≡ 0) where
      passed : ends drawn f.table f.used k F.folded later (numbers_of d) kind-is x.one x.two x.code same ≡ 0
      passed = sym tested_is ∙ z

      number-one : get_or f.numbers x.one 0 ≡ length (heavies_to drawn.kinds x.one)
      number-one = F.numbers x.one (step_inside drawn f.table f.used k F.folded later (numbers_of d) kind-is x.one x.two x.code same passed).0

      number-two : get_or f.numbers x.two 0 ≡ length (heavies_to drawn.kinds x.two)
      number-two = F.numbers x.two (step_inside drawn f.table f.used k F.folded later (numbers_of d) kind-is x.one x.two x.code same passed).1

    pub loop_foldable : Foldable d f (bond_in x)
    loop_foldable = record {
      fits = A;
      linkable = λ z. step_linkable drawn f.table f.used k F.folded later (numbers_of d) kind-is x.one x.two x.code same (passed z) _ _ (number-one z) (number-two z);
    }

    module _ (f' : Folding) (r : ℕ) (P : BondFolded d (bond_in x) f f' r) where
      wrong_is : (z : tested ≡ 0) → r ≢ 0 → r ≡ bonds_fault drawn
      wrong_is z = step_wrong drawn f.table f.used k F.folded later (numbers_of d) kind-is x.one x.two x.code same (passed z) _ _ (number-one z) (number-two z) r f'.table.rows f'.table.hydrogens (P.linked z)

      pub loop_refused : r ≢ 0 → BondsFolded drawn f' r
      loop_refused n = record { refusal = go (ℕ_discrete tested 0); table = λ y. absurd (n y); used = λ y. absurd (n y) }
        where
          go : Dec (tested ≡ 0) → r ≡ bonds_fault drawn
          go (yes z) = wrong_is z n
          go (no z) = P.absent z ∙ absent-is z

      pub loop_next : r ≡ 0 → FoldingTo drawn f' (k + 1)
      loop_next n = record { folded = go (ℕ_discrete tested 0); numbers = λ p l. ap (λ (m : List ℕ). get_or m p 0) P.kept.1 ∙ F.numbers p l }
        where
          go : Dec (tested ≡ 0) → FoldedTo drawn f'.table f'.used (k + 1)
          go (yes z) =
              subst (λ (t : Table). FoldedTo drawn t f'.used (k + 1)) (sym P.kept.0)
              (subst (λ (m : List Bool). FoldedTo drawn (changed f.table f'.table.rows f'.table.hydrogens) m (k + 1)) (sym (P.marked z n))
              (step_next drawn f.table f.used k F.folded later (numbers_of d) kind-is x.one x.two x.code same (passed z) _ _ (number-one z) (number-two z) r f'.table.rows f'.table.hydrogens (P.linked z) n))
          go (no z) = absurd (z (sym (P.absent z) ∙ n))

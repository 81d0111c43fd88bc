-- With every bond folded the table is the molecule that the rules fold, its hydrogens counted to one over the limit.
use mathlib.Core.Bool.{Bool}
use mathlib.Core.List.{List, map}
use mathlib.Core.Path.{◌≡◌, sym, ◌∙◌, ap, ap₂}
use Prim.Native.Nat.{ℕ, ◌<◌}
use native.Mathlib.Omega.{arith}
use lib.ListN.{length, take}
use lib.Seq.{take-length}
use Rattle.lists.specs.Tests.{count, some}
use Rattle.molecule.specs.Bonds.{Bond, on, code_in}
use Rattle.molecule.proofs.BondLists.{code_in-swap}
use Rattle.sling.specs.Folded as rules
use Rattle.table.specs.declared.Table.{Table}
use Rattle.table.specs.View.{view_of, EvenTable}
use Rattle.ctfile.specs.Filed.{Drawing}
use Rattle.ctfile.specs.Drawings.{folded}
use Rattle.drawing.specs.Tests.{capped}
use Rattle.drawing.specs.Folding.{Holds, Used}
use Rattle.drawing.proofs.Links.{size, place, number-place, linked, linked-code}
use Rattle.drawing.proofs.FoldLaws.{hydrogen_of, FoldedTo}

module _ (d : Drawing) (t : Table) where
  whole : (k : ℕ) → k ≡ length d.bonds → take k d.bonds ≡ d.bonds
  whole k e = ap (λ (i : ℕ). take i d.bonds) e ∙ take-length d.bonds

  pub folded-used : (marks : List Bool) (k : ℕ) → FoldedTo d t marks k → k ≡ length d.bonds → Used d marks
  folded-used marks k F e p h = F.used p h ∙ ap (λ (bs : List Bond). some (map (on p) bs)) (whole k e)

  pub folded-holds : (marks : List Bool) (k : ℕ) → FoldedTo d t marks k → k ≡ length d.bonds → Holds d t
  unfolding folded rules.folded rules.heavy_places
  folded-holds marks k F e = record {
    tidy = F.rows.tidy;
    size = F.rows.size;
    kinds = λ a h. F.kinds a (omega (arith, F.rows.size));
    hydrogens = λ a h. F.hydrogens a (omega (arith, F.rows.size)) ∙ ap (λ (bs : List Bond). capped (count (map (hydrogen_of d (place d a)) bs))) (whole k e);
    code = λ a b h l. code a b (omega (arith, F.rows.size)) (omega (arith, F.rows.size));
  }
    where
      code : (a b : ℕ) → a < size d → b < size d → (view_of t).code a b ≡ code_in d.bonds (place d a) (place d b)
      code a b h l =
          let A = number-place d a h in
          let B = number-place d b l in
          F.rows.code a b h l ∙ ap₂ (code_in (linked d (take k d.bonds))) (sym A.1) (sym B.1)
          ∙ linked-code d (place d a) A.0 (place d b) B.0 (take k d.bonds) F.ends ∙ ap (λ (bs : List Bond). code_in bs (place d a) (place d b)) (whole k e)

  pub holds_even : Holds d t → EvenTable t
  unfolding folded rules.folded
  holds_even H a b h l = H.code a b h l ∙ code_in-swap d.bonds _ _ ∙ sym (H.code b a l h)

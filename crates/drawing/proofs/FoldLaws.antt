-- The bonds of a drawing folded one by one: the table so far, and the faults still to come.
use mathlib.Core.Bool.{Bool, true, false, cond, ◌&&◌, ◌||◌, or-true, or-false}
use mathlib.Core.List.{List, [], map}
use mathlib.Core.Path.{◌≡◌, refl, sym, ◌∙◌, ap, subst}
use Prim.Native.Nat.{ℕ, ◌+◌, ◌<◌, ◌≤◌}
use native.Mathlib.Decide.{ℕ_discrete}
use native.Mathlib.Omega.{arith}
use lib.Dec.{eqb, ltb}
use lib.ListN.{length, get_or, set, take, length-set}
use lib.Seq.{get_or-set_same, get_or-set_other}
use borrow.Author.Tests.{eq-eqb, ne_eqb, eqb-true, eqb-false, ltb-true, ltb-false, lt-ltb, le-ltb}
use Rattle.lists.specs.Tests.{keep, count, some}
use Rattle.lists.proofs.All.{All}
use Rattle.molecule.specs.Bonds.{Bond, on}
use Rattle.sling.specs.Reading as text
use Rattle.table.specs.declared.Table.{Table}
use Rattle.card.proofs.Faults.{Rest, rest_start}
use Rattle.card.proofs.Bonded.{Bonded, bonded-none}
use Rattle.ctfile.specs.Filed.{Drawing}
use Rattle.ctfile.specs.Drawings.{as_read, no_bond, bond_fault, bonds_fault}
use Rattle.drawing.specs.declared.folding.Folding.{Folding}
use Rattle.drawing.specs.Tests.{capped, one_more}
use Rattle.drawing.specs.Folding.{heavies_to, Bares, counted}
use Rattle.drawing.proofs.Links.{size, place, Inside, linked}

-- one hydrogen more, where they are counted to one over the limit
capped-more : (c : ℕ) → one_more (capped c) ≡ capped (c + 1)
capped-more c = go (ltb 4 c) refl
  where
    go : (p : Bool) → ltb 4 c ≡ p → one_more (capped c) ≡ capped (c + 1)
    go true e = let h = ltb-true 4 c e in rw (e, lt-ltb 4 (c + 1) (omega arith))
    go false e = rw (e, e) (last (ℕ_discrete c 4) (ltb-false 4 c e))
      where
        last : Dec (c ≡ 4) → c ≤ 4 → c + 1 ≡ cond (ltb 4 (c + 1)) 5 (c + 1)
        last (yes q) h = rw q
        last (no q) h = sym (rw (le-ltb 4 (c + 1) (omega arith)))

pub counted-more : (hs : List ℕ) (y a c : ℕ) → y < length hs → get_or hs a 0 ≡ capped c → get_or (counted hs y) a 0 ≡ capped (c + cond (eqb y a) 1 0)
counted-more hs y a c h e = go (eqb y a) refl
  where
    go : (p : Bool) → eqb y a ≡ p → get_or (counted hs y) a 0 ≡ capped (c + cond p 1 0)
    go true q =
        let w : y ≡ a = eqb-true y a q in
        ap (λ (x : ℕ). get_or (counted hs y) x 0) (sym w) ∙ get_or-set_same hs y (one_more (get_or hs y 0)) 0 h
        ∙ ap one_more (ap (λ (x : ℕ). get_or hs x 0) w ∙ e) ∙ capped-more c
    go false q =
        let z : c ≡ c + 0 = omega arith in
        get_or-set_other hs y a (one_more (get_or hs y 0)) 0 (λ w. eqb-false y a q (sym w)) ∙ e ∙ ap capped z

-- two atoms more that have a bond
pub marked_more : (used : List Bool) (i j p : ℕ) (s : Bool) → i < length used → j < length used → get_or used p false ≡ s
    → get_or (set (set used i true) j true) p false ≡ (s || (eqb i p || eqb j p))
marked_more used i j p s h k e = go (ℕ_discrete p j) (ℕ_discrete p i)
  where
    go : Dec (p ≡ j) → Dec (p ≡ i) → get_or (set (set used i true) j true) p false ≡ (s || (eqb i p || eqb j p))
    go (yes q) r = rw (q, eq-eqb j j refl, or-true, or-true) (get_or-set_same (set used i true) j true false (omega (arith, length-set used i true)))
    go (no q) (yes r) =
        get_or-set_other (set used i true) j p true false q ∙ rw (r, eq-eqb i i refl, or-true) (get_or-set_same used i true false h)
    go (no q) (no r) =
        get_or-set_other (set used i true) j p true false q ∙ get_or-set_other used i p true false r ∙ e
        ∙ sym (rw (ne_eqb i p (λ z. r (sym z)), ne_eqb j p (λ z. q (sym z))) (or-false s))

module _ (d : Drawing) where
  -- a bond that is a hydrogen of p
  abbrev pub hydrogen_of : ℕ → Bond → Bool
  hydrogen_of p b = on p b && text.to_h (as_read d) b

  abbrev pub fault_at : ℕ → ℕ
  fault_at k = bond_fault d (take k d.bonds) (get_or d.bonds k no_bond)

  pub record FoldedTo (t : Table) (marks : List Bool) (k : ℕ) : Type 0 where
    pub few : k ≤ length d.bonds
    pub atoms : length d.kinds ≤ 999
    pub rows : Bonded (size d) (linked d (take k d.bonds)) t
    pub kinds : (a : ℕ) → a < size d → get_or t.kinds a 0 ≡ get_or d.kinds (place d a) 0
    pub hydrogens : (a : ℕ) → a < size d → get_or t.hydrogens a 0 ≡ capped (count (map (hydrogen_of (place d a)) (take k d.bonds)))
    pub ends : All (Inside d) (take k d.bonds)
    pub long : length marks ≡ 999
    pub used : (p : ℕ) → p < length d.kinds → get_or marks p false ≡ some (map (on p) (take k d.bonds))
    pub rest : bonds_fault d ≡ Rest fault_at (length d.bonds) k

  -- the same of what is folded, with the numbers of the atoms
  pub record FoldingTo (f : Folding) (k : ℕ) : Type 0 where
    pub folded : FoldedTo f.table f.used k
    pub numbers : (p : ℕ) → p < length d.kinds → get_or f.numbers p 0 ≡ length (heavies_to d.kinds p)

  pub folded_start : (f : Folding) → Bares d.kinds f → length d.kinds ≤ 999 → FoldingTo f 0
  unfolding bonds_fault keep some
  folded_start f B few = record {
    folded = record {
      few = omega arith;
      atoms = few;
      rows = subst (λ (n : ℕ). Bonded n [] f.table) B.size (bonded-none f.table B.tidy B.degrees);
      kinds = λ a h. B.kinds a (omega (arith, B.size));
      hydrogens = λ a h. B.hydrogens a (omega (arith, B.size));
      ends = tt;
      long = B.long;
      used = λ p h. B.unused p (omega arith);
      rest = rest_start fault_at (length d.bonds);
    };
    numbers = B.numbers;
  }

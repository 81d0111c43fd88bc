-- A drawing folded into a table: the atoms that are no H, then the bonds one by one, and what comes of it.
use Rattle.std.specs.Prelude.{Bool, true, false, cond, not, List, map, replicate, Result, IfOk, ◌≡◌, ℕ, ◌+◌, ◌<◌, eqb, length, get_or, set}
use Rattle.lists.specs.Upto.{upto}
use Rattle.lists.specs.Tests.{keep, some}
use Rattle.molecule.specs.Bonds.{Bond, on}
use Rattle.molecule.specs.Molecule.{kind, hydrogens}
use Rattle.molecule.specs.Refusals.{or_next}
use Rattle.molecule.specs.Renumbering.{Renumbered}
use Rattle.refusal.specs.declared.Refusal.{Refusal}
use Rattle.refusal.specs.Numbers.{refusal_in}
use Rattle.table.specs.declared.Table.{Table}
use Rattle.table.specs.declared.rows.Rows.{Rows}
use Rattle.table.specs.Arrays.{HasRow}
use Rattle.table.specs.View.{view_of, TidyTable}
use Rattle.table.specs.Changes.{RoomFor, BondPut, no_rows}
use Rattle.card.specs.Tests.{bond_tested}
use Rattle.ctfile.specs.Filed as rules
use Rattle.ctfile.specs.Drawings.{folded, bonds_fault, hydrogens_fault, apart_fault, drawing_fault}
use Rattle.drawing.specs.declared.Drawing.{Drawing}
use Rattle.drawing.specs.declared.folding.Folding.{Folding}
use Rattle.drawing.specs.View.{numbers_of, Fits}
use Rattle.drawing.specs.Tests.{unknown_tested, ends_tested, capped, one_more, lone_in}

-- ---- The atoms

abbrev pub empty_folding : Folding
empty_folding = record {
  table = record { n = 0; kinds = replicate 64 0; hydrogens = replicate 64 0; rows = no_rows };
  numbers = replicate 999 0;
  used = replicate 999 false;
}

-- the places below i that have no H
abbrev pub heavies_to : (kinds : List ℕ) → ℕ → List ℕ
heavies_to kinds i = keep (λ p. not (eqb (get_or kinds p 0) 0)) (upto i)

-- an atom more for a kind that is not H
abbrev pub with_kind : ℕ → Table → Table
with_kind kind t = record t { n = t.n + 1; kinds = set t.kinds t.n kind }

abbrev pub KindPut : (kind : ℕ) → (old new : Folding) → Type 0
KindPut kind old new = new ≡ record old { table = cond (eqb kind 0) old.table (with_kind kind old.table) }

-- "None are invented": no atom has a hydrogen before a bond is read
pub record Bares (ks : List ℕ) (r : Folding) : Type 0 where
  pub tidy : TidyTable r.table
  pub size : r.table.n ≡ length (heavies_to ks (length ks))
  pub kinds : (a : ℕ) → a < r.table.n → get_or r.table.kinds a 0 ≡ get_or ks (get_or (heavies_to ks (length ks)) a 0) 0
  pub hydrogens : (a : ℕ) → a < r.table.n → get_or r.table.hydrogens a 0 ≡ 0
  pub degrees : (a : ℕ) → a < r.table.n → get_or r.table.rows.degrees a 0 ≡ 0
  pub numbers : (p : ℕ) → p < length ks → get_or r.numbers p 0 ≡ length (heavies_to ks p)
  pub long : length r.used ≡ 999
  pub unused : (p : ℕ) → p < 999 → get_or r.used p false ≡ false

pub record AtomsPut (ks : List ℕ) (new : Folding) (r : Result (Unit {0}) Refusal) : Type 0 where
  pub refusal : refusal_in r ≡ unknown_tested ks
  pub atoms : refusal_in r ≡ 0 → Bares ks new

-- ---- The bonds

-- a bond with the numbers of its atoms in place of their places
abbrev pub numbered : List ℕ → Bond → Bond
numbered numbers b = record { one = get_or numbers b.one 0; two = get_or numbers b.two 0; code = b.code }

-- 5, 6, 4 for a bond, by the rows of n atoms
abbrev pub judged_in : ℕ → Rows → Bond → ℕ
judged_in n R b = bond_tested n R.degrees R.near R.codes b

-- a table has room for what a bond between atoms of these kinds brings
pub record Linkable (t : Table) (kind other : ℕ) (b : Bond) : Type 0 where
  pub rows : (x : ℕ) → x < t.n → HasRow t.rows.degrees t.rows.near x
  pub one : kind ≡ 0 → b.two < 64
  pub two : other ≡ 0 → b.one < 64
  pub bond : judged_in t.n t.rows b ≡ 0 → RoomFor t.rows b.one × RoomFor t.rows b.two × (b.one ≡ b.two → ⊥)

-- a hydrogen counted on atom a
abbrev pub counted : List ℕ → ℕ → List ℕ
counted hs a = set hs a (one_more (get_or hs a 0))

-- the same table with other rows and hydrogens
abbrev pub changed : Table → Rows → List ℕ → Table
changed t R hs = record { n = t.n; kinds = t.kinds; hydrogens = hs; rows = R }

-- the same folding with other rows and hydrogens in its table
abbrev pub linked_to : Folding → Rows → List ℕ → Folding
linked_to f R hs = record { table = changed f.table R hs; numbers = f.numbers; used = f.used }

-- a bond to an H whose other end is atom a: it counts, and the rows stay
pub record Unlinked (R : Rows) (hs : List ℕ) (a r : ℕ) (R' : Rows) (hs' : List ℕ) : Type 0 where
  pub none : r ≡ 0
  pub rows : R' ≡ R
  pub hydrogens : hs' ≡ counted hs a

-- what becomes of a bond between atoms of these kinds, r the refusal
pub record RowsLinked (n : ℕ) (R : Rows) (hs : List ℕ) (kind other : ℕ) (b : Bond) (r : ℕ) (R' : Rows) (hs' : List ℕ) : Type 0 where
  pub one : kind ≡ 0 → Unlinked R hs b.two r R' hs'
  pub two : (kind ≡ 0 → ⊥) → other ≡ 0 → Unlinked R hs b.one r R' hs'
  pub judged : (kind ≡ 0 → ⊥) → (other ≡ 0 → ⊥) → r ≡ judged_in n R b
  pub bond : (kind ≡ 0 → ⊥) → (other ≡ 0 → ⊥) → r ≡ 0 → BondPut R b.one b.two b.code R' × (hs' ≡ hs)

pub record Linked (kind other : ℕ) (b : Bond) (old new : Folding) (r : ℕ) : Type 0 where
  pub kept : new ≡ linked_to old new.table.rows new.table.hydrogens
  pub rows : RowsLinked old.table.n old.table.rows old.table.hydrogens kind other b r new.table.rows new.table.hydrogens

-- whether a bond's ends are there and fit
abbrev pub ends_in : Drawing → Folding → Bond → ℕ
ends_in d f b = ends_tested (numbers_of d) f.used d.counts.atoms b

-- there is room for a bond between places of the file
pub record Foldable (d : Drawing) (f : Folding) (b : Bond) : Type 0 where
  pub fits : Fits d
  pub linkable : ends_in d f b ≡ 0 → Linkable f.table (get_or (numbers_of d) b.one 0) (get_or (numbers_of d) b.two 0) (numbered f.numbers b)

-- what becomes of it: 5 and 7 come first
pub record BondFolded (d : Drawing) (b : Bond) (old new : Folding) (r : ℕ) : Type 0 where
  pub absent : (ends_in d old b ≡ 0 → ⊥) → r ≡ ends_in d old b
  pub kept : (new.table ≡ changed old.table new.table.rows new.table.hydrogens) × (new.numbers ≡ old.numbers)
  pub linked : ends_in d old b ≡ 0 → RowsLinked old.table.n old.table.rows old.table.hydrogens
      (get_or (numbers_of d) b.one 0) (get_or (numbers_of d) b.two 0) (numbered old.numbers b) r new.table.rows new.table.hydrogens
  pub marked : ends_in d old b ≡ 0 → r ≡ 0 → new.used ≡ set (set old.used b.one true) b.two true

-- ---- The whole

-- the table of a drawing, its hydrogens counted to one over the limit
pub record Holds (d : rules.Drawing) (t : Table) : Type 0 where
  pub tidy : TidyTable t
  pub size : t.n ≡ (folded d).size
  pub kinds : (a : ℕ) → a < t.n → get_or t.kinds a 0 ≡ kind (folded d) a
  pub hydrogens : (a : ℕ) → a < t.n → get_or t.hydrogens a 0 ≡ capped (hydrogens (folded d) a)
  pub code : (a b : ℕ) → a < t.n → b < t.n → (view_of t).code a b ≡ (folded d).code a b

-- which atoms have a bond
abbrev pub Used : rules.Drawing → List Bool → Type 0
Used d marks = (p : ℕ) → p < length d.kinds → get_or marks p false ≡ some (map (on p) d.bonds)

-- all bonds judged, and folded where none is refused
pub record BondsFolded (d : rules.Drawing) (new : Folding) (r : ℕ) : Type 0 where
  pub refusal : r ≡ bonds_fault d
  pub table : r ≡ 0 → Holds d new.table
  pub used : r ≡ 0 → Used d new.used

-- "once all bonds are judged, an H without a bond is 7, then hydrogens on one atom and their total are 4, then 8"
abbrev pub finished_fault : Drawing → Folding → ℕ
finished_fault d f =
    or_next (cond (lone_in (numbers_of d) f.used d.counts.atoms) 7 0) (or_next (hydrogens_fault (view_of f.table)) (apart_fault (view_of f.table)))

-- the drawing is refused, or the table is the molecule that it folds to
pub record IsFolded (d : rules.Drawing) (r : Result Table Refusal) : Type 0 where
  pub refusal : refusal_in r ≡ drawing_fault d
  pub tidy : IfOk r TidyTable
  pub view : IfOk r (λ t. Renumbered (λ a. a) (folded d) (view_of t))

-- What is taken of the lines of a file.
use Rattle.std.specs.Prelude.{ℕ, ◌≤◌, ◌≡◌, List, [], ◌∷◌, map, take, length, Bool, true, false, Option, Some, None}
use Rattle.ctfile.specs.Forms as rules
use Rattle.ctfile.specs.Forms.{atom_count_in, bond_count_in, is_counts_line, is_bond_line}
use Rattle.kinds.specs.Known.{kind_in}
use Rattle.drawing.specs.declared.Counts.{Counts}
use Rattle.drawing.specs.declared.Bond.{Bond}
use Rattle.drawing.specs.View.{bond_in}

-- "Header lines hold anything."
abbrev pub any_line : List ℕ → Bool
any_line l = true

-- "counts line 1-3, 4-6, 34-39": three columns for each of two numbers
pub record Counted (l : List ℕ) (c : Counts) : Type 0 where
  pub sound : is_counts_line l ≡ true
  pub atoms : c.atoms ≡ atom_count_in l
  pub bonds : c.bonds ≡ bond_count_in l
  pub few_atoms : c.atoms ≤ 999
  pub few_bonds : c.bonds ≤ 999

abbrev pub AreCounts : List ℕ → Option Counts → Type 0
AreCounts l (Some c) = Counted l c
AreCounts l None = is_counts_line l ≡ false

abbrev pub IsBond : List ℕ → Option Bond → Type 0
IsBond l (Some b) = (is_bond_line l ≡ true) × (bond_in b ≡ rules.bond_in l)
IsBond l None = is_bond_line l ≡ false

-- what the counts, the kinds and the bonds of a drawing are once lines were taken in their turn: of one line what it counts, and of
-- each line the kind or the bond
abbrev pub HasCounts : Counts → List (List ℕ) → Type 0
HasCounts c [] = Unit {0}
HasCounts c (l ∷ []) = Counted l c
HasCounts c (l ∷ m ∷ ls) = Unit {0}

pub record HasKinds (kinds : List (Option ℕ)) (ls : List (List ℕ)) : Type 0 where
  pub long : length kinds ≡ 999
  pub are : map kind_in (take (length ls) kinds) ≡ map rules.kind_in ls

pub record HasBonds (bonds : List Bond) (ls : List (List ℕ)) : Type 0 where
  pub long : length bonds ≡ 999
  pub are : map bond_in (take (length ls) bonds) ≡ map rules.bond_in ls

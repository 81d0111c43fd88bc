-- Document 01, "What a molecule is here".
use Rattle.std.specs.Prelude.{Bool, false, not, ◌||◌, List, map, ℕ, zero, suc, eqb, get_or}
use Rattle.lists.specs.Upto.{upto, each}
use Rattle.lists.specs.Tests.{keep, every, some}

-- "Each has a kind and 0 to 4 hydrogens": an atom's label is the list of the two.
-- The code of two atoms is that of their bond, 0 where they have none ("at most one bond per pair").
pub record Molecule : Type 0 where
  pub size : ℕ
  pub label : ℕ → List ℕ
  pub code : ℕ → ℕ → ℕ

abbrev pub kind : Molecule → ℕ → ℕ
kind M a = get_or (M.label a) 0 0

abbrev pub hydrogens : Molecule → ℕ → ℕ
hydrogens M a = get_or (M.label a) 1 0

abbrev pub bonded : Molecule → ℕ → ℕ → Bool
bonded M a b = not (eqb (M.code a b) 0)

-- the atoms bonded to a, in atom order
unfoldable pub neighbours : Molecule → ℕ → List ℕ
neighbours M a = keep (bonded M a) (upto M.size)

-- "The table is connected": from atom 0 every atom is reached by steps from neighbour to neighbour.
unfoldable pub reached : Molecule → ℕ → List Bool
reached M zero = each M.size (λ a. eqb a 0)
reached M (suc k) =
    let so = reached M k in
    each M.size (λ a. get_or so a false || some (map (λ b. get_or so b false) (neighbours M a)))

unfoldable pub connected : Molecule → Bool
connected M = every (reached M M.size)

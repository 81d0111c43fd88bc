-- The tests of a drawing, over the arrays that hold it.
use Rattle.std.specs.Prelude.{Bool, false, cond, not, ◌&&◌, ◌||◌, List, map, ℕ, ◌+◌, eqb, leb, ltb, get_or}
use Rattle.lists.specs.Upto.{each, sum}
use Rattle.lists.specs.Tests.{count, some}
use Rattle.molecule.specs.Bonds.{Bond}
use Rattle.molecule.specs.Refusals.{first_fault}

-- an H that is there
abbrev pub is_h_in : (kinds : List ℕ) → ℕ → Bool
is_h_in kinds p = eqb (get_or kinds p 25) 0

-- "the limits on atoms and bonds leave out H and its bonds"
abbrev pub heavy_in : (kinds : List ℕ) → ℕ
heavy_in kinds = count (map (λ k. not (eqb k 0)) kinds)

abbrev pub heavy_bonds_in : (kinds : List ℕ) → (bonds : List Bond) → ℕ
heavy_bonds_in kinds bonds = count (map (λ b. not (is_h_in kinds b.one || is_h_in kinds b.two)) bonds)

-- "H alone is 1"
abbrev pub counts_tested : (atoms bonds : ℕ) → ℕ
counts_tested atoms bonds = cond (eqb atoms 0) 1 (cond (ltb 64 atoms || ltb 80 bonds) 4 0)

-- "anything but H and the 24 is 3 in its turn"
abbrev pub unknown_tested : (kinds : List ℕ) → ℕ
unknown_tested kinds = first_fault (map (λ k. cond (ltb 24 k) 3 0) kinds)

-- "7 for a bond with an H at an end: the other end is H (itself included), the code is not 1, or that H has a bond already."
abbrev pub h_tested : (other : ℕ) → (used : Bool) → (code : ℕ) → ℕ
h_tested other used code = cond (eqb other 0 || not (eqb code 1) || used) 7 0

-- 5, then 7: `used` marks the atoms that have a bond
unfoldable pub ends_tested : (kinds : List ℕ) → (used : List Bool) → (atoms : ℕ) → Bond → ℕ
ends_tested kinds used atoms b =
    cond (leb atoms b.one || leb atoms b.two) 5
    (cond (eqb (get_or kinds b.one 0) 0) (h_tested (get_or kinds b.two 0) (get_or used b.one false) b.code)
    (cond (eqb (get_or kinds b.two 0) 0) (h_tested (get_or kinds b.one 0) (get_or used b.two false) b.code) 0))

-- "0 to 4 hydrogens", and codes 1 to 4: what is over 4 need not be told apart
abbrev pub capped : ℕ → ℕ
capped h = cond (ltb 4 h) 5 h

-- one more, where no more than one over 4 is counted
abbrev pub one_more : ℕ → ℕ
one_more h = cond (ltb 4 h) h (h + 1)

-- "an H without a bond"
abbrev pub lone_in : (kinds : List ℕ) → (used : List Bool) → (atoms : ℕ) → Bool
lone_in kinds used atoms = some (each atoms (λ p. eqb (get_or kinds p 0) 0 && not (get_or used p false)))

-- "hydrogens on one atom and their total are 4"
abbrev pub hydrogens_tested : (hydrogens : List ℕ) → (n : ℕ) → ℕ
hydrogens_tested hydrogens n =
    cond (some (each n (λ a. ltb 4 (get_or hydrogens a 0))) || ltb 128 (sum (each n (λ a. get_or hydrogens a 0)))) 4 0

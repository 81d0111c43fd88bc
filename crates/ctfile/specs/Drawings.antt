-- Document 02, §1: a drawing judged and its hydrogens folded.
use Rattle.std.specs.Prelude.{Bool, cond, not, ◌&&◌, ◌||◌, List, [], map, ℕ, eqb, leb, ltb, length, get_or, take}
use Rattle.lists.specs.Upto.{each, sum}
use Rattle.lists.specs.Tests.{keep, count, some}
use Rattle.molecule.specs.Bonds.{Bond, on}
use Rattle.molecule.specs.Limits.{most_atoms, most_hydrogens_on, most_hydrogens, most_bonds}
use Rattle.molecule.specs.Molecule.{Molecule, hydrogens, connected}
use Rattle.molecule.specs.Refusals.{or_next, first_fault}
use Rattle.molecule.specs.Judged.{bond_judged}
use Rattle.sling.specs.Reading.{State}
use Rattle.sling.specs.Folded as text
use Rattle.ctfile.specs.Filed.{Drawing}

-- an H that is there
abbrev pub is_h : Drawing → ℕ → Bool
is_h d p = eqb (get_or d.kinds p 25) 0

abbrev pub to_h : Drawing → Bond → Bool
to_h d b = is_h d b.one || is_h d b.two

-- "Hydrogens listed as atoms are folded by the text's H rule": the atoms stand in a text's places. "None are invented."
abbrev pub as_read : Drawing → State
as_read d = record { kinds = d.kinds; ups = []; bonds = d.bonds; cursor = 0 }

unfoldable pub folded : Drawing → Molecule
folded d = text.folded (as_read d)

-- "the limits on atoms and bonds leave out H and its bonds, and H alone is 1"; "unknown symbols count"
unfoldable pub counts_fault : Drawing → ℕ
counts_fault d =
    let heavy = count (map (λ k. not (eqb k 0)) d.kinds) in
    let bonds = count (map (λ b. not (to_h d b)) d.bonds) in
    cond (eqb heavy 0) 1 (cond (ltb most_atoms heavy || ltb most_bonds bonds) 4 0)

-- "Then atoms in order: 3."
unfoldable pub kinds_fault : Drawing → ℕ
kinds_fault d = first_fault (map (λ k. cond (ltb 24 k) 3 0) d.kinds)

-- p is an H that has a bond already
abbrev pub taken_h : Drawing → List Bond → ℕ → Bool
taken_h d before p = is_h d p && some (map (on p) before)

-- "7 for a bond with an H at an end: the other end is H (itself included), the code is not 1, or that H has a bond already."
unfoldable pub wrong_h : Drawing → List Bond → Bond → Bool
wrong_h d before b =
    to_h d b
    && (is_h d b.one && is_h d b.two || not (eqb b.code 1) || taken_h d before b.one || taken_h d before b.two)

-- "bonds in order: 5, 7, 6, 4 (a seventh bond, bonds to H left out)": but for 7 as on a card, the bonds to H left out
unfoldable pub bond_fault : Drawing → List Bond → Bond → ℕ
bond_fault d before b =
    let n = length d.kinds in
    cond (leb n b.one || leb n b.two) 5
    (cond (wrong_h d before b) 7 (cond (to_h d b) 0 (bond_judged n (keep (λ x. not (to_h d x)) before) b)))

abbrev pub no_bond : Bond
no_bond = record { one = 0; two = 0; code = 0 }

unfoldable pub bonds_fault : Drawing → ℕ
bonds_fault d = first_fault (each (length d.bonds) (λ k. bond_fault d (take k d.bonds) (get_or d.bonds k no_bond)))

-- "once all bonds are judged, an H without a bond is 7"
unfoldable pub lone_fault : Drawing → ℕ
lone_fault d = cond (some (each (length d.kinds) (λ p. is_h d p && not (some (map (on p) d.bonds))))) 7 0

-- "then hydrogens on one atom and their total are 4"
unfoldable pub hydrogens_fault : Molecule → ℕ
hydrogens_fault M =
    cond (some (each M.size (λ a. ltb most_hydrogens_on (hydrogens M a))) || ltb most_hydrogens (sum (each M.size (hydrogens M)))) 4 0

unfoldable pub apart_fault : Molecule → ℕ
apart_fault M = cond (connected M) 0 8

-- "After 11 follow the card's checks from 1 on with place 0, bonds to H judged by 7 after 5; once all bonds are judged, an H without a bond
-- is 7, then hydrogens on one atom and their total are 4, then 8."
unfoldable pub drawing_fault : Drawing → ℕ
drawing_fault d =
    or_next (counts_fault d)
    (or_next (kinds_fault d) (or_next (bonds_fault d) (or_next (lone_fault d) (or_next (hydrogens_fault (folded d)) (apart_fault (folded d))))))

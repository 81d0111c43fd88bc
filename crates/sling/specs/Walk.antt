-- Document 01, "Writing the name": the walk over a molecule whose atom r - 1 has rank r, and the items that it writes.
use Rattle.std.specs.Prelude.{Bool, cond, List, [], ◌∷◌, ◌++◌, map, ℕ, zero, suc, eqb, ltb, length}
use Rattle.lists.specs.Tests.{find, some}
use Rattle.molecule.specs.Bonds.{Bond, joins}
use Rattle.molecule.specs.Molecule.{Molecule, kind, hydrogens, neighbours}
use Rattle.sling.specs.Items.{Item, at, atom, reference, ring}

-- the kind, hydrogens, neighbours and codes of a rank; rank 0 stands for an H
abbrev pub kind_at : Molecule → ℕ → ℕ
kind_at W zero = 0
kind_at W (suc a) = kind W a

abbrev pub hydrogens_at : Molecule → ℕ → ℕ
hydrogens_at W zero = 0
hydrogens_at W (suc a) = hydrogens W a

abbrev pub neighbours_at : Molecule → ℕ → List ℕ
neighbours_at W zero = []
neighbours_at W (suc a) = map suc (neighbours W a)

abbrev pub code_at : Molecule → ℕ → ℕ → ℕ
code_at W (suc a) (suc b) = W.code a b
code_at W (suc a) zero = 0
code_at W zero s = 0

-- the rank of the atom at each place; the bonds traced, between places; the cursor's place; the items
pub record Written : Type 0 where
  pub ranks : List ℕ
  pub bonds : List Bond
  pub cursor : ℕ
  pub items : List Item

-- the place of a rank, the number of places where it is not written
abbrev pub place_in : List ℕ → ℕ → ℕ
place_in l r = find (λ x. eqb x r) l

abbrev pub is_written : Written → ℕ → Bool
is_written w r = ltb (place_in w.ranks r) (length w.ranks)

abbrev pub is_traced : Written → ℕ → ℕ → Bool
is_traced w r s = some (map (joins (place_in w.ranks r) (place_in w.ranks s)) w.bonds)

-- "Whenever the cursor isn't at the atom being served, the atom's place is written first"; "Only non-negative places are used."
unfoldable pub serve : ℕ → Written → Written
serve r w =
    let p = place_in w.ranks r in
    cond (eqb w.cursor p) w (record { ranks = w.ranks; bonds = w.bonds; cursor = p; items = w.items ++ (reference (at p) ∷ []) })

-- an atom of the rank and kind given, bonded to the cursor's
unfoldable pub put : ℕ → ℕ → ℕ → Written → Written
put s k m w =
    record {
      ranks = w.ranks ++ (s ∷ []);
      bonds = w.bonds ++ (record { one = w.cursor; two = length w.ranks; code = m } ∷ []);
      cursor = length w.ranks;
      items = w.items ++ (atom m k ∷ []);
    }

-- "One already written gets mark, `/` and its place."
unfoldable pub close : ℕ → ℕ → Written → Written
close s m w =
    let p = place_in w.ranks s in
    record {
      ranks = w.ranks;
      bonds = w.bonds ++ (record { one = w.cursor; two = p; code = m } ∷ []);
      cursor = p;
      items = w.items ++ (ring m (at p) ∷ []);
    }

-- "then its hydrogens, each H an atom"
unfoldable pub put_hs : ℕ → ℕ → Written → Written
put_hs zero r w = w
put_hs (suc h) r w = put_hs h r (put 0 0 1 (serve r w))

-- "A neighbour not yet written gets mark and atom, and is itself finished first."
unfoldable pub trace : (ℕ → Written → Written) → Molecule → ℕ → ℕ → Written → Written
trace finish W r s w =
    let onward = finish s (put s (kind_at W s) (code_at W r s) (serve r w)) in
    let back = close s (code_at W r s) (serve r w) in
    cond (is_traced w r s) w (cond (is_written w s) back onward)

-- "then, by ascending rank, each neighbour whose bond isn't yet traced"
unfoldable pub traces : (ℕ → Written → Written) → Molecule → ℕ → List ℕ → Written → Written
traces finish W r [] w = w
traces finish W r (s ∷ l) w = traces finish W r l (trace finish W r s w)

-- What follows an atom's symbol. The first number bounds how deep atoms hang from each other: no deeper than there are atoms.
unfoldable pub finish : ℕ → Molecule → ℕ → Written → Written
finish zero W r w = w
finish (suc d) W r w = traces (finish d W) W r (neighbours_at W r) (put_hs (hydrogens_at W r) r w)

-- "Start at rank 1. To write an atom: symbol"
abbrev pub first : Molecule → Written
first W = record { ranks = 1 ∷ []; bonds = []; cursor = 0; items = atom 1 (kind_at W 1) ∷ [] }

unfoldable pub written : Molecule → Written
written W = finish W.size W 1 (first W)

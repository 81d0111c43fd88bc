-- The neighbours of an atom are the atoms that have a code with it.
use mathlib.Core.Bool.{not}
use mathlib.Core.List.{Memᴰ}
use mathlib.Core.Logic.{◌≢◌}
use mathlib.Core.Path.{◌≡◌, ap}
use Prim.Native.Nat.{ℕ, ◌<◌}
use lib.Dec.{eqb}
use lib.ListN.{length}
use borrow.Author.Tests.{ne_eqb, eqb-false, not-true}
use Rattle.lists.specs.Upto.{upto, each}
use Rattle.lists.specs.Tests.{count}
use Rattle.lists.proofs.Upto.{mem_upto, of_upto}
use Rattle.lists.proofs.Kept.{mem_keep, of_keep}
use Rattle.lists.proofs.Passed.{length-keep}
use Rattle.molecule.specs.Molecule.{Molecule, bonded, neighbours}

pub mem_neighbours : (M : Molecule) (a b : ℕ) → b < M.size → M.code a b ≢ 0 → Memᴰ b (neighbours M a)
unfolding neighbours
mem_neighbours M a b h c = mem_keep (bonded M a) (upto M.size) b (mem_upto M.size b h) (ap not (ne_eqb (M.code a b) 0 c))

pub of_neighbours : (M : Molecule) (a b : ℕ) → Memᴰ b (neighbours M a) → (b < M.size) × (M.code a b ≢ 0)
unfolding neighbours
of_neighbours M a b m =
    let w = of_keep (bonded M a) (upto M.size) b m in
    (of_upto M.size b w.0, eqb-false (M.code a b) 0 (not-true (eqb (M.code a b) 0) w.1))

pub length-neighbours : (M : Molecule) (a : ℕ) → length (neighbours M a) ≡ count (each M.size (bonded M a))
unfolding neighbours each
length-neighbours M a = length-keep (bonded M a) (upto M.size)

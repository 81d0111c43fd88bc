-- A renumbering that moves no atom keeps connectedness.
use mathlib.Core.Bool.{Bool, false, ◌||◌}
use mathlib.Core.List.{List, map}
use mathlib.Core.Path.{◌≡◌, sym, ◌∙◌, ap, ap₂}
use Prim.Native.Nat.{ℕ, zero, suc}
use lib.Dec.{eqb}
use lib.ListN.{get_or}
use Rattle.lists.specs.Upto.{each}
use Rattle.lists.specs.Tests.{every, some}
use Rattle.lists.proofs.Upto.{each-eq}
use Rattle.molecule.specs.Molecule.{Molecule, neighbours, reached, connected}
use Rattle.molecule.specs.Renumbering.{Renumbered}
use Rattle.molecule.proofs.Alike.{neighbours-alike}

module _ {M M' : Molecule} (E : Renumbered (λ a. a) M M') where
  reached-alike : (k : ℕ) → reached M k ≡ reached M' k
  unfolding reached
  reached-alike zero = ap (λ (n : ℕ). each n (λ a. eqb a 0)) (sym E.size)
  reached-alike (suc k) =
      each-eq M.size (λ a. get_or (reached M k) a false || some (map (λ b. get_or (reached M k) b false) (neighbours M a)))
      (λ a. get_or (reached M' k) a false || some (map (λ b. get_or (reached M' k) b false) (neighbours M' a)))
      (λ a h. ap₂ (λ (r : List Bool) (l : List ℕ). get_or r a false || some (map (λ b. get_or r b false) l)) (reached-alike k) (neighbours-alike E a h))
      ∙ ap (λ (n : ℕ). each n (λ a. get_or (reached M' k) a false || some (map (λ b. get_or (reached M' k) b false) (neighbours M' a)))) (sym E.size)

  pub connected-alike : connected M ≡ connected M'
  unfolding connected
  connected-alike = ap every (reached-alike M.size ∙ ap (reached M') (sym E.size))

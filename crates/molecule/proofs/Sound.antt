-- What the checks of a card come to, said of its molecule: the form in which the other proofs use them.
use mathlib.Core.Bool.{Bool, true}
use mathlib.Core.List.{[], ◌∷◌}
use mathlib.Core.Logic.{◌≢◌}
use mathlib.Core.Path.{◌≡◌}
use Prim.Native.Nat.{ℕ, ◌<◌, ◌≤◌}
use lib.ListN.{length}
use Rattle.lists.specs.Upto.{each, sum}
use Rattle.molecule.specs.Molecule.{Molecule, kind, hydrogens, neighbours}

-- every set of atoms that has atom 0, and with an atom its neighbours, has all atoms
abbrev pub Linked : Molecule → Type 0
Linked M =
    (S : ℕ → Bool) → S 0 ≡ true
    → ((a b : ℕ) → a < M.size → b < M.size → S a ≡ true → M.code a b ≢ 0 → S b ≡ true)
    → (a : ℕ) → a < M.size → S a ≡ true

pub record Sound (M : Molecule) : Type 0 where
  pub some : 0 < M.size
  pub atoms : M.size ≤ 64
  pub labels : (a : ℕ) → a < M.size → M.label a ≡ kind M a ∷ hydrogens M a ∷ []
  pub low : (a : ℕ) → a < M.size → 0 < kind M a
  pub known : (a : ℕ) → a < M.size → kind M a ≤ 24
  pub few : (a : ℕ) → a < M.size → hydrogens M a ≤ 4
  pub hydrogens : sum (each M.size (hydrogens M)) ≤ 128
  pub codes : (a b : ℕ) → a < M.size → b < M.size → M.code a b ≤ 4
  pub apart : (a : ℕ) → a < M.size → M.code a a ≡ 0
  pub even : (a b : ℕ) → a < M.size → b < M.size → M.code a b ≡ M.code b a
  pub degrees : (a : ℕ) → a < M.size → length (neighbours M a) ≤ 6
  pub bonds : sum (each M.size (λ a. length (neighbours M a))) ≤ 160
  pub linked : Linked M

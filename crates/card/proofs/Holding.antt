-- The table while a card is read: empty, with one more atom, with one more bond, and with all of them.
use mathlib.Core.Bool.{not}
use mathlib.Core.List.{List, [], ◌∷◌, ◌++◌, map}
use mathlib.Core.Path.{◌≡◌, sym, ◌∙◌, ap, subst}
use Prim.Native.Nat.{ℕ, suc, ◌+◌, ◌<◌, ◌≤◌}
use native.Mathlib.Decide.{ℕ_discrete}
use native.Mathlib.Omega.{arith}
use lib.Dec.{eqb}
use lib.ListN.{length}
use Rattle.lists.specs.Tests.{count, some}
use Rattle.lists.proofs.Steps.{each-zero, each_next}
use Rattle.molecule.specs.Bonds.{Bond, on, joins, code_in}
use Rattle.molecule.specs.Molecule.{neighbours}
use Rattle.molecule.specs.Renumbering.{Renumbered}
use Rattle.molecule.specs.Layout.{atom_count, kind_at, hydrogens_at, bond_count, bond_at, bonds_to}
use Rattle.molecule.specs.Judged.{molecule_of, bond_judged, bond_fault}
use Rattle.molecule.proofs.BondLists.{code_in-swap}
use Rattle.table.specs.declared.Table.{Table}
use Rattle.table.specs.Arrays.{as_molecule}
use Rattle.table.specs.View.{view_of, TidyTable, EvenTable}
use Rattle.table.proofs.Growing.{Grown}
use Rattle.table.proofs.Joins.{Joinable, Joined}
use Rattle.card.specs.Tests.{bond_tested}
use Rattle.card.specs.Reading.{Holds}
use Rattle.card.proofs.Bonded.{Bonded, bonded-tested, bonded-joinable, bonded-next}

module _ (s : List ℕ) where
  no_bonds : bonds_to s 0 ≡ []
  unfolding bonds_to
  no_bonds = each-zero (bond_at s)

  bonds_to-next : (k : ℕ) → bonds_to s (suc k) ≡ bonds_to s k ++ (bond_at s k ∷ [])
  unfolding bonds_to
  bonds_to-next k = each_next k (bond_at s)

  no_code : (x y : ℕ) → code_in (bonds_to s 0) x y ≡ 0
  no_code x y = ap (λ (bs : List Bond). code_in bs x y) no_bonds

  no_degree : (x : ℕ) → count (map (on x) (bonds_to s 0)) ≡ 0
  no_degree x = ap (λ (bs : List Bond). count (map (on x) bs)) no_bonds

  no_pair : (x y : ℕ) → some (map (joins x y) (bonds_to s 0)) ≡ not (eqb (code_in (bonds_to s 0) x y) 0)
  unfolding some
  no_pair x y = ap (λ (bs : List Bond). some (map (joins x y) bs)) no_bonds ∙ ap (λ (v : ℕ). not (eqb v 0)) (sym (no_code x y))

  pub holds_none : (t : Table) → t.n ≡ 0 → TidyTable t → Holds s 0 0 t
  holds_none t e T = record {
    tidy = T;
    size = e;
    label = λ a h. absurd (omega arith);
    code = λ x y h k. absurd (omega arith);
    degree = λ x h. absurd (omega arith);
    paired = no_pair;
  }

  pub holds_atom : (n : ℕ) (t t' : Table) (k h : ℕ) → Holds s n 0 t → TidyTable t' → Grown (view_of t) k h (view_of t') → k ≡ kind_at s n → h ≡ hydrogens_at s n
      → Holds s (t.n + 1) 0 t'
  unfolding as_molecule
  holds_atom n t t' k h H T G e f = record {
    tidy = T;
    size = omega (arith, G.size);
    label = λ a l. label a (omega arith) (ℕ_discrete a t.n);
    code = λ x y l m. code x y (omega arith) (omega arith) (ℕ_discrete x t.n) (ℕ_discrete y t.n) ∙ sym (no_code x y);
    degree = λ x l. degree x (omega arith) (ℕ_discrete x t.n) ∙ sym (no_degree x);
    paired = no_pair;
  }
    where
      label : (a : ℕ) → a ≤ t.n → Dec (a ≡ t.n) → (view_of t').label a ≡ kind_at s a ∷ hydrogens_at s a ∷ []
      label a l (yes q) =
          ap (view_of t').label q ∙ G.last ∙ (λ i. e i ∷ f i ∷ []) ∙ ap (λ (b : ℕ). kind_at s b ∷ hydrogens_at s b ∷ []) (sym (q ∙ H.size))
      label a l (no q) = let m : a < t.n = omega arith in G.label a m ∙ H.label a (omega (arith, H.size))

      code : (x y : ℕ) → x ≤ t.n → y ≤ t.n → Dec (x ≡ t.n) → Dec (y ≡ t.n) → (view_of t').code x y ≡ 0
      code x y l m (yes q) d = ap (λ (z : ℕ). (view_of t').code z y) q ∙ (G.alone y m).1
      code x y l m (no q) (yes r) = ap (λ (z : ℕ). (view_of t').code x z) r ∙ (G.alone x l).0
      code x y l m (no q) (no r) =
          let i : x < t.n = omega arith in
          let j : y < t.n = omega arith in
          G.code x y i j ∙ H.code x y (omega (arith, H.size)) (omega (arith, H.size)) ∙ no_code x y

      degree : (x : ℕ) → x ≤ t.n → Dec (x ≡ t.n) → length (neighbours (view_of t') x) ≡ 0
      degree x l (yes q) = ap (λ (z : ℕ). length (neighbours (view_of t') z)) q ∙ G.none
      degree x l (no q) = let i : x < t.n = omega arith in G.degree x i ∙ H.degree x (omega (arith, H.size)) ∙ no_degree x

  module _ (k : ℕ) (t : Table) (H : Holds s (atom_count s) k t) where
    holds_bonded : Bonded (atom_count s) (bonds_to s k) t
    holds_bonded = record { tidy = H.tidy; size = H.size; code = H.code; degree = H.degree; paired = H.paired }

    -- the tests over the table's arrays are those of the rules over the bonds before
    pub tested_judged : bond_tested (atom_count s) t.rows.degrees t.rows.near t.rows.codes (bond_at s k) ≡ bond_fault s k
    unfolding bond_fault
    tested_judged = bonded-tested (atom_count s) (bonds_to s k) t holds_bonded (bond_at s k)

    module _ (passes : bond_fault s k ≡ 0) where
      judged : bond_judged (atom_count s) (bonds_to s k) (bond_at s k) ≡ 0
      unfolding bond_fault
      judged = passes

      pub holds_joinable : Joinable (view_of t) (bond_at s k)
      holds_joinable = bonded-joinable (atom_count s) (bonds_to s k) t holds_bonded (bond_at s k) judged

      pub holds_bond : (t' : Table) → TidyTable t' → Joined (view_of t) (bond_at s k) (view_of t') → Holds s (atom_count s) (k + 1) t'
      holds_bond t' T J =
          let one_more : suc k ≡ k + 1 = omega arith in
          let B =
          subst (λ (bs : List Bond). Bonded (atom_count s) bs t') (sym (bonds_to-next k) ∙ ap (bonds_to s) one_more)
          (bonded-next (atom_count s) (bonds_to s k) t holds_bonded (bond_at s k) judged t' T J) in
          record { tidy = T; size = B.size; label = λ a h. J.label a ∙ H.label a h; code = B.code; degree = B.degree; paired = B.paired }

  module _ (t : Table) (H : Holds s (atom_count s) (bond_count s) t) where
    pub holds_all : Renumbered (λ a. a) (molecule_of s) (view_of t)
    unfolding molecule_of as_molecule
    holds_all = record {
      size = H.size;
      shuffle = record { within = λ a h. h; apart = λ a b h k e. e };
      label = λ a h. H.label a h;
      code = λ a b h k. H.code a b h k;
    }

    pub holds_even : EvenTable t
    unfolding as_molecule
    holds_even a b h k =
        let l : a < atom_count s = omega (arith, H.size) in
        let m : b < atom_count s = omega (arith, H.size) in
        H.code a b l m ∙ code_in-swap (bonds_to s (bond_count s)) a b ∙ sym (H.code b a m l)

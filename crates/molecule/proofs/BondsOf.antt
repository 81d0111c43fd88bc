-- The bonds of a molecule as a written card lists them: each pair a < b with a code, once; so the list gives every code back, and its bytes are
-- those of the card.
use mathlib.Core.Bool.{Bool, true, false, ◌&&◌, or-true, true≢false}
use mathlib.Core.List.Memᴰ
use mathlib.Core.List.{List, [], ◌∷◌, map, flatten, map-map, Memᴰ}
use mathlib.Core.Logic.{inl, inr, ◌≢◌}
use mathlib.Core.Path.{◌≡◌, refl, sym, ◌∙◌, ap, subst}
use Prim.Native.Nat.{ℕ, ◌<◌}
use native.Mathlib.Decide.{dec_lt, ℕ_discrete}
use native.Mathlib.Omega.{arith}
use lib.Dec.{ltb}
use borrow.Author.Tests.{eq-eqb, lt-ltb, ltb-true}
use Rattle.lists.specs.Upto.{upto, each, sum}
use Rattle.lists.specs.Tests.{keep, count}
use Rattle.lists.proofs.Upto.{mem_upto, each-eq, map_each}
use Rattle.lists.proofs.Kept.{mem_keep, of_keep}
use Rattle.lists.proofs.Passed.{count-keep}
use Rattle.lists.proofs.Sums.{sum-eq}
use Rattle.lists.proofs.Flattened.{of_flatten_map, mem_flatten_map, count-flatten, flatten_map_flatten}
use Rattle.molecule.specs.Bonds.{Bond, joins, code_in}
use Rattle.molecule.specs.Molecule.{Molecule, bonded, neighbours}
use Rattle.molecule.specs.Written.{bond_bytes}
use Rattle.molecule.proofs.Neighbours.{mem_neighbours, of_neighbours}
use Rattle.molecule.proofs.Connected.{Even}
use Rattle.molecule.proofs.BondLists.{Between, Coded, joins-ends, code_in-coded}

abbrev pub bond : Molecule → ℕ → ℕ → Bond
bond M a b = record { one = a; two = b; code = M.code a b }

-- the bonds of a to higher atoms
abbrev pub higher : Molecule → ℕ → List Bond
higher M a = map (bond M a) (keep (ltb a) (neighbours M a))

unfoldable pub bonds_of : Molecule → List Bond
bonds_of M = flatten (each M.size (higher M))

abbrev pub bytes : Bond → List ℕ
bytes b = b.one ∷ b.two ∷ b.code ∷ []

higher_bytes : (M : Molecule) (a : ℕ) → flatten (map bytes (higher M a)) ≡ bond_bytes M a
unfolding bond_bytes
higher_bytes M a = ap flatten (map-map bytes (bond M a) (keep (ltb a) (neighbours M a)))

pub bonds_of-bytes : (M : Molecule) → flatten (map bytes (bonds_of M)) ≡ flatten (each M.size (bond_bytes M))
unfolding bonds_of
bonds_of-bytes M =
    flatten_map_flatten bytes (each M.size (higher M))
    ∙ ap flatten (map_each (λ l. flatten (map bytes l)) M.size (higher M) ∙ each-eq M.size _ _ (λ a h. higher_bytes M a))

-- two atoms of the molecule with their code, the lower first
pub record Listed (M : Molecule) (b : Bond) : Type 0 where
  pub ascends : b.one < b.two
  pub inside : b.two < M.size
  pub is : b.code ≡ M.code b.one b.two
  pub coded : b.code ≢ 0

pub of_bonds_of : (M : Molecule) (b : Bond) → Memᴰ b (bonds_of M) → Listed M b
unfolding bonds_of each
of_bonds_of M b m =
    let w = of_flatten_map (higher M) (upto M.size) b m in
    let v = Memᴰ.of_map (bond M w.0) (keep (ltb w.0) (neighbours M w.0)) w.2 in
    let k = of_keep (ltb w.0) (neighbours M w.0) v.0 v.1 in
    let n = of_neighbours M w.0 v.0 k.0 in
    subst (Listed M) v.2 (record { ascends = ltb-true w.0 v.0 k.1; inside = n.0; is = refl; coded = n.1 })

pub mem_bonds_of : (M : Molecule) (a b : ℕ) → a < b → b < M.size → M.code a b ≢ 0 → Memᴰ (bond M a b) (bonds_of M)
unfolding bonds_of each
mem_bonds_of M a b h k c =
    mem_flatten_map (higher M) (upto M.size) (bond M a b) a (mem_upto M.size a (omega arith))
    (Memᴰ.map (bond M a) (mem_keep (ltb a) (neighbours M a) b (mem_neighbours M a b k c) (lt-ltb a b h)))

module _ (M : Molecule) (even : Even M) (apart : (a : ℕ) → a < M.size → M.code a a ≡ 0) where
  pub bonds_of-code : (p q : ℕ) → p < M.size → q < M.size → code_in (bonds_of M) p q ≡ M.code p q
  bonds_of-code p q h k = go (code_in-coded (bonds_of M) p q)
    where
      -- a bond that joins p and q has their code
      same : (b : Bond) → Listed M b → Between p q b → b.code ≡ M.code p q
      same b L (inl w) = L.is ∙ (λ i. M.code (w.0 i) (w.1 i))
      same b L (inr w) = L.is ∙ (λ i. M.code (w.0 i) (w.1 i)) ∙ even q p k h

      -- where no bond joins p and q, they have no code
      bare : ((c : Bond) → Memᴰ c (bonds_of M) → joins p q c ≡ false) → (a b : ℕ) → a < b → b < M.size → joins p q (bond M a b) ≡ true → M.code a b ≡ 0
      bare none a b l m e = pick (ℕ_discrete (M.code a b) 0)
        where
          pick : Dec (M.code a b ≡ 0) → M.code a b ≡ 0
          pick (yes z) = z
          pick (no z) = absurd (true≢false (sym e ∙ none (bond M a b) (mem_bonds_of M a b l m z)))

      none-code : ((c : Bond) → Memᴰ c (bonds_of M) → joins p q c ≡ false) → Dec (p < q) → Dec (q < p) → M.code p q ≡ 0
      none-code none (yes l) m = bare none p q l k (simp (eq-eqb p p refl, eq-eqb q q refl))
      none-code none (no l) (yes m) = even p q h k ∙ bare none q p m h (simp (eq-eqb p p refl, eq-eqb q q refl, or-true))
      none-code none (no l) (no m) = let e : q ≡ p = omega arith in ap (M.code p) e ∙ apart p h

      go : Coded (bonds_of M) p q → code_in (bonds_of M) p q ≡ M.code p q
      go (inl w) = w.3 ∙ same w.0 (of_bonds_of M w.0 w.1) (joins-ends p q w.0 w.2)
      go (inr w) = w.1 ∙ sym (none-code w.0 (dec_lt p q) (dec_lt q p))

-- a and b are bonded, a is the lower, and their bond passes
abbrev pub picked : Molecule → (Bond → Bool) → ℕ → ℕ → Bool
picked M t a b = bonded M a b && (ltb a b && t (bond M a b))

higher_count : (M : Molecule) (t : Bond → Bool) (a : ℕ) → count (map t (higher M a)) ≡ count (each M.size (picked M t a))
unfolding neighbours each
higher_count M t a =
    ap count (map-map t (bond M a) (keep (ltb a) (neighbours M a))) ∙ count-keep (ltb a) (λ b. t (bond M a b)) (neighbours M a)
    ∙ count-keep (bonded M a) (λ b. ltb a b && t (bond M a b)) (upto M.size)

-- the bonds that pass a test, counted over all pairs
pub bonds_of-count : (M : Molecule) (t : Bond → Bool) → count (map t (bonds_of M)) ≡ sum (each M.size (λ a. count (each M.size (picked M t a))))
unfolding bonds_of
bonds_of-count M t =
    count-flatten t (each M.size (higher M)) ∙ ap sum (map_each (λ l. count (map t l)) M.size (higher M))
    ∙ sum-eq M.size _ _ (λ a h. higher_count M t a)

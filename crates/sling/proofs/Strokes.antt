-- What a writer does, stroke by stroke: it puts an H on an atom, puts a neighbour with its hydrogens, or closes a ring. What each stroke keeps
-- is kept from the first atom to the end.
use mathlib.Core.Path.{◌≡◌, refl, ap}
use mathlib.Core.Bool.{Bool, true, false, cond}
use mathlib.Core.List.Memᴰ
use mathlib.Core.List.{List, [], ◌∷◌, ◌++◌, append-nil}
use mathlib.Core.Logic.{◌≢◌, ⊎_elim}
use Prim.Native.Nat.{ℕ, zero, suc, ◌<◌, ◌≤◌}
use native.Mathlib.Omega.{arith}
use lib.ListN.{length}
use lib.Dec.{eqb}
use borrow.Author.Tests.{eqb-true}
use Rattle.lists.proofs.All.{All, mem_all}
use Rattle.molecule.specs.Molecule.{Molecule, neighbours}
use Rattle.molecule.proofs.Neighbours.{of_neighbours}
use Rattle.sling.specs.Items.{Item, at, atom, reference, ring}
use Rattle.sling.specs.Walk.{kind_at, hydrogens_at, code_at, Written, place_in, is_traced, serve, put, close, put_hs, neighbours_at, is_written, trace}
use Rattle.sling.proofs.Tidy.{bond}
use Rattle.sling.proofs.Places.{On, on-more, on-new, on-cases}

-- what is written to go to the atom of rank r
abbrev pub said : ℕ → Written → List Item
said r w = cond (eqb w.cursor (place_in w.ranks r)) [] (reference (at (place_in w.ranks r)) ∷ [])

-- an atom put on the one of rank r, and a ring closed from there
abbrev pub put_at : ℕ → ℕ → ℕ → ℕ → Written → Written
put_at r s k m w =
    record {
      ranks = w.ranks ++ (s ∷ []);
      bonds = w.bonds ++ (bond (place_in w.ranks r) (length w.ranks) m ∷ []);
      cursor = length w.ranks;
      items = w.items ++ said r w ++ (atom m k ∷ []);
    }

abbrev pub close_at : ℕ → ℕ → ℕ → Written → Written
close_at r s m w =
    record {
      ranks = w.ranks;
      bonds = w.bonds ++ (bond (place_in w.ranks r) (place_in w.ranks s) m ∷ []);
      cursor = place_in w.ranks s;
      items = w.items ++ said r w ++ (ring m (at (place_in w.ranks s)) ∷ []);
    }

pub put-served : (r s k m : ℕ) (w : Written) → put s k m (serve r w) ≡ put_at r s k m w
unfolding put serve
put-served r s k m w = pick (eqb w.cursor (place_in w.ranks r)) refl
  where
    pick : (b : Bool) → eqb w.cursor (place_in w.ranks r) ≡ b → put s k m (serve r w) ≡ put_at r s k m w
    pick true e = let z : w.cursor ≡ place_in w.ranks r = eqb-true _ _ e in simp (e, append-nil) (simp z)
    pick false e = simp e

pub close-served : (r s m : ℕ) (w : Written) → close s m (serve r w) ≡ close_at r s m w
unfolding close serve
close-served r s m w = pick (eqb w.cursor (place_in w.ranks r)) refl
  where
    pick : (b : Bool) → eqb w.cursor (place_in w.ranks r) ≡ b → close s m (serve r w) ≡ close_at r s m w
    pick true e = let z : w.cursor ≡ place_in w.ranks r = eqb-true _ _ e in simp (e, append-nil) (simp z)
    pick false e = simp e

pub put_hs-suc : (h r : ℕ) (w : Written) → put_hs (suc h) r w ≡ put_hs h r (put_at r 0 0 1 w)
unfolding put_hs
put_hs-suc h r w = ap (put_hs h r) (put-served r 0 0 1 w)

-- a rank of the molecule, and two that are bonded
pub record Rank (W : Molecule) (r : ℕ) : Type 0 where
  pub low : 0 < r
  pub high : r ≤ W.size

pub record Near (W : Molecule) (r s : ℕ) : Type 0 where
  pub one : Rank W r
  pub two : Rank W s
  pub code : code_at W r s ≢ 0

-- an atom's hydrogens
abbrev pub with_hs : Molecule → ℕ → Written → Written
with_hs W r w = put_hs (hydrogens_at W r) r w

abbrev pub next_at : Molecule → ℕ → ℕ → Written → Written
next_at W r s w = put_at r s (kind_at W s) (code_at W r s) w

abbrev pub ring_at : Molecule → ℕ → ℕ → Written → Written
ring_at W r s w = close_at r s (code_at W r s) w

-- the neighbours that are gone through
pub near-all : (W : Molecule) (r : ℕ) → Rank W r → All (Near W r) (neighbours_at W r)
near-all W zero q = tt
near-all W (suc a) q =
    mem_all (neighbours_at W (suc a)) (λ s m.
    let w = Memᴰ.of_map suc (neighbours W a) m in
    let b = of_neighbours W a w.0 w.1 in
    rw (← w.2) (record { one = q; two = record { low = omega arith; high = b.0 }; code = b.1 }))

-- what coming to a neighbour leads to
module _ (f : ℕ → Written → Written) (W : Molecule) (r s : ℕ) (w : Written) where
  pub trace-done : is_traced w r s ≡ true → trace f W r s w ≡ w
  unfolding trace
  trace-done e = simp e

  pub trace-back : is_traced w r s ≡ false → is_written w s ≡ true → trace f W r s w ≡ ring_at W r s w
  unfolding trace
  trace-back e k = simp (e, k) (close-served r s (code_at W r s) w)

  pub trace-onward : is_traced w r s ≡ false → is_written w s ≡ false → trace f W r s w ≡ f s (next_at W r s w)
  unfolding trace
  trace-onward e k = simp (e, k) (ap (f s) (put-served r s (kind_at W s) (code_at W r s) w))

-- hydrogens are no ranks
pub put_hs-old : (h r : ℕ) (w : Written) (x : ℕ) → 0 < x → On (put_hs h r w).ranks x → On w.ranks x
unfolding put_hs
put_hs-old zero r w x p o = o
put_hs-old (suc h) r w x p o =
    ⊎_elim (λ k. k) (λ (e : x ≡ 0). absurd (omega arith)) (on-cases w.ranks 0 x (put_hs-old h r (put_at r 0 0 1 w) x p (rw (put_hs-suc h r w) at o)))

-- so from one state of the writer to another
pub data Strokes (W : Molecule) : Written → Written → Type 0 where
  here : {w : Written} → Strokes W w w
  onward : {w v : Written} (r s : ℕ) → Near W r s → On w.ranks r → (On w.ranks s → ⊥) → Strokes W (with_hs W s (next_at W r s w)) v → Strokes W w v
  back : {w v : Written} (r s : ℕ) → Near W r s → On w.ranks r → On w.ranks s → is_traced w r s ≡ false → Strokes W (ring_at W r s w) v → Strokes W w v

pub strokes_trans : {W : Molecule} {w v u : Written} → Strokes W w v → Strokes W v u → Strokes W w u
strokes_trans here q = q
strokes_trans (onward r s n h k p) q = onward r s n h k (strokes_trans p q)
strokes_trans (back r s n h k e p) q = back r s n h k e (strokes_trans p q)

-- kept by each stroke
pub record Keeps (W : Molecule) (P : Written → Type 0) : Type 0 where
  pub hydrogen : (r : ℕ) (w : Written) → Rank W r → On w.ranks r → P w → P (put_at r 0 0 1 w)
  pub onward : (r s : ℕ) (w : Written) → Near W r s → On w.ranks r → (On w.ranks s → ⊥) → P w → P (next_at W r s w)
  pub back : (r s : ℕ) (w : Written) → Near W r s → On w.ranks r → On w.ranks s → is_traced w r s ≡ false → P w → P (ring_at W r s w)

-- where it does not matter which atom is put
pub keeps_put : (W : Molecule) (P : Written → Type 0) → ((r s k m : ℕ) (w : Written) → On w.ranks r → P w → P (put_at r s k m w))
    → ((r s : ℕ) (w : Written) → Near W r s → On w.ranks r → On w.ranks s → is_traced w r s ≡ false → P w → P (ring_at W r s w)) → Keeps W P
keeps_put W P put_one close_one =
    record {
      hydrogen = λ r w q h p. put_one r 0 0 1 w h p;
      onward = λ r s w n h k p. put_one r s (kind_at W s) (code_at W r s) w h p;
      back = close_one;
    }

module _ (W : Molecule) (P : Written → Type 0) (k : Keeps W P) where
  pub put_hs-keeps : (h r : ℕ) (w : Written) → Rank W r → On w.ranks r → P w → P (put_hs h r w)
  unfolding put_hs
  put_hs-keeps zero r w q o p = p
  put_hs-keeps (suc h) r w q o p =
      rw (put_hs-suc h r w) (put_hs-keeps h r (put_at r 0 0 1 w) q (on-more w.ranks (0 ∷ []) r o) (k.hydrogen r w q o p))

  pub strokes_keep : {w v : Written} → Strokes W w v → P w → P v
  strokes_keep here p = p
  strokes_keep (onward {w = w} r s n h o q) p =
      strokes_keep q (put_hs-keeps (hydrogens_at W s) s (next_at W r s w) n.two (on-new w.ranks s) (k.onward r s w n h o p))
  strokes_keep (back {w = w} r s n h o e q) p = strokes_keep q (k.back r s w n h o e p)

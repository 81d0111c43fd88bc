-- The limits of a reader. Its counts only grow, so that limits kept at the end of a walk are kept on the way; and an item that passes none
-- keeps all of them, since it touches the counts of no other places than the two that are looked at.
use mathlib.Core.Path.{◌≡◌, refl, ap}
use mathlib.Core.Bool.{Bool, true, false, cond, not, ◌&&◌, ◌||◌}
use mathlib.Core.List.{List, [], ◌∷◌, ◌++◌, map}
use Prim.Native.Nat.{ℕ, ◌+◌, ◌≤◌}
use native.Mathlib.Omega.{arith}
use lib.ListN.{length, get_or-append}
use lib.Dec.{eqb, ltb}
use borrow.Author.Tests.{le-ltb, ltb-false, eqb-true}
use Rattle.lists.specs.Tests.{count}
use Rattle.lists.proofs.Booleans.{or_neither}
use Rattle.lists.proofs.All.{All, map-all}
use Rattle.lists.proofs.Passed.{count-snoc}
use Rattle.molecule.specs.Bonds.{Bond, on}
use Rattle.sling.specs.Items.{Item, atom, reference, ring}
use Rattle.sling.specs.Reading.{State, start, place_of, goal, after, to_h, hydrogens_on, bonds_on}
use Rattle.sling.specs.Faults.{heavy_atoms, hydrogen_atoms, heavy_bonds, over_at, over}
use Rattle.sling.proofs.Walks.{Walk, here, step, Kept}
use Rattle.sling.proofs.Tidy.{bond, Proper, Reader, reader_after, h_bond}

pub record Room (st : State) : Type 0 where
  pub atoms : heavy_atoms st ≤ 64
  pub hydrogens : hydrogen_atoms st ≤ 128
  pub bonds : heavy_bonds st ≤ 80
  pub hydrogens_at : (p : ℕ) → hydrogens_on st p ≤ 4
  pub bonds_at : (p : ℕ) → bonds_on st p ≤ 6

room-over : (st : State) (p q : ℕ) → Room st → over st p q ≡ false
room-over st p q r =
    simp (
      le-ltb 64 (heavy_atoms st) r.atoms,
      le-ltb 128 (hydrogen_atoms st) r.hydrogens,
      le-ltb 80 (heavy_bonds st) r.bonds,
      le-ltb 4 (hydrogens_on st p) (r.hydrogens_at p),
      le-ltb 6 (bonds_on st p) (r.bonds_at p),
      le-ltb 4 (hydrogens_on st q) (r.hydrogens_at q),
      le-ltb 6 (bonds_on st q) (r.bonds_at q),
    )

h_bond-same : (ks : List ℕ) (k : ℕ) (b : Bond) → Proper ks b → h_bond (ks ++ (k ∷ [])) b ≡ h_bond ks b
h_bond-same ks k b g = rw (get_or-append ks (k ∷ []) 0 b.one g.one, get_or-append ks (k ∷ []) 0 b.two g.two)

no_bonds : (p : Bond → Bool) (ks : List ℕ) (bs : List Bond) → All (Proper ks) bs → length ks ≡ 0 → count (map p bs) ≡ 0
no_bonds p ks [] a z = refl
no_bonds p ks (b ∷ bs) a z = absurd (omega (arith, a.0.one))

-- what a new atom adds to a count of bonds
atom-adds : (f : List ℕ → Bond → Bool) (ks : List ℕ) (k : ℕ) (bs : List Bond) (b : Bond) → All (Proper ks) bs
    → ((c : Bond) → Proper ks c → f (ks ++ (k ∷ [])) c ≡ f ks c)
    → (count (map (f ks) bs) ≤ count (map (f (ks ++ (k ∷ []))) (cond (eqb (length ks) 0) [] (bs ++ (b ∷ [])))))
    × (count (map (f (ks ++ (k ∷ []))) (cond (eqb (length ks) 0) [] (bs ++ (b ∷ [])))) ≤ count (map (f ks) bs) + cond (f (ks ++ (k ∷ [])) b) 1 0)
atom-adds f ks k bs b a e = pick (eqb (length ks) 0) refl
  where
    pick : (y : Bool) → eqb (length ks) 0 ≡ y → (count (map (f ks) bs) ≤ count (map (f (ks ++ (k ∷ []))) (cond (eqb (length ks) 0) [] (bs ++ (b ∷ [])))))
        × (count (map (f (ks ++ (k ∷ []))) (cond (eqb (length ks) 0) [] (bs ++ (b ∷ [])))) ≤ count (map (f ks) bs) + cond (f (ks ++ (k ∷ [])) b) 1 0)
    pick true q = simp q (omega (arith, no_bonds (f ks) ks bs a (eqb-true _ _ q)))
    pick false q = simp q (omega (arith, count-snoc (f (ks ++ (k ∷ []))) bs b, ap count (map-all (f (ks ++ (k ∷ []))) (f ks) e bs a)))

-- of each limited number: no less after an item, and no more at places that the item does not touch
record Adds (st sv : State) (c g : ℕ) : Type 0 where
  atoms : heavy_atoms st ≤ heavy_atoms sv
  hydrogens : hydrogen_atoms st ≤ hydrogen_atoms sv
  bonds : heavy_bonds st ≤ heavy_bonds sv
  hydrogens_at : (p : ℕ) → (hydrogens_on st p ≤ hydrogens_on sv p) × (eqb c p ≡ false → eqb g p ≡ false → hydrogens_on sv p ≤ hydrogens_on st p)
  bonds_at : (p : ℕ) → (bonds_on st p ≤ bonds_on sv p) × (eqb c p ≡ false → eqb g p ≡ false → bonds_on sv p ≤ bonds_on st p)

after-adds : (st : State) (i : Item) → Reader st → Adds st (after st i) st.cursor (goal st i)
unfolding after
after-adds st (atom m k) r =
    let a = r.tidy.proper in
    let b : Bond = bond st.cursor (length st.kinds) m in
    record {
      atoms = omega (arith, count-snoc (λ x. not (eqb x 0)) st.kinds k);
      hydrogens = omega (arith, count-snoc (λ x. eqb x 0) st.kinds k);
      bonds = (atom-adds (λ l c. not (h_bond l c)) st.kinds k st.bonds b a (λ c g. ap not (h_bond-same st.kinds k c g))).0;
      hydrogens_at = λ p.
          let w = atom-adds (λ l c. on p c && h_bond l c) st.kinds k st.bonds b a (λ c g. ap (λ (x : Bool). on p c && x) (h_bond-same st.kinds k c g)) in
          (w.0, λ e f. let z = simp (e, f) at w.1 in omega arith);
      bonds_at = λ p.
          let w = atom-adds (λ l c. on p c && not (h_bond l c)) st.kinds k st.bonds b a (λ c g. ap (λ (x : Bool). on p c && not x) (h_bond-same st.kinds k c g)) in
          (w.0, λ e f. let z = simp (e, f) at w.1 in omega arith);
    }
after-adds st (reference t) r =
    record {
      atoms = omega arith;
      hydrogens = omega arith;
      bonds = omega arith;
      hydrogens_at = λ p. (omega arith, λ e f. omega arith);
      bonds_at = λ p. (omega arith, λ e f. omega arith);
    }
after-adds st (ring m t) r =
    let b : Bond = bond st.cursor (place_of st t) m in
    record {
      atoms = omega arith;
      hydrogens = omega arith;
      bonds = omega (arith, count-snoc (λ c. not (to_h st c)) st.bonds b);
      hydrogens_at = λ p.
          let w = count-snoc (λ c. on p c && to_h st c) st.bonds b in
          (omega arith, λ e f. let z = simp (e, f) at w in omega arith);
      bonds_at = λ p.
          let w = count-snoc (λ c. on p c && not (to_h st c)) st.bonds b in
          (omega arith, λ e f. let z = simp (e, f) at w in omega arith);
    }

room-before : (st : State) (i : Item) → Reader st → Room (after st i) → Room st
room-before st i s r =
    let a = after-adds st i s in
    record {
      atoms = omega (arith, a.atoms, r.atoms);
      hydrogens = omega (arith, a.hydrogens, r.hydrogens);
      bonds = omega (arith, a.bonds, r.bonds);
      hydrogens_at = λ p. omega (arith, (a.hydrogens_at p).0, r.hydrogens_at p);
      bonds_at = λ p. omega (arith, (a.bonds_at p).0, r.bonds_at p);
    }

-- the limits at the end of a walk are kept on the way
room-walk : {st sv : State} {is : List Item} → Walk st is sv → Reader st → Room sv → Room st
room-walk here s r = r
room-walk (step {st = st} {i = i} c w) s r = room-before st i s (room-walk w (reader_after st i c s) r)

pub room-kept : {st sv : State} {is : List Item} → Walk st is sv → Reader st → Room sv → Kept st is
room-kept here s r = tt
room-kept (step {st = st} {i = i} c w) s r =
    let z = reader_after st i c s in
    (room-over (after st i) st.cursor (goal st i) (room-walk w z r), room-kept w z r)

-- and limits kept on the way are kept at the end
under : (st : State) (p : ℕ) → over_at st p ≡ false → (hydrogens_on st p ≤ 4) × (bonds_on st p ≤ 6)
under st p e = let n = or_neither (ltb 4 (hydrogens_on st p)) (ltb 6 (bonds_on st p)) e in (ltb-false 4 _ n.0, ltb-false 6 _ n.1)

room_after : (st : State) (i : Item) → Reader st → Room st → over (after st i) st.cursor (goal st i) ≡ false → Room (after st i)
room_after st i s r e =
    let sv = after st i in
    let c = st.cursor in
    let g = goal st i in
    let a = after-adds st i s in
    let x = ltb 64 (heavy_atoms sv) in
    let y = ltb 128 (hydrogen_atoms sv) in
    let z = ltb 80 (heavy_bonds sv) in
    let n₁ = or_neither (x || y || z || over_at sv c) (over_at sv g) e in
    let n₂ = or_neither (x || y || z) (over_at sv c) n₁.0 in
    let n₃ = or_neither (x || y) z n₂.0 in
    let n₄ = or_neither x y n₃.0 in
    let at_goal = under sv g n₁.1 in
    let at_cursor = under sv c n₂.1 in
    record {
      atoms = ltb-false 64 _ n₄.0;
      hydrogens = ltb-false 128 _ n₄.1;
      bonds = ltb-false 80 _ n₃.1;
      hydrogens_at = λ p. at_most (hydrogens_on sv) 4 c g p at_cursor.0 at_goal.0 (λ e f. omega (arith, (a.hydrogens_at p).1 e f, r.hydrogens_at p));
      bonds_at = λ p. at_most (bonds_on sv) 6 c g p at_cursor.1 at_goal.1 (λ e f. omega (arith, (a.bonds_at p).1 e f, r.bonds_at p));
    }
  where
    at_most : (f : ℕ → ℕ) (m c g p : ℕ) → f c ≤ m → f g ≤ m → (eqb c p ≡ false → eqb g p ≡ false → f p ≤ m) → f p ≤ m
    at_most f m c g p hc hg other = pick (eqb c p) (eqb g p) refl refl
      where
        pick : (x y : Bool) → eqb c p ≡ x → eqb g p ≡ y → f p ≤ m
        pick true y e h = let z : c ≡ p = eqb-true c p e in rw (← z) hc
        pick false true e h = let z : g ≡ p = eqb-true g p h in rw (← z) hg
        pick false false e h = other e h

pub kept-room : {st sv : State} {is : List Item} → Walk st is sv → Kept st is → Reader st → Room st → Room sv
kept-room here k s r = r
kept-room (step {st = st} {i = i} c w) k s r = kept-room w k.1 (reader_after st i c s) (room_after st i s r k.0)

pub room-start : Room start
room-start = record { atoms = omega arith; hydrogens = omega arith; bonds = omega arith; hydrogens_at = λ p. omega arith; bonds_at = λ p. omega arith }

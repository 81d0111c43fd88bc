-- The state after an item that was not refused: there is room for what it adds, and it is the one that the rules say.
use Prim.Native.Nat.{ℕ, ◌+◌, ◌≤◌, ◌<◌}
use mathlib.Core.Path.{◌≡◌, refl, sym, ap, subst, ◌∙◌}
use mathlib.Core.List.{[], ◌∷◌, ◌++◌}
use mathlib.Core.Bool.{false}
use native.Mathlib.Omega.{arith}
use lib.ListN.{length, length-append}
use borrow.Author.Tests.{eq-eqb, ne_eqb, eqb-false, leb-false}
use Rattle.sling.specs.Items.{Target, Item, atom, reference, ring}
use Rattle.sling.specs.Reading as rules
use Rattle.sling.specs.Reading.{place_of, after, drawn, hydrogens_on, bonds_on}
use Rattle.sling.specs.Faults.{misplaced, unknown, missing, broken_h, bad_bond, heavy_bonds, item_fault}
use Rattle.lists.proofs.Booleans.{or_neither, unless}
use Rattle.text.specs.declared.state.State.{State}
use Rattle.text.specs.Holding.{view_of, Tallied, Reached, Held, Judged, Drawable, grown_by, moved_to, bonded_by}
use Rattle.text.proofs.ReachedLaws.{reached-after, reached-reader, reached-room, reached-places, reached-bonds, no_places}
use Rattle.text.proofs.StateLaws.{view_places, view-bonds, grown_hydrogens_on, grown_bonds_on, grown_heavy_bonds}

record Clear (s : rules.State) (i : Item) : Type 0 where
  two : misplaced s i ≡ false
  five : missing s i ≡ false
  six : bad_bond s i ≡ false

clear_of : (s : rules.State) (i : Item) → item_fault s i ≡ 0 → Clear s i
unfolding item_fault
clear_of s i e =
    let a = unless (misplaced s i) 1 _ e in
    let b = unless (unknown i) 2 _ a.1 in
    let c = unless (missing s i) 4 _ b.1 in
    let d = unless (broken_h s i) 6 _ c.1 in
    let f = unless (bad_bond s i) 5 _ d.1 in
    record { two = a.0; five = c.0; six = f.0 }

pub held_by : (r : State) (s : rules.State) (i : Item) → Tallied r → view_of r ≡ after s i → Reached s → Judged s i → Held r
held_by r s i t e R J = record { tallied = t; reached = subst Reached (sym e) (reached-after s i R J.marked J.clear) }

module _ (s : rules.State) (m k : ℕ) (R : Reached s) (J : Judged s (atom m k)) where
  next : Reached (after s (atom m k))
  next = reached-after s (atom m k) R J.marked J.clear

  pub more_places : length s.kinds < 192
  unfolding after
  more_places = omega (arith, length-append s.kinds (k ∷ []), reached-places (after s (atom m k)) next)

  pub first-after : length s.kinds ≡ 0 → moved_to (grown_by s k) 0 ≡ after s (atom m k)
  unfolding after
  first-after z =
      let b = no_places s (reached-reader s R) z in
      rw (eq-eqb _ _ z) (λ i. record { kinds = s.kinds ++ (k ∷ []); ups = s.ups ++ (s.cursor ∷ []); bonds = b i; cursor = sym z i })

  pub later_after : (length s.kinds ≡ 0 → ⊥) → bonded_by (grown_by s k) (length s.kinds) m ≡ after s (atom m k)
  unfolding after
  later_after n = rw (ne_eqb _ _ n)

  pub grown_drawable : (length s.kinds ≡ 0 → ⊥) → (g : State) → Tallied g → view_of g ≡ grown_by s k → Drawable g (length s.kinds)
  grown_drawable n g t e =
      let S = reached-reader s R in
      let M = reached-room s R in
      let here : s.cursor < length s.kinds = S.cursor (omega arith) in
      let c : g.cursor.0 ≡ s.cursor = ap (λ (v : rules.State). v.cursor) e in
      let places : g.n ≡ length s.kinds + 1 = sym (view_places g) ∙ ap (λ (v : rules.State). length v.kinds) e ∙ length-append s.kinds (k ∷ []) in
      let bonds : g.drawn ≡ length s.bonds = sym (view-bonds g) ∙ ap (λ (v : rules.State). length v.bonds) e in
      let all : length (after s (atom m k)).bonds ≤ 208 = reached-bonds (after s (atom m k)) next in
      let one : length (after s (atom m k)).bonds ≡ length s.bonds + 1 = sym (ap (λ (v : rules.State). length v.bonds) (later_after n)) ∙ length-append s.bonds _ in
      let low : g.n ≤ 192 = t.places in
      record {
        bonds = omega arith;
        heavy = omega (arith, t.heavy_bonds, ap heavy_bonds e, heavy-same, M.bonds);
        from = omega arith;
        to = omega arith;
        apart = λ q. omega arith;
        few_h = omega (arith, t.hydrogens_on g.cursor.0 (omega arith), ap (λ (v : rules.State). hydrogens_on v g.cursor.0) e, grown_hydrogens_on s S k g.cursor.0, M.hydrogens_at g.cursor.0);
        few_h' = omega (arith, t.hydrogens_on (length s.kinds) (omega arith), ap (λ (v : rules.State). hydrogens_on v (length s.kinds)) e, grown_hydrogens_on s S k (length s.kinds), M.hydrogens_at (length s.kinds));
        few = omega (arith, t.bonds_on g.cursor.0 (omega arith), ap (λ (v : rules.State). bonds_on v g.cursor.0) e, grown_bonds_on s S k g.cursor.0, M.bonds_at g.cursor.0);
        few' = omega (arith, t.bonds_on (length s.kinds) (omega arith), ap (λ (v : rules.State). bonds_on v (length s.kinds)) e, grown_bonds_on s S k (length s.kinds), M.bonds_at (length s.kinds));
      }
    where
      heavy-same : heavy_bonds (grown_by s k) ≡ heavy_bonds s
      heavy-same = grown_heavy_bonds s (reached-reader s R) k

module _ (st : State) (H : Held st) where
  abbrev s : rules.State
  s = view_of st

  module _ (t : Target) where
    pub reference-there : Judged s (reference t) → (st.n ≡ 0 → ⊥) × (place_of s t ≤ st.n)
    reference-there J =
        let C = clear_of s (reference t) J.clear in
        let e = view_places st in
        let z : length s.kinds ≡ 0 → ⊥ = eqb-false _ _ C.two in
        let l : place_of s t < length s.kinds = leb-false _ _ C.five in
        ((λ q. z (e ∙ q)), omega arith)

    pub reference-after : moved_to s (place_of s t) ≡ after s (reference t)
    unfolding after
    reference-after = refl

    module _ (m : ℕ) (J : Judged s (ring m t)) where
      C : Clear s (ring m t)
      C = clear_of s (ring m t) J.clear

      pub ring-some : st.n ≡ 0 → ⊥
      ring-some q = eqb-false _ _ C.two (view_places st ∙ q)

      pub ring-after : bonded_by s (place_of s t) m ≡ after s (ring m t)
      unfolding after
      ring-after = refl

      pub ring-drawable : (p : ℕ) → p ≡ place_of s t → Drawable st p
      ring-drawable p q =
          let T = H.tallied in
          let S = reached-reader s H.reached in
          let M = reached-room s H.reached in
          let e = view_places st in
          let to : place_of s t < length s.kinds = leb-false _ _ C.five in
          let here : st.cursor.0 < length s.kinds = S.cursor (omega arith) in
          let ne : st.cursor.0 ≡ place_of s t → ⊥ = eqb-false _ _ (or_neither _ _ C.six).0 in
          let all : length (after s (ring m t)).bonds ≤ 208 = reached-bonds (after s (ring m t)) (reached-after s (ring m t) H.reached J.marked J.clear) in
          let one : length (after s (ring m t)).bonds ≡ length s.bonds + 1 = sym (ap (λ (v : rules.State). length v.bonds) ring-after) ∙ length-append s.bonds _ in
          let bonds = view-bonds st in
          let low : st.n ≤ 192 = T.places in
          record {
            bonds = omega arith;
            heavy = omega (arith, T.heavy_bonds, M.bonds);
            from = omega arith;
            to = omega arith;
            apart = λ z. ne (z ∙ q);
            few_h = omega (arith, T.hydrogens_on st.cursor.0 (omega arith), M.hydrogens_at st.cursor.0);
            few_h' = omega (arith, T.hydrogens_on p (omega arith), M.hydrogens_at p);
            few = omega (arith, T.bonds_on st.cursor.0 (omega arith), M.bonds_at st.cursor.0);
            few' = omega (arith, T.bonds_on p (omega arith), M.bonds_at p);
          }

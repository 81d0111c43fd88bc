-- When an item is clear: an atom put on a heavy atom, an H put on one, a ring bond between two heavy atoms that are not bonded yet, and a
-- reference to a place that is there.
use mathlib.Core.Path.{◌≡◌, refl, ap, ◌∙◌}
use mathlib.Core.Bool.{false, and-false, or-true}
use mathlib.Core.List.{List, [], ◌∷◌, ◌++◌, map}
use Prim.Native.Nat.{ℕ, ◌<◌, ◌≤◌}
use native.Mathlib.Omega.{arith}
use lib.ListN.{length, get_or-append}
use lib.Seq.{get_or-append_seam}
use lib.Dec.{eqb}
use borrow.Author.Tests.{eq-eqb, ne_eqb, le-ltb, lt-leb}
use Rattle.lists.specs.Tests.{count, some}
use Rattle.lists.proofs.All.{All}
use Rattle.lists.proofs.Passed.{count-snoc}
use Rattle.molecule.specs.Bonds.{Bond, on, joins}
use Rattle.sling.specs.Items.{Item, at, atom, reference, ring}
use Rattle.sling.specs.Reading.{State, goal, after, is_h}
use Rattle.sling.specs.Faults.{draws, code_of, wrong_h, broken_h}
use Rattle.sling.proofs.Walks.{Marked, Clear}
use Rattle.sling.proofs.Tidy.{bond, Proper, none-on}

-- an item whose bond breaks the H rule at neither end
kept-h : (st : State) (i : Item) → wrong_h (after st i) st.cursor (goal st i) (code_of i) ≡ false → wrong_h (after st i) (goal st i) st.cursor (code_of i) ≡ false
    → broken_h st i ≡ false
kept-h st i e f = rw (e, f) (and-false (draws st i))

pub reference-clear : (st : State) (p : ℕ) → p < length st.kinds → Clear st (reference (at p))
reference-clear st p h =
    record {
      two = ne_eqb (length st.kinds) 0 (λ e. omega arith);
      three = refl;
      five = lt-leb _ _ h;
      seven = refl;
      six = refl;
      mark = omega arith;
    }

-- the atoms before a new one, and the new one
old_kind : (st : State) (m k p : ℕ) → p < length st.kinds → is_h (after st (atom m k)) p ≡ is_h st p
unfolding after
old_kind st m k p h = rw (get_or-append st.kinds (k ∷ []) 0 p h)

new_kind : (st : State) (m k : ℕ) → is_h (after st (atom m k)) (length st.kinds) ≡ eqb k 0
unfolding after
new_kind st m k = rw (get_or-append_seam st.kinds k [] 0)

pub atom-clear : (st : State) (m k : ℕ) → st.cursor < length st.kinds → is_h st st.cursor ≡ false → 0 < k → k ≤ 24 → Marked m → Clear st (atom m k)
atom-clear st m k h heavy low high mark =
    record {
      two = rw (ne_eqb (length st.kinds) 0 (λ e. omega arith));
      three = le-ltb 24 k high;
      five = refl;
      seven = kept-h st (atom m k) (rw (old_kind st m k st.cursor h, heavy)) (rw (new_kind st m k, ne_eqb k 0 (λ e. omega arith)));
      six = refl;
      mark = mark;
    }

new_once : (ks : List ℕ) (c m : ℕ) (bs : List Bond) → All (Proper ks) bs → count (map (on (length ks)) (bs ++ (bond c (length ks) m ∷ []))) ≡ 1
new_once ks c m bs a =
    count-snoc (on (length ks)) bs (bond c (length ks) m) ∙ rw (none-on ks (length ks) bs (omega arith) a, eq-eqb (length ks) (length ks) refl, or-true)

new_bonds : (st : State) (m k : ℕ) → 0 < length st.kinds → (after st (atom m k)).bonds ≡ st.bonds ++ (bond st.cursor (length st.kinds) m ∷ [])
unfolding after
new_bonds st m k h = rw (ne_eqb (length st.kinds) 0 (λ e. omega arith))

pub h_clear : (st : State) → st.cursor < length st.kinds → is_h st st.cursor ≡ false → All (Proper st.kinds) st.bonds → Clear st (atom 1 0)
h_clear st h heavy a =
    let sv = after st (atom 1 0) in
    let one : count (map (on (length st.kinds)) sv.bonds) ≡ 1 =
    ap (λ (bs : List Bond). count (map (on (length st.kinds)) bs)) (new_bonds st 1 0 (omega arith)) ∙ new_once st.kinds st.cursor 1 st.bonds a in
    let lone : is_h sv st.cursor ≡ false = old_kind st 1 0 st.cursor h ∙ heavy in
    record {
      two = rw (ne_eqb (length st.kinds) 0 (λ e. omega arith));
      three = refl;
      five = refl;
      seven = kept-h st (atom 1 0) (rw lone) (rw (lone, one) (and-false (is_h sv (length st.kinds))));
      six = refl;
      mark = omega arith;
    }

pub ring-clear : (st : State) (m p : ℕ) → p < length st.kinds → is_h st st.cursor ≡ false → is_h st p ≡ false
    → eqb st.cursor p ≡ false → some (map (joins st.cursor p) st.bonds) ≡ false → Marked m → Clear st (ring m (at p))
unfolding after
ring-clear st m p h heavy other ne apart mark =
    record {
      two = ne_eqb (length st.kinds) 0 (λ e. omega arith);
      three = refl;
      five = lt-leb _ _ h;
      seven = kept-h st (ring m (at p)) (rw heavy) (rw other);
      six = rw (ne, apart);
      mark = mark;
    }

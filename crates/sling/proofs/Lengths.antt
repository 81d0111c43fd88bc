-- What a name costs in bytes: 5 for the first atom, and for every bond an item of at most 5 with at most one reference of at most 4 before it.
use mathlib.Core.Path.{◌≡◌, refl, ap, ◌∙◌}
use mathlib.Core.Bool.{Bool, true, false}
use mathlib.Core.List.{List, [], ◌∷◌, ◌++◌, map, map-append, append-nil}
use Prim.Native.Nat.{ℕ, ◌+◌, ◌*◌, ◌<◌, ◌≤◌}
use native.Mathlib.Nat.{not-suc-le-zero}
use native.Mathlib.Omega.{arith}
use lib.ListN.{length, length-append}
use lib.Dec.{eqb}
use borrow.Author.Tests.{ltb-false, leb-false}
use Rattle.lists.specs.Upto.{sum}
use Rattle.lists.proofs.Steps.{sum-append}
use Rattle.lists.proofs.All.{All, all_snoc}
use Rattle.molecule.specs.Molecule.{Molecule}
use Rattle.sling.specs.Items.{Item, at, up, atom, reference, ring}
use Rattle.sling.specs.Reading.{State, after}
use Rattle.sling.specs.Walk.{code_at, kind_at, Written, place_in, written}
use Rattle.sling.specs.Printed.{ends_in_digit, bytes}
use Rattle.sling.proofs.Tokens.{Plain, mark_is, cost, item_long}
use Rattle.sling.proofs.Walks.{Clear, Walk, here, step}
use Rattle.sling.proofs.Strokes.{said, Keeps}
use Rattle.sling.proofs.Finished.{written_keeps}

-- "Only non-negative places are used."
abbrev pub Pointed : Item → Type 0
Pointed (atom m k) = Unit {0}
Pointed (reference (at p)) = Unit {0}
Pointed (reference (up k)) = ⊥
Pointed (ring m (at p)) = Unit {0}
Pointed (ring m (up k)) = ⊥

unfoldable pub costs : List Item → ℕ
costs is = sum (map cost is)

costs_snoc : (is : List Item) (i : Item) → costs (is ++ (i ∷ [])) ≡ costs is + cost i
unfolding costs sum
costs_snoc is i = ap sum (map-append cost is (i ∷ [])) ∙ sum-append (map cost is) (cost i ∷ []) ∙ omega arith

pub record Priced (w : Written) : Type 0 where
  pub pointed : All Pointed w.items
  pub some : 0 < length w.items
  pub cheap : costs w.items ≤ 9 * length w.bonds + 5

-- the reference before an item
said_priced : (r : ℕ) (w : Written) → Priced w → All Pointed (w.items ++ said r w) × (costs (w.items ++ said r w) ≤ 9 * length w.bonds + 9)
said_priced r w p = pick (eqb w.cursor (place_in w.ranks r)) refl
  where
    pick : (b : Bool) → eqb w.cursor (place_in w.ranks r) ≡ b → All Pointed (w.items ++ said r w) × (costs (w.items ++ said r w) ≤ 9 * length w.bonds + 9)
    pick true e = simp (e, append-nil) (p.pointed, omega (arith, p.cheap))
    pick false e = simp e (all_snoc Pointed w.items _ p.pointed tt, omega (arith, p.cheap, costs_snoc w.items (reference (at (place_in w.ranks r)))))

item_priced : (r : ℕ) (w v : Written) (i : Item) → Pointed i → cost i ≤ 5 → v.items ≡ w.items ++ said r w ++ (i ∷ [])
    → length v.bonds ≡ length w.bonds + 1 → Priced w → Priced v
item_priced r w v i q c e f p =
    let a = said_priced r w p in
    let s = costs_snoc (w.items ++ said r w) i in
    let k = ap costs e in
    record {
      pointed = rw e (all_snoc Pointed (w.items ++ said r w) i a.0 q);
      some = rw (e, length-append (w.items ++ said r w) (i ∷ [])) (omega arith);
      cheap = omega arith;
    }

priced_keeps : (W : Molecule) → Keeps W Priced
priced_keeps W =
    record {
      hydrogen = λ r w q h p. item_priced r w _ (atom 1 0) tt (omega arith) refl (length-append w.bonds _) p;
      onward = λ r s w n h k p. item_priced r w _ (atom (code_at W r s) (kind_at W s)) tt (omega arith) refl (length-append w.bonds _) p;
      back = λ r s w n h k u p. item_priced r w _ (ring (code_at W r s) (at (place_in w.ranks s))) tt (omega arith) refl (length-append w.bonds _) p;
    }

pub written-priced : (W : Molecule) → 0 < W.size → Priced (written W)
unfolding costs sum
written-priced W h = written_keeps W h Priced (priced_keeps W) (record { pointed = (tt, tt); some = omega arith; cheap = omega arith })

-- the items that are read are printed as they are: their kinds and places are those that the reader admits
longer : (st : State) (i : Item) → length st.kinds ≤ length (after st i).kinds
unfolding after
longer st (atom m k) = omega (arith, length-append st.kinds (k ∷ []))
longer st (reference t) = omega arith
longer st (ring m t) = omega arith

walk_long : {st sv : State} {is : List Item} → Walk st is sv → length st.kinds ≤ length sv.kinds
walk_long here = omega arith
walk_long (step {st = st} {i = i} c w) = omega (arith, longer st i, walk_long w)

item_plain : (st : State) (i : Item) → Clear st i → Pointed i → length st.kinds ≤ 999 → Plain i
item_plain st (atom m k) c q h = (mark_is m c.mark.0 c.mark.1, ltb-false 24 k c.three)
item_plain st (reference (at p)) c q h = let e : p < length st.kinds = leb-false _ _ c.five in omega arith
item_plain st (reference (up k)) c q h = absurd q
item_plain st (ring m (at p)) c q h = let e : p < length st.kinds = leb-false _ _ c.five in (mark_is m c.mark.0 c.mark.1, omega arith)
item_plain st (ring m (up k)) c q h = absurd q

pub walk_plain : {st sv : State} {is : List Item} → Walk st is sv → All Pointed is → length sv.kinds ≤ 999 → All Plain is
walk_plain here q h = tt
walk_plain (step {st = st} {i = i} c w) q h = (item_plain st i c q.0 (omega (arith, longer st i, walk_long w)), walk_plain w q.1 h)

pub bytes-long : (d : Bool) (is : List Item) → All Plain is → length (bytes d is) ≤ costs is
unfolding bytes costs sum
bytes-long d [] h = omega arith
bytes-long d (i ∷ is) h = rw (length-append) (omega (arith, (item_long d i h.0).1, bytes-long (ends_in_digit i) is h.1))

pub bytes-some : (d : Bool) (is : List Item) → All Plain is → 0 < length is → 0 < length (bytes d is)
unfolding bytes
bytes-some d [] h s = absurd (not-suc-le-zero s)
bytes-some d (i ∷ is) h s = rw (length-append) (omega (arith, (item_long d i h.0).0))

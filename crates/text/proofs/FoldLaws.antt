-- Folding: the atoms one by one.
use Prim.Native.Nat.{ℕ, suc, ◌+◌, ◌≤◌, ◌<◌}
use mathlib.Core.Path.{◌≡◌, refl, sym, ap, subst, ◌∙◌}
use mathlib.Core.List.{List, [], ◌∷◌, ◌++◌}
use mathlib.Core.Bool.{Bool, true, false, not}
use native.Mathlib.Decide.{ℕ_discrete}
use native.Mathlib.Numerals.{add-one}
use native.Mathlib.Omega.{arith}
use lib.ListN.{length, get_or, set, replicate, length-set, length-replicate, length-append, get_or-append}
use lib.Seq.{get_or-append_seam, get_or-set_same, get_or-set_other}
use lib.Dec.{eqb}
use borrow.Author.Tests.{ne_eqb, eqb-false}
use Rattle.lists.specs.Upto.{from}
use Rattle.lists.specs.Tests.{keep}
use Rattle.lists.proofs.KeptBelow.{count-more, kept-count, kept-hit, kept-miss, kept_at}
use Rattle.sling.specs.Reading as rules
use Rattle.sling.specs.Reading.{is_h, hydrogens_on}
use Rattle.sling.specs.Folded.{heavy_places, folded}
use Rattle.sling.proofs.Tidy.{Tidy}
use Rattle.sling.proofs.Limits.{Room}
use Rattle.sling.proofs.Folds.{folded-size}
use Rattle.table.specs.Arrays as arrays
use Rattle.table.specs.Arrays.{as_molecule}
use Rattle.table.proofs.Unbonded.{unbonded, unbonded_tidy, unbonded_code, unbonded_degree}
use Rattle.table.specs.declared.AtomNo.{AtomNo}
use Rattle.table.specs.declared.Table.{Table}
use Rattle.table.specs.declared.rows.Rows.{Rows}
use Rattle.table.specs.View.{TidyTable}
use Rattle.table.specs.Changes.{no_rows}
use Rattle.table.proofs.Joins.{rowed}
use Rattle.std.proofs.lemmas.List.{get_or_default}
use Rattle.text.specs.declared.state.TextAtom.{TextAtom}
use Rattle.text.specs.declared.state.State.{State}
use Rattle.text.specs.Holding.{no_atom, atom_at, view_of, Held}
use Rattle.text.specs.Folding.{molecule_of, heavies_to, BareTo, number_at}
use Rattle.text.proofs.ReachedLaws.{reached-reader, reached-room}
use Rattle.text.proofs.StateLaws.{view_places, view-kind}

abbrev pub heavy : rules.State → ℕ → Bool
heavy s p = not (is_h s p)

-- the kinds and hydrogens of the places below i that have no H, in their order
pub record Heavies (s : rules.State) (i n : ℕ) (ks hs : List ℕ) : Type 0 where
  pub kinds_long : length ks ≡ 64
  pub hydrogens_long : length hs ≡ 64
  pub size : n ≡ length (heavies_to s i)
  pub kinds : (a : ℕ) → a < n → get_or ks a 0 ≡ get_or s.kinds (get_or (heavies_to s i) a 0) 0
  pub hydrogens : (a : ℕ) → a < n → get_or hs a 0 ≡ hydrogens_on s (get_or (heavies_to s i) a 0)

pub heavies_start : (s : rules.State) → Heavies s 0 0 (replicate 64 0) (replicate 64 0)
unfolding keep from
heavies_start s =
    record {
      kinds_long = length-replicate {A = ℕ} 64 0;
      hydrogens_long = length-replicate {A = ℕ} 64 0;
      size = refl;
      kinds = λ a h. absurd (omega arith);
      hydrogens = λ a h. absurd (omega arith);
    }

-- what an array has of some places, it has of one more
one_more : (f : ℕ → ℕ) (l places : List ℕ) (n i x : ℕ) → n ≡ length places → n < length l → x ≡ f i → ((a : ℕ) → a < n → get_or l a 0 ≡ f (get_or places a 0))
    → (a : ℕ) → a < n + 1 → get_or (set l n x) a 0 ≡ f (get_or (places ++ (i ∷ [])) a 0)
one_more f l places n i x e h q g a k = pick (ℕ_discrete a n)
  where
    pick : Dec (a ≡ n) → get_or (set l n x) a 0 ≡ f (get_or (places ++ (i ∷ [])) a 0)
    pick (yes z) = rw z (get_or-set_same l n x 0 h ∙ q ∙ ap f (sym (rw e (get_or-append_seam places i [] 0))))
    pick (no z) = get_or-set_other l n a x 0 z ∙ g a (omega arith) ∙ ap f (sym (get_or-append places (i ∷ []) 0 a (omega arith)))

-- one place more
module _ (s : rules.State) (i n : ℕ) (ks hs : List ℕ) (B : Heavies s i n ks hs) (k h : ℕ) (ek : k ≡ get_or s.kinds i 0) (eh : h ≡ hydrogens_on s i) where
  same_places : heavies_to s (suc i) ≡ heavies_to s i → Heavies s (suc i) n ks hs
  same_places e =
      record { kinds_long = B.kinds_long; hydrogens_long = B.hydrogens_long; size = rw e B.size; kinds = λ a l. rw e (B.kinds a l); hydrogens = λ a l. rw e (B.hydrogens a l) }

  new_place : heavies_to s (suc i) ≡ heavies_to s i ++ (i ∷ []) → n < 64 → Heavies s (suc i) (n + 1) (set ks n k) (set hs n h)
  new_place e l =
      record {
        kinds_long = length-set ks n k ∙ B.kinds_long;
        hydrogens_long = length-set hs n h ∙ B.hydrogens_long;
        size = rw e (omega (arith, B.size, length-append (heavies_to s i) (i ∷ [])));
        kinds = rw e (one_more (λ p. get_or s.kinds p 0) ks (heavies_to s i) n i k B.size (omega (arith, B.kinds_long)) ek B.kinds);
        hydrogens = rw e (one_more (hydrogens_on s) hs (heavies_to s i) n i h B.size (omega (arith, B.hydrogens_long)) eh B.hydrogens);
      }

  test : (b : Bool) → eqb k 0 ≡ b → is_h s i ≡ b
  test b e = ap (λ (x : ℕ). eqb x 0) (sym ek) ∙ e

  pub heavies_same : eqb k 0 ≡ true → Heavies s (i + 1) n ks hs
  heavies_same e = rw (add-one i) (same_places (kept-miss (heavy s) i (rw (test true e))))

  pub heavies_more : eqb k 0 ≡ false → n < 64 → Heavies s (i + 1) (n + 1) (set ks n k) (set hs n h)
  heavies_more e l = rw (add-one i) (new_place (kept-hit (heavy s) i (rw (test false e))) l)

pub heavies_bare : (s : rules.State) (i n : ℕ) (ks hs : List ℕ) → n ≤ 64 → Heavies s i n ks hs → arrays.Tidy (unbonded n ks hs) × BareTo s i (as_molecule (unbonded n ks hs))
unfolding as_molecule
heavies_bare s i n ks hs l B = (
  unbonded_tidy n ks hs l B.kinds_long B.hydrogens_long,
  record {
    size = B.size;
    label = λ a h. λ j. B.kinds a h j ∷ B.hydrogens a h j ∷ [];
    code = λ a b h k. unbonded_code n ks hs l B.kinds_long B.hydrogens_long a b h;
    none = λ a h. unbonded_degree n ks hs l B.kinds_long B.hydrogens_long a h;
  },
)

-- the atoms of a tidy reader are few enough
module _ (s : rules.State) (t : Tidy s.kinds s.bonds) (m : Room s) where
  heavies_few : length (heavies_to s (length s.kinds)) ≤ 64
  unfolding folded heavy_places
  heavies_few = omega (arith, folded-size s t, m.atoms)

  pub bare-room : (i : ℕ) → i < length s.kinds → (get_or s.kinds i 0 ≡ 0 → ⊥) → length (heavies_to s i) < 64
  bare-room i h n =
      let w = kept_at (heavy s) (length s.kinds) i h (rw (ne_eqb _ _ n)) in
      omega (arith, w.0, heavies_few)

  pub bare-small : (i : ℕ) → i ≤ length s.kinds → length (heavies_to s i) ≤ 64
  bare-small i h =
      omega (arith, heavies_few, kept-count (heavy s) i, kept-count (heavy s) (length s.kinds), count-more (heavy s) i (length s.kinds) h)

pub bare-table : (s : rules.State) (i : ℕ) (t : Table) → t.rows ≡ no_rows → t.n ≤ 64 → Heavies s i t.n t.kinds t.hydrogens → TidyTable t × BareTo s i (molecule_of t)
bare-table s i t e l B =
    subst (λ (R : Rows). TidyTable (rowed t R) × BareTo s i (molecule_of (rowed t R))) (sym e) (heavies_bare s i t.n t.kinds t.hydrogens l B)

-- the atom that is read at a place
pub read-atom : (st : State) → Held st → (p : ℕ) → p < st.n → (r : TextAtom) → get_or st.placed p r ≡ atom_at st p
read-atom st H p l r = get_or_default st.placed p r no_atom (omega (arith, H.tallied.places, H.tallied.placed_long))

-- the atoms of a state, place by place
module _ (st : State) (H : Held st) (p n : ℕ) (ks hs : List ℕ) (B : Heavies (view_of st) p n ks hs) where
  pub few-atoms : p ≤ st.n → n ≤ 64
  few-atoms l =
      omega (arith, B.size, bare-small (view_of st) (reached-reader (view_of st) H.reached).tidy (reached-room (view_of st) H.reached) p (omega (arith, view_places st)))

  module _ (l : p < st.n) where
    pub room-atoms : eqb (atom_at st p).kind 0 ≡ false → n < 64
    room-atoms e =
        omega (
          arith,
          B.size,
          bare-room (view_of st) (reached-reader (view_of st) H.reached).tidy (reached-room (view_of st) H.reached) p (omega (arith, view_places st))
              (λ z. eqb-false _ _ e (sym (view-kind st p l) ∙ z)),
        )

    pub atoms-same : eqb (atom_at st p).kind 0 ≡ true → Heavies (view_of st) (p + 1) n ks hs
    atoms-same e =
        heavies_same (view_of st) p n ks hs B _ _ (sym (view-kind st p l)) (H.tallied.hydrogens_on p (omega (arith, H.tallied.places))) e

    pub atoms-more : eqb (atom_at st p).kind 0 ≡ false → Heavies (view_of st) (p + 1) (n + 1) (set ks n (atom_at st p).kind) (set hs n (atom_at st p).hydrogens)
    atoms-more e =
        heavies_more (view_of st) p n ks hs B _ _ (sym (view-kind st p l)) (H.tallied.hydrogens_on p (omega (arith, H.tallied.places))) e (room-atoms e)

-- the numbers by place, one more
pub numbered_more : (s : rules.State) (l : List AtomNo) (p : ℕ) (x : AtomNo) → p < length l → x.0 ≡ length (heavies_to s p) → ((q : ℕ) → q < p → number_at l q ≡ length (heavies_to s q))
    → (q : ℕ) → q < p + 1 → number_at (set l p x) q ≡ length (heavies_to s q)
numbered_more s l p x h e f q k = pick (ℕ_discrete q p)
  where
    pick : Dec (q ≡ p) → number_at (set l p x) q ≡ length (heavies_to s q)
    pick (yes z) = rw z (ap (λ (a : AtomNo). a.0) (get_or-set_same l p x (record { 0 = 0 }) h) ∙ e)
    pick (no z) = ap (λ (a : AtomNo). a.0) (get_or-set_other l p q x (record { 0 = 0 }) z) ∙ f q (omega arith)

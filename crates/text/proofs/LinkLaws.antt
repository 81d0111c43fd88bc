-- Folding: the bonds one by one.
use Prim.Native.Nat.{ℕ, zero, suc, ◌+◌, ◌≤◌, ◌<◌}
use mathlib.Core.Path.{◌≡◌, refl, sym, ap, ap₂, subst, ◌∙◌}
use mathlib.Core.List.{List, [], ◌∷◌, ◌++◌, map}
use mathlib.Core.Bool.{Bool, true, false, cond, not, ◌&&◌, or-true, and-false, and-true}
use mathlib.Core.Logic.{◌⊎◌, inl, inr}
use native.Mathlib.Nat.{add-zero}
use native.Mathlib.Numerals.{add-one}
use native.Mathlib.Omega.{arith}
use lib.ListN.{length, get_or, take}
use lib.Seq.{take-suc, take-length}
use lib.Dec.{eqb}
use borrow.Author.Tests.{eq-eqb, ne_eqb, eqb-true, eqb-false, not-true}
use Rattle.lists.specs.Tests.{count}
use Rattle.lists.proofs.Upto.{get_or-each}
use Rattle.lists.proofs.Members.{get_or-mem}
use Rattle.lists.proofs.KeptBelow.{Kept, kept_at, kept_of}
use Rattle.lists.proofs.Passed.{count-take}
use Rattle.molecule.specs.Bonds.{Bond, on, joins, code_in}
use Rattle.molecule.specs.Molecule.{Molecule, neighbours}
use Rattle.molecule.specs.Renumbering.{Renumbered}
use Rattle.molecule.proofs.BondLists.{code_in-swap}
use Rattle.sling.specs.Reading as rules
use Rattle.sling.specs.Reading.{is_h, to_h, hydrogens_on}
use Rattle.sling.specs.Folded.{heavy_places, folded}
use Rattle.lists.proofs.All.{all_mem}
use Rattle.lists.proofs.Passed.{count-snoc}
use Rattle.sling.proofs.Tidy.{Proper, Tidy}
use Rattle.molecule.proofs.BondLists.{joins-ends}
use Rattle.sling.proofs.Limits.{Room}
use Rattle.table.specs.declared.rows.Rows.{Rows}
use Rattle.table.specs.Changes.{bond_of, RoomFor, BondPut}
use Rattle.table.specs.declared.AtomNo.{AtomNo}
use Rattle.table.specs.declared.Table.{Table}
use Rattle.table.specs.View.{arrays_of, TidyTable}
use Rattle.table.proofs.Joins.{Joinable, Joined, rowed, bond-roomy, bond-joins}
use Rattle.text.specs.declared.state.State.{State}
use Rattle.text.specs.declared.state.TextBond.{TextBond}
use Rattle.lists.proofs.Booleans.{or_neither}
use Rattle.text.specs.Changing.{h_between}
use Rattle.text.specs.Holding as holding
use Rattle.text.specs.Holding.{no_bond, atom_at, bond_at, view_of, Held, h_bond}
use Rattle.text.specs.Folding.{molecule_of, heavies_to, BareTo, number_at}
use Rattle.text.proofs.ReachedLaws.{reached-reader, reached-room}
use Rattle.text.proofs.StateLaws.{view_places, view-kind, view-bonds}
use Rattle.text.proofs.FoldLaws.{heavy}

joins-self : (p q m : ℕ) → joins p q (record { one = p; two = q; code = m }) ≡ true
joins-self p q m = simp (eq-eqb p p refl, eq-eqb q q refl)

count-part : {A : Type 0} (f : A → Bool) (l : List A) (k : ℕ) → count (map f (take k l)) ≤ count (map f l)
count-part f [] zero = omega arith
count-part f [] (suc k) = omega arith
count-part f (x ∷ l) zero = omega arith
count-part f (x ∷ l) (suc k) = omega (arith, count-part f l k)

-- a bond more at the end of a list in which no pair has two
code_in-last : (bs : List Bond) (b : Bond) (p q : ℕ) → count (map (joins p q) (bs ++ (b ∷ []))) ≤ 1 → code_in (bs ++ (b ∷ [])) p q ≡ cond (joins p q b) b.code (code_in bs p q)
code_in-last [] b p q h = refl
code_in-last (x ∷ bs) b p q h = pick (joins p q x) (joins p q b) refl refl (code_in-last bs b p q)
  where
    pick : (y z : Bool) → joins p q x ≡ y → joins p q b ≡ z → (count (map (joins p q) (bs ++ (b ∷ []))) ≤ 1 → code_in (bs ++ (b ∷ [])) p q ≡ cond (joins p q b) b.code (code_in bs p q))
        → code_in (x ∷ (bs ++ (b ∷ []))) p q ≡ cond (joins p q b) b.code (code_in (x ∷ bs) p q)
    pick true true e f ih = absurd (let k = count-snoc (joins p q) bs b in let j = simp f at k in let i = simp e at h in omega arith)
    pick true false e f ih = rw (e, f)
    pick false z e f ih = rw e (ih (let i = simp e at h in omega arith))

-- nothing joins where nothing is counted
code_in-none : (bs : List Bond) (p q : ℕ) → count (map (joins p q) bs) ≡ 0 → code_in bs p q ≡ 0
code_in-none [] p q h = refl
code_in-none (x ∷ bs) p q h = pick (joins p q x) refl (code_in-none bs p q)
  where
    pick : (y : Bool) → joins p q x ≡ y → (count (map (joins p q) bs) ≡ 0 → code_in bs p q ≡ 0) → code_in (x ∷ bs) p q ≡ 0
    pick true e ih = absurd (let i = simp e at h in omega arith)
    pick false e ih = rw e (ih (let i = simp e at h in omega arith))

abbrev nothing : Bond
nothing = record { one = 0; two = 0; code = 0 }

module _ (s : rules.State) where
  abbrev n : ℕ
  n = length s.kinds

  -- the place of an atom, and the number of the atom at a place
  abbrev place : ℕ → ℕ
  place a = get_or (heavies_to s (length s.kinds)) a 0

  abbrev number : ℕ → ℕ
  number x = length (heavies_to s x)

  pub record LinkedTo (k : ℕ) (M : Molecule) : Type 0 where
    pub size : M.size ≡ length (heavies_to s (length s.kinds))
    pub label : (a : ℕ) → a < M.size → M.label a ≡ get_or s.kinds (place a) 0 ∷ hydrogens_on s (place a) ∷ []
    pub code : (a b : ℕ) → a < M.size → b < M.size → M.code a b ≡ code_in (take k s.bonds) (place a) (place b)
    pub degree : (a : ℕ) → a < M.size → length (neighbours M a) ≡ count (map (λ b. on (place a) b && not (to_h s b)) (take k s.bonds))

  pub linked-start : (M : Molecule) → BareTo s (length s.kinds) M → LinkedTo 0 M
  linked-start M B = record { size = B.size; label = B.label; code = B.code; degree = B.none }

  pub linked-end : (M : Molecule) (k : ℕ) → k ≡ length s.bonds → LinkedTo k M → Renumbered (λ a. a) (folded s) M
  unfolding folded heavy_places
  linked-end M k e L =
      record {
        size = L.size;
        shuffle = record { within = λ a h. h; apart = λ a b h j q. q };
        label = λ a h. L.label a (omega (arith, L.size));
        code = λ a b h j. L.code a b (omega (arith, L.size)) (omega (arith, L.size)) ∙ ap (λ (l : List Bond). code_in l (place a) (place b)) (ap (λ (z : ℕ). take z s.bonds) e ∙ take-length s.bonds);
      }

  -- the number of an atom's place is the atom
  number-eq : (x a : ℕ) → x < length s.kinds → is_h s x ≡ false → a < length (heavies_to s (length s.kinds)) → eqb (number x) a ≡ eqb x (place a)
  number-eq x a h e l = pick (eqb x (place a)) refl
    where
      at : (number x < length (heavies_to s (length s.kinds))) × (place (number x) ≡ x)
      at = kept_at (heavy s) (length s.kinds) x h (rw e)

      of : Kept (heavy s) (length s.kinds) a
      of = kept_of (heavy s) (length s.kinds) a l

      pick : (y : Bool) → eqb x (place a) ≡ y → eqb (number x) a ≡ eqb x (place a)
      pick true q = eq-eqb _ _ (ap number (eqb-true _ _ q) ∙ of.order) ∙ sym q
      pick false q = ne_eqb _ _ (λ z. eqb-false _ _ q (sym at.1 ∙ ap place z)) ∙ sym q

  module _ (T : Tidy s.kinds s.bonds) (k : ℕ) (h : k < length s.bonds) where
    abbrev b : Bond
    b = get_or s.bonds k (record { one = 0; two = 0; code = 0 })

    abbrev c : Bond
    c = bond_of (number b.one) (number b.two) b.code

    proper : Proper s.kinds b
    proper = all_mem (Proper s.kinds) s.bonds T.proper b (get_or-mem s.bonds k nothing h)

    one_more : take (k + 1) s.bonds ≡ take k s.bonds ++ (b ∷ [])
    one_more = rw (add-one k) (take-suc s.bonds k nothing h)

    once : (p q : ℕ) → count (map (joins p q) (take k s.bonds ++ (b ∷ []))) ≤ 1
    once p q = rw (← one_more) (omega (arith, count-part (joins p q) s.bonds (k + 1), T.once p q))

    module _ (M : Molecule) (L : LinkedTo k M) where
      inside : (a : ℕ) → a < M.size → a < length (heavies_to s (length s.kinds))
      inside a l = omega (arith, L.size)

      heavy-at : (a : ℕ) → a < M.size → is_h s (place a) ≡ false
      heavy-at a l = not-true _ (kept_of (heavy s) (length s.kinds) a (inside a l)).passes

      -- a bond to an H is between no two atoms
      apart_from : (x y : ℕ) → to_h s b ≡ true → is_h s x ≡ false → is_h s y ≡ false → joins x y b ≡ false
      apart_from x y e f g = pick (joins x y b) refl
        where
          never : {A : Type 0} → (to_h s b ≡ false) → A
          never q = absurd (let z : ◌≡◌ {A = Bool} true false = sym e ∙ q in let w : ◌≡◌ {A = ℕ} 0 1 = cc in omega arith)

          ends : ((b.one ≡ x) × (b.two ≡ y)) ⊎ ((b.one ≡ y) × (b.two ≡ x)) → to_h s b ≡ false
          ends (inl z) = rw (z.0, z.1, f, g)
          ends (inr z) = rw (z.0, z.1, f, g)

          pick : (t : Bool) → joins x y b ≡ t → joins x y b ≡ false
          pick true q = never (ends (joins-ends x y b q))
          pick false q = q

      skipped : (M' : Molecule) → to_h s b ≡ true → M' ≡ M → LinkedTo (k + 1) M'
      skipped M' e q =
          rw q (record {
            size = L.size;
            label = L.label;
            code = λ x y l j.
                L.code x y l j ∙ sym (ap (λ (bs : List Bond). code_in bs (place x) (place y)) one_more ∙ code_in-last (take k s.bonds) b (place x) (place y) (once (place x) (place y))
                ∙ rw (apart_from (place x) (place y) e (heavy-at x l) (heavy-at y j)));
            degree = λ x l.
                L.degree x l ∙ sym (ap (λ (bs : List Bond). count (map (λ d. on (place x) d && not (to_h s d)) bs)) one_more
                ∙ count-snoc (λ d. on (place x) d && not (to_h s d)) (take k s.bonds) b ∙ rw (e, and-false (on (place x) b), add-zero (count (map (λ d. on (place x) d && not (to_h s d)) (take k s.bonds)))));
          })

      module _ (e₁ : is_h s b.one ≡ false) (e₂ : is_h s b.two ≡ false) where
        light : to_h s b ≡ false
        light = rw (e₁, e₂)

        same_joins : (x y : ℕ) → x < M.size → y < M.size → joins x y c ≡ joins (place x) (place y) b
        same_joins x y l j =
            rw (
              number-eq b.one x proper.one e₁ (inside x l),
              number-eq b.two y proper.two e₂ (inside y j),
              number-eq b.one y proper.one e₁ (inside y j),
              number-eq b.two x proper.two e₂ (inside x l),
            )

        same_on : (x : ℕ) → x < M.size → on x c ≡ on (place x) b
        same_on x l = rw (number-eq b.one x proper.one e₁ (inside x l), number-eq b.two x proper.two e₂ (inside x l))

        linked : (M' : Molecule) → Joined M c M' → LinkedTo (k + 1) M'
        linked M' J =
            record {
              size = J.size ∙ L.size;
              label = λ x l. J.label x ∙ L.label x (omega (arith, J.size));
              code = λ x y l j.
                  let u : x < M.size = omega (arith, J.size) in
                  let v : y < M.size = omega (arith, J.size) in
                  J.code x y u v ∙ rw (same_joins x y u v, L.code x y u v)
                  (sym (ap (λ (bs : List Bond). code_in bs (place x) (place y)) one_more ∙ code_in-last (take k s.bonds) b (place x) (place y) (once (place x) (place y))));
              degree = λ x l.
                  let u : x < M.size = omega (arith, J.size) in
                  J.degree x u ∙ rw (same_on x u, L.degree x u)
                  (sym (ap (λ (bs : List Bond). count (map (λ d. on (place x) d && not (to_h s d)) bs)) one_more
                  ∙ count-snoc (λ d. on (place x) d && not (to_h s d)) (take k s.bonds) b ∙ rw (light, and-true (on (place x) b))));
            }

        at_one : (number b.one < length (heavies_to s (length s.kinds))) × (place (number b.one) ≡ b.one)
        at_one = kept_at (heavy s) (length s.kinds) b.one proper.one (rw e₁)

        at-two : (number b.two < length (heavies_to s (length s.kinds))) × (place (number b.two) ≡ b.two)
        at-two = kept_at (heavy s) (length s.kinds) b.two proper.two (rw e₂)

        before : count (map (joins b.one b.two) (take k s.bonds)) ≡ 0
        before =
            let w = once b.one b.two in
            let z = count-snoc (joins b.one b.two) (take k s.bonds) b in
            let y = simp (joins-self b.one b.two b.code) at z in
            omega arith

        room_at : Room s → (x : ℕ) → on x b ≡ true → count (map (λ d. on x d && not (to_h s d)) (take k s.bonds)) < 6
        room_at m x o =
            omega (arith, m.bonds_at x, count-take (λ d. on x d && not (to_h s d)) s.bonds k nothing h (rw (o, light)))

        joinable : Room s → Joinable M c
        joinable m =
            let i : number b.one < M.size = omega (arith, at_one.0, L.size) in
            let j : number b.two < M.size = omega (arith, at-two.0, L.size) in
            let first : M.code (number b.one) (number b.two) ≡ 0 = L.code _ _ i j ∙ rw (at_one.1, at-two.1) (code_in-none (take k s.bonds) b.one b.two before) in
            record {
              one = i;
              two = j;
              apart = λ q. proper.apart (sym at_one.1 ∙ ap place q ∙ at-two.1);
              first = first;
              back = L.code _ _ j i ∙ code_in-swap (take k s.bonds) (place (number b.two)) (place (number b.one)) ∙ sym (L.code _ _ i j) ∙ first;
              room-one = rw (L.degree _ i, at_one.1) (room_at m b.one (rw (eq-eqb b.one b.one refl)));
              room-two = rw (L.degree _ j, at-two.1) (room_at m b.two (rw (eq-eqb b.two b.two refl, or-true)));
              some = proper.mark.0;
              known = proper.mark.1;
            }

      -- what the code asks before a bond, and has after it
      module _ (kx ky x y m : ℕ) (ex : kx ≡ get_or s.kinds b.one 0) (ey : ky ≡ get_or s.kinds b.two 0) (nx : x ≡ number b.one) (ny : y ≡ number b.two) (em : m ≡ b.code) where
        heavy-by : {p q : ℕ} → p ≡ q → (p ≡ 0 → ⊥) → eqb q 0 ≡ false
        heavy-by e z = ne_eqb _ 0 (λ w. z (e ∙ w))

        -- with an H at an end nothing is to be done, else the bond is to be added
        pub link-skip : h_bond kx ky ≡ true → LinkedTo (k + 1) M
        link-skip e = skipped M (ap₂ h_bond (sym ex) (sym ey) ∙ e) refl

        module _ (e : h_bond kx ky ≡ false) where
          e₁ : is_h s b.one ≡ false
          e₁ = ap (λ (j : ℕ). eqb j 0) (sym ex) ∙ (or_neither _ _ e).0

          e₂ : is_h s b.two ≡ false
          e₂ = ap (λ (j : ℕ). eqb j 0) (sym ey) ∙ (or_neither _ _ e).1

          pub link_fits : Room s → Joinable M (bond_of x y m)
          link_fits r = rw (nx, ny, em) (joinable e₁ e₂ r)

          pub link-more : (M' : Molecule) → Joined M (bond_of x y m) M' → LinkedTo (k + 1) M'
          link-more M' J = linked e₁ e₂ M' (subst (λ (d : Bond). Joined M d M') (λ i. bond_of (nx i) (ny i) (em i)) J)

-- a state's bond, with the numbers of its atoms
module _ (st : State) (H : Held st) (k : ℕ) (h : k < st.drawn) (d : TextBond) (ed : d ≡ get_or st.links k no_bond)
    (numbers : List AtomNo) (N : (q : ℕ) → q < st.n → number_at numbers q ≡ length (heavies_to (view_of st) q)) where
  abbrev v : rules.State
  v = view_of st

  abbrev here : Bond
  here = get_or (view_of st).bonds k (record { one = 0; two = 0; code = 0 })

  bond-is : here ≡ holding.bond_of d
  bond-is = get_or-each st.drawn (bond_at st) k (record { one = 0; two = 0; code = 0 }) h ∙ ap holding.bond_of (sym ed)

  tidy-view : Tidy (view_of st).kinds (view_of st).bonds
  tidy-view = (reached-reader (view_of st) H.reached).tidy

  later : k < length (view_of st).bonds
  later = omega (arith, view-bonds st)

  one_is : d.one ≡ here.one
  one_is = ap (λ (e : Bond). e.one) (sym bond-is)

  two_is : d.two ≡ here.two
  two_is = ap (λ (e : Bond). e.two) (sym bond-is)

  pub low-one : d.one < st.n
  low-one = let p = (proper (view_of st) tidy-view k later).one in omega (arith, one_is, view_places st)

  pub low-two : d.two < st.n
  low-two = let p = (proper (view_of st) tidy-view k later).two in omega (arith, two_is, view_places st)

  kind-one : (atom_at st d.one).kind ≡ get_or (view_of st).kinds here.one 0
  kind-one = sym (view-kind st d.one low-one) ∙ ap (λ (p : ℕ). get_or (view_of st).kinds p 0) one_is

  kind-two : (atom_at st d.two).kind ≡ get_or (view_of st).kinds here.two 0
  kind-two = sym (view-kind st d.two low-two) ∙ ap (λ (p : ℕ). get_or (view_of st).kinds p 0) two_is

  number-one : number_at numbers d.one ≡ length (heavies_to (view_of st) here.one)
  number-one = N d.one low-one ∙ ap (λ (p : ℕ). length (heavies_to (view_of st) p)) one_is

  number-two : number_at numbers d.two ≡ length (heavies_to (view_of st) here.two)
  number-two = N d.two low-two ∙ ap (λ (p : ℕ). length (heavies_to (view_of st) p)) two_is

  code_is : d.code ≡ here.code
  code_is = ap (λ (e : Bond). e.code) (sym bond-is)

  module _ (t : Table) (T : TidyTable t) (L : LinkedTo (view_of st) k (molecule_of t)) where
    pub fold-skip : h_between st d.one d.two ≡ true → LinkedTo (view_of st) (k + 1) (molecule_of t)
    fold-skip = link-skip (view_of st) tidy-view k later (molecule_of t) L _ _ _ _ _ kind-one kind-two number-one number-two code_is

    module _ (e : h_between st d.one d.two ≡ false) where
      joins_at : Joinable (molecule_of t) (bond_of (number_at numbers d.one) (number_at numbers d.two) d.code)
      joins_at = link_fits (view_of st) tidy-view k later (molecule_of t) L _ _ _ _ _ kind-one kind-two number-one number-two code_is e (reached-room (view_of st) H.reached)

      pub fold_fits : RoomFor t.rows (number_at numbers d.one) × RoomFor t.rows (number_at numbers d.two) × (number_at numbers d.one ≡ number_at numbers d.two → ⊥)
      fold_fits = bond-roomy (arrays_of t) T (number_at numbers d.one) (number_at numbers d.two) d.code joins_at

      pub fold-more : (R : Rows) → BondPut t.rows (number_at numbers d.one) (number_at numbers d.two) d.code R
          → TidyTable (rowed t R) × LinkedTo (view_of st) (k + 1) (molecule_of (rowed t R))
      fold-more R K =
          let w = bond-joins (arrays_of t) T (number_at numbers d.one) (number_at numbers d.two) d.code joins_at R K in
          (w.0, link-more (view_of st) tidy-view k later (molecule_of t) L _ _ _ _ _ kind-one kind-two number-one number-two code_is e (molecule_of (rowed t R)) w.1)

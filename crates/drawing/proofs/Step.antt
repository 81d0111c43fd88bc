-- One bond more: a hydrogen where an end is an H, a bond of the table where none is.
use mathlib.Core.Bool.{Bool, true, false, cond, ◌&&◌, ◌||◌, or-true, or-false, and-false, and-true, true≢false}
use mathlib.Core.List.{List, [], ◌∷◌, ◌++◌, map}
use mathlib.Core.Logic.{◌≢◌}
use mathlib.Core.Path.{◌≡◌, refl, sym, ◌∙◌, ap, ap₂, subst}
use Prim.Native.Nat.{ℕ, ◌+◌, ◌<◌, ◌≤◌}
use native.Mathlib.Decide.{ℕ_discrete}
use native.Mathlib.Numerals.{add-one}
use native.Mathlib.Omega.{arith}
use lib.Dec.{eqb}
use lib.ListN.{length, get_or, set, take, length-set}
use lib.Seq.{take-suc}
use borrow.Author.Tests.{eq-eqb, ne_eqb}
use Rattle.lists.specs.Tests.{count, some}
use Rattle.lists.proofs.All.{all_snoc}
use Rattle.lists.proofs.Passed.{count-snoc}
use Rattle.lists.proofs.Tested.{some-snoc}
use Rattle.molecule.specs.Bonds.{Bond, on}
use Rattle.molecule.specs.Judged.{bond_judged}
use Rattle.sling.specs.Reading as text
use Rattle.table.specs.declared.Table.{Table}
use Rattle.table.specs.View.{arrays_of}
use Rattle.table.specs.declared.rows.Rows.{Rows}
use Rattle.table.specs.Changes.{bond_of}
use Rattle.table.proofs.Views.{tidy-row}
use Rattle.table.proofs.Joins.{rowed, bond-roomy, bond-joins}
use Rattle.card.proofs.Faults.{rest_stop, rest_next, or_next-some, or_next-none}
use Rattle.card.proofs.Bonded.{Bonded, bonded-counted, bonded-tested, bonded-joinable, bonded-next}
use Rattle.ctfile.specs.Filed.{Drawing}
use Rattle.ctfile.specs.Drawings.{is_h, to_h, as_read, no_bond, bond_fault, bonds_fault}
use Rattle.drawing.specs.Tests.{capped, one_more}
use Rattle.drawing.specs.Folding.{judged_in, Linkable, Unlinked, RowsLinked, changed}
use Rattle.drawing.proofs.Links.{size, place, number, Inside, Heavy, is_h-there, place-number, number-place, same_number, renumbered, heavies, linked, linked-hit, linked-miss, linked-judged}
use Rattle.drawing.proofs.Ends.{tested, ends-judged, ends-inside, ends-other}
use Rattle.drawing.proofs.FoldLaws.{counted-more, marked_more, hydrogen_of, fault_at, FoldedTo}

module _ (d : Drawing) (t : Table) (marks : List Bool) (k : ℕ) (F : FoldedTo d t marks k) (h : k < length d.bonds)
    (kinds : List ℕ) (K : (p : ℕ) → p < length d.kinds → get_or kinds p 0 ≡ get_or d.kinds p 25)
    (i j code : ℕ) (same : get_or d.bonds k no_bond ≡ bond_of i j code) where
  abbrev b : Bond
  b = bond_of i j code

  abbrev bs : List Bond
  bs = take k d.bonds

  abbrev pub ends : ℕ
  ends = tested d (take k d.bonds) kinds marks K F.used (bond_of i j code)

  one_bond_more : take (k + 1) d.bonds ≡ bs ++ (b ∷ [])
  one_bond_more = rw (add-one k) (take-suc d.bonds k no_bond h ∙ ap (λ (x : Bond). bs ++ (x ∷ [])) same)

  fault_here : fault_at d k ≡ bond_fault d bs b
  fault_here = ap (bond_fault d bs) same

  pub step_absent : ends ≢ 0 → ends ≡ bonds_fault d
  step_absent z =
      let e : fault_at d k ≡ ends = fault_here ∙ ends-judged d bs kinds marks K F.used b ∙ or_next-some ends _ z in
      sym (F.rest ∙ rest_stop (fault_at d) (length d.bonds) k h (λ q. z (sym e ∙ q)) ∙ e)

  module _ (z : ends ≡ 0) where
    I : Inside d b
    I = ends-inside d bs kinds marks K F.used b z

    pub step_inside : (i < length d.kinds) × (j < length d.kinds)
    step_inside = I

    fault_is : fault_at d k ≡ cond (to_h d b) 0 (bond_judged (length d.kinds) (heavies d bs) b)
    fault_is = fault_here ∙ ends-judged d bs kinds marks K F.used b ∙ or_next-none ends _ z

    -- whether an end is an H, by its kind
    h_one : (p : Bool) → eqb (get_or kinds i 0) 0 ≡ p → is_h d i ≡ p
    h_one p e = sym (ap (λ (x : ℕ). eqb x 0) (K i I.0)) ∙ e

    h_two : (p : Bool) → eqb (get_or kinds j 0) 0 ≡ p → is_h d j ≡ p
    h_two p e = sym (ap (λ (x : ℕ). eqb x 0) (K j I.1)) ∙ e

    heavy-two : get_or kinds i 0 ≡ 0 → Heavy d j
    heavy-two e = record { there = I.1; other = ends-other d bs kinds marks K F.used b z (h_one true (eq-eqb _ _ e)) }

    heavy-one : get_or kinds j 0 ≡ 0 → Heavy d i
    heavy-one e = record { there = I.0; other = go (is_h d i) refl }
      where
        go : (p : Bool) → is_h d i ≡ p → is_h d i ≡ false
        go true q = absurd (true≢false (sym (h_two true (eq-eqb _ _ e)) ∙ ends-other d bs kinds marks K F.used b z q))
        go false q = q

    few : size d ≤ 64
    few = omega (arith, F.rows.size, F.rows.tidy.atoms)

    module _ (x y : ℕ) (ex : x ≡ number d i) (ey : y ≡ number d j) where
      abbrev c : Bond
      c = bond_of x y code

      c_is : c ≡ renumbered d b
      c_is = λ l. bond_of (ex l) (ey l) code

      tested_is : judged_in t.n t.rows c ≡ bond_judged (size d) (linked d bs) c
      tested_is = ap (λ (n : ℕ). judged_in n t.rows c) F.rows.size ∙ bonded-tested (size d) (linked d bs) t F.rows c

      pub step_linkable : Linkable t (get_or kinds i 0) (get_or kinds j 0) c
      step_linkable = record {
        rows = λ a l. tidy-row (arrays_of t) F.rows.tidy a l;
        one = λ e. omega (arith, ey, few, (place-number d j (heavy-two e)).0);
        two = λ e. omega (arith, ex, few, (place-number d i (heavy-one e)).0);
        bond = λ q. bond-roomy (arrays_of t) F.rows.tidy x y code (bonded-joinable (size d) (linked d bs) t F.rows c (sym tested_is ∙ q));
      }

      module _ (r : ℕ) (R : Rows) (hs : List ℕ) (P : RowsLinked t.n t.rows t.hydrogens (get_or kinds i 0) (get_or kinds j 0) c r R hs) where
        -- what the rest is, where the rows and the hydrogens have been changed
        folded-next : fault_at d k ≡ 0 → Bonded (size d) (linked d (bs ++ (b ∷ []))) (changed t R hs)
            → ((a : ℕ) → a < size d → get_or hs a 0 ≡ capped (count (map (hydrogen_of d (place d a)) (bs ++ (b ∷ [])))))
            → FoldedTo d (changed t R hs) (set (set marks i true) j true) (k + 1)
        folded-next e B H = record {
          few = omega arith;
          atoms = F.atoms;
          rows = rw one_bond_more B;
          kinds = F.kinds;
          hydrogens = λ a l. rw one_bond_more (H a l);
          ends = rw one_bond_more (all_snoc (Inside d) bs b F.ends I);
          long = length-set (set marks i true) j true ∙ length-set marks i true ∙ F.long;
          used = λ p l. rw one_bond_more (marks-are p l);
          rest = F.rest ∙ rest_next (fault_at d) (length d.bonds) k h e;
        }
          where
            marks-are : (p : ℕ) → p < length d.kinds → get_or (set (set marks i true) j true) p false ≡ some (map (on p) (bs ++ (b ∷ [])))
            marks-are p l =
                marked_more marks i j p (some (map (on p) bs)) (omega (arith, F.long, I.0, F.atoms)) (omega (arith, F.long, I.1, F.atoms)) (F.used p l)
                ∙ sym (some-snoc (on p) bs b)

        fault_none : to_h d b ≡ true → fault_at d k ≡ 0
        fault_none e = fault_is ∙ ap (λ (p : Bool). cond p 0 (bond_judged (length d.kinds) (heavies d bs) b)) e

        to-h : text.to_h (as_read d) b ≡ to_h d b
        to-h = ap₂ ◌||◌ (sym (is_h-there d i I.0)) (sym (is_h-there d j I.1))

        hydrogens-next : (a : ℕ) → count (map (hydrogen_of d (place d a)) (bs ++ (b ∷ []))) ≡ count (map (hydrogen_of d (place d a)) bs) + cond (on (place d a) b && to_h d b) 1 0
        hydrogens-next a =
            count-snoc (hydrogen_of d (place d a)) bs b ∙ ap (λ (p : Bool). count (map (hydrogen_of d (place d a)) bs) + cond (on (place d a) b && p) 1 0) to-h

        -- a bond to an H, q its other end
        module _ (q v : ℕ) (Q : Heavy d q) (ev : v ≡ number d q) (e : to_h d b ≡ true) (only : (p : ℕ) → Heavy d p → on p b ≡ eqb q p)
            (U : Unlinked t.rows t.hydrogens v r R hs) where
          counted-here : (a : ℕ) → a < size d → (on (place d a) b && to_h d b) ≡ eqb v a
          counted-here a l =
              let N = number-place d a l in
              rw (e, and-true (on (place d a) b)) (only (place d a) N.0 ∙ sym (same_number d q (place d a) Q N.0) ∙ ap₂ eqb (sym ev) N.1)

          unlinked_next : FoldedTo d (changed t R hs) (set (set marks i true) j true) (k + 1)
          unlinked_next =
              folded-next (fault_none e)
              (subst (λ (S : Rows). Bonded (size d) (linked d (bs ++ (b ∷ []))) (changed t S hs)) (sym U.rows)
              (rw (linked-miss d bs b e) (bonded-counted (size d) (linked d bs) t F.rows hs (ap length U.hydrogens ∙ length-set t.hydrogens v (one_more (get_or t.hydrogens v 0)) ∙ F.rows.tidy.hydrogens_long))))
              (λ a l.
              ap (λ (g : List ℕ). get_or g a 0) U.hydrogens
              ∙ counted-more t.hydrogens v a (count (map (hydrogen_of d (place d a)) bs)) (omega (arith, ev, few, (place-number d q Q).0, F.rows.tidy.hydrogens_long)) (F.hydrogens a l)
              ∙ ap capped (ap (λ (p : Bool). count (map (hydrogen_of d (place d a)) bs) + cond p 1 0) (sym (counted-here a l)) ∙ sym (hydrogens-next a)))

        only_two : get_or kinds i 0 ≡ 0 → (p : ℕ) → Heavy d p → on p b ≡ eqb j p
        only_two e p X = ap (λ (s : Bool). s || eqb j p) (ne_eqb i p (λ w. true≢false (sym (h_one true (eq-eqb _ _ e)) ∙ ap (is_h d) w ∙ X.other)))

        only_one : get_or kinds j 0 ≡ 0 → (p : ℕ) → Heavy d p → on p b ≡ eqb i p
        only_one e p X =
            ap (λ (s : Bool). eqb i p || s) (ne_eqb j p (λ w. true≢false (sym (h_two true (eq-eqb _ _ e)) ∙ ap (is_h d) w ∙ X.other))) ∙ or-false (eqb i p)

        to_one : get_or kinds i 0 ≡ 0 → to_h d b ≡ true
        to_one e = ap (λ (s : Bool). s || is_h d j) (h_one true (eq-eqb _ _ e))

        to-two : get_or kinds j 0 ≡ 0 → to_h d b ≡ true
        to-two e = ap (λ (s : Bool). is_h d i || s) (h_two true (eq-eqb _ _ e)) ∙ or-true (is_h d i)

        -- a bond without an H end
        module _ (u : get_or kinds i 0 ≢ 0) (w : get_or kinds j 0 ≢ 0) where
          to_none : to_h d b ≡ false
          to_none = ap₂ ◌||◌ (h_one false (ne_eqb _ _ u)) (h_two false (ne_eqb _ _ w))

          judged : bond_judged (size d) (linked d bs) c ≡ fault_at d k
          judged =
              ap (bond_judged (size d) (linked d bs)) c_is ∙ linked-judged d bs b F.ends I to_none
              ∙ sym (fault_is ∙ ap (λ (p : Bool). cond p 0 (bond_judged (length d.kinds) (heavies d bs) b)) to_none)

          linked-fault : r ≡ fault_at d k
          linked-fault = P.judged u w ∙ tested_is ∙ judged

          linked-next : r ≡ 0 → FoldedTo d (changed t R hs) (set (set marks i true) j true) (k + 1)
          linked-next e =
              let passes = judged ∙ sym linked-fault ∙ e in
              let J = bonded-joinable (size d) (linked d bs) t F.rows c passes in
              let put = P.bond u w e in
              let more = bond-joins (arrays_of t) F.rows.tidy x y code J R put.0 in
              folded-next (sym linked-fault ∙ e)
              (subst (λ (l : List Bond). Bonded (size d) l (changed t R hs)) (ap (λ (m : Bond). linked d bs ++ (m ∷ [])) c_is ∙ sym (linked-hit d bs b to_none))
              (subst (λ (g : List ℕ). Bonded (size d) (linked d bs ++ (c ∷ [])) (changed t R g)) (sym put.1)
              (bonded-next (size d) (linked d bs) t F.rows c passes (rowed t R) more.0 more.1)))
              (λ a l.
              let n : count (map (hydrogen_of d (place d a)) bs) ≡ count (map (hydrogen_of d (place d a)) bs) + 0 = omega arith in
              ap (λ (g : List ℕ). get_or g a 0) put.1 ∙ F.hydrogens a l
              ∙ ap capped (n ∙ ap (λ (p : Bool). count (map (hydrogen_of d (place d a)) bs) + cond p 1 0) (sym (ap (λ (p : Bool). on (place d a) b && p) to_none ∙ and-false (on (place d a) b))) ∙ sym (hydrogens-next a)))

        fault_by : Dec (get_or kinds i 0 ≡ 0) → Dec (get_or kinds j 0 ≡ 0) → r ≡ fault_at d k
        fault_by (yes e) f = (P.one e).none ∙ sym (fault_none (to_one e))
        fault_by (no e) (yes f) = (P.two e f).none ∙ sym (fault_none (to-two f))
        fault_by (no e) (no f) = linked-fault e f

        step_fault : r ≡ fault_at d k
        step_fault = fault_by (ℕ_discrete (get_or kinds i 0) 0) (ℕ_discrete (get_or kinds j 0) 0)

        pub step_wrong : r ≢ 0 → r ≡ bonds_fault d
        step_wrong n = step_fault ∙ sym (F.rest ∙ rest_stop (fault_at d) (length d.bonds) k h (λ q. n (step_fault ∙ q)))

        next-by : r ≡ 0 → Dec (get_or kinds i 0 ≡ 0) → Dec (get_or kinds j 0 ≡ 0) → FoldedTo d (changed t R hs) (set (set marks i true) j true) (k + 1)
        next-by n (yes e) f = unlinked_next j y (heavy-two e) ey (to_one e) (only_two e) (P.one e)
        next-by n (no e) (yes f) = unlinked_next i x (heavy-one f) ex (to-two f) (only_one f) (P.two e f)
        next-by n (no e) (no f) = linked-next e f n

        pub step_next : r ≡ 0 → FoldedTo d (changed t R hs) (set (set marks i true) j true) (k + 1)
        step_next n = next-by n (ℕ_discrete (get_or kinds i 0) 0) (ℕ_discrete (get_or kinds j 0) 0)

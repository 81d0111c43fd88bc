-- An item judged by its counts: one law for each answer of the code, and that this is the rules' judgement.
use Prim.Native.Nat.{ℕ, suc, ◌+◌, ◌≤◌, ◌<◌}
use mathlib.Core.Path.{◌≡◌, refl, sym, ap, ap₂, ◌∙◌}
use mathlib.Core.List.{List, [], ◌∷◌, map}
use mathlib.Core.Bool.{Bool, true, false, cond, not, ◌||◌}
use native.Mathlib.Omega.{arith}
use lib.ListN.{length, get_or, take}
use mir.Val.{bool_byte}
use Rattle.std.specs.Prelude.{Result, Err}
use Rattle.std.specs.List.{list_any}
use Rattle.lists.proofs.Upto.{each_take, map_each}
use lib.Dec.{eqb, ltb, leb}
use borrow.Author.Tests.{ne_eqb, le-leb, lt-leb, leb-true, leb-false}
use Rattle.lists.specs.Tests.{some}
use Rattle.molecule.specs.Bonds.{joins}
use Rattle.refusal.specs.declared.Refusal.{Refusal}
use Rattle.refusal.specs.Numbers.{number_of}
use Rattle.sling.specs.Items.{Target, at, Item, atom, reference, ring}
use Rattle.sling.specs.Reading as rules
use Rattle.sling.specs.Reading.{place_of}
use Rattle.sling.specs.Faults.{item_fault}
use Rattle.text.specs.declared.item.Step.{Step}
use Rattle.text.specs.declared.state.TextAtom.{TextAtom}
use Rattle.text.specs.declared.state.TextBond.{TextBond}
use Rattle.text.specs.declared.state.State.{State}
use Rattle.text.specs.Holding.{no_bond, atom_at, bond_of, bond_at, view_of, Held, bit, h_bit}
use Rattle.text.specs.Changing.{fresh, Climbable}
use Rattle.text.specs.Judging.{wrong_h, paired_in, over_with, Few, counts_of, atom_fault, ring_fault, reference_fault, Judges}
use Rattle.text.proofs.ReachedLaws.{reached-reader, reached-room}
use Rattle.text.proofs.StateLaws.{view_places, view-kind}
use Rattle.refusal.proofs.Numbers.{number_of-positive}
use Rattle.text.proofs.FaultLaws.{atom-fault, ring-fault, reference-fault, ring-named, reference-named}

-- a refusal has a number, so that a test that led to one holds, and one that led to none does not
fault_is : (q : Refusal) (b : Bool) (n : ℕ) → number_of q ≡ cond b n 0 → (b ≡ true) × (number_of q ≡ n)
fault_is q true n e = (refl, e)
fault_is q false n e = absurd (omega (arith, number_of-positive q))

-- no fault
abbrev pub NoFault : ℕ → Type 0
NoFault n = 0 ≡ n

clear_is : (b : Bool) (n : ℕ) → NoFault (cond b (suc n) 0) → b ≡ false
clear_is true n e = absurd (omega arith)
clear_is false n e = refl

stops : (s : rules.State) (i : Item) (r : Result Step Refusal) (q : Refusal) → r ≡ Err q → number_of q ≡ item_fault s i → Judges s i r
stops s i r q e n = rw e (record { refusal = n; step = tt })

-- a test as a number
byte-bit : (b : Bool) → bool_byte b ≡ bit b
byte-bit true = refl
byte-bit false = refl

pub counted : (x : ℕ) (b c : Bool) → b ≡ c → x + bool_byte b ≡ x + bit c
counted x b c e = ap (λ (y : ℕ). x + y) (byte-bit b ∙ ap bit e)

pub byte-small : (b : Bool) → bool_byte b ≤ 1
byte-small true = omega arith
byte-small false = omega arith

-- the bonds drawn, as the rules have them
some-any : {X : Type 0} (f : X → Bool) (l : List X) → list_any f l ≡ some (map f l)
unfolding some
some-any f [] = refl
some-any f (x ∷ l) = ap (λ (b : Bool). f x || b) (some-any f l)

paired-is : (st : State) → st.drawn ≤ length st.links → (p : ℕ) → paired_in st p ≡ some (map (joins st.cursor.0 p) (view_of st).bonds)
paired-is st room p =
    some-any (λ (b : TextBond). joins st.cursor.0 p (bond_of b)) (take st.drawn st.links)
    ∙ ap some (ap (map (λ (b : TextBond). joins st.cursor.0 p (bond_of b))) (sym (each_take st.links st.drawn no_bond room))
    ∙ map_each (λ (b : TextBond). joins st.cursor.0 p (bond_of b)) st.drawn (λ k. get_or st.links k no_bond) ∙ sym (map_each (joins st.cursor.0 p) st.drawn (bond_at st)))

-- what an atom more and a bond more ask of the counts
pub record Ready (st : State) : Type 0 where
  pub from : st.cursor.0 < st.n
  pub places : st.n ≤ 192
  pub atoms : st.atoms ≤ 64
  pub total : st.total ≤ 128
  pub bonds : st.bonds ≤ 80
  pub few-h : (p : ℕ) → p < 192 → (atom_at st p).hydrogens ≤ 4
  pub few : (p : ℕ) → p < 192 → (atom_at st p).bonds ≤ 6

module _ (st : State) (H : Held st) (some-atom : 0 < st.n) where
  pub ready : Ready st
  ready =
      let t = H.tallied in
      let m = reached-room (view_of st) H.reached in
      record {
        from = let e = view_places st in let c = (reached-reader (view_of st) H.reached).cursor (omega arith) in omega arith;
        places = t.places;
        atoms = omega (arith, m.atoms, t.heavy_atoms);
        total = omega (arith, m.hydrogens, t.hydrogen_atoms);
        bonds = omega (arith, m.bonds, t.heavy_bonds);
        few-h = λ p l. omega (arith, t.hydrogens_on p l, m.hydrogens_at p);
        few = λ p l. omega (arith, t.bonds_on p l, m.bonds_at p);
      }

  pub climbable : Climbable st
  climbable = record { long = H.tallied.placed_long; from = ready.from; places = H.tallied.places; attached = H.tallied.attached }

  there_is : 0 < length (view_of st).kinds
  there_is = omega (arith, view_places st)

  low : st.cursor.0 < 192
  low = omega (arith, ready.from, ready.places)

  -- an item is followed as the one that names its place
  pub some-places : eqb (length (view_of st).kinds) 0 ≡ false
  some-places = ne_eqb _ _ (λ z. omega (arith, there_is))

  pub few-at : (p : ℕ) → p < 192 → (c : TextAtom) → c ≡ atom_at st p → Few c
  few-at p l c e = rw e (omega (arith, ready.few-h p l), ready.few p l)

  pub atom-judged : (m k u : ℕ) → atom_fault m (atom_at st st.cursor.0) (fresh k u) (counts_of st) ≡ item_fault (view_of st) (atom m k)
  atom-judged m k u =
      let t = H.tallied in
      atom-fault (view_of st) (reached-reader (view_of st) H.reached) there_is m k (atom_at st st.cursor.0) (fresh k u) (counts_of st)
      (sym (view-kind st st.cursor.0 ready.from)) (t.hydrogens_on st.cursor.0 low) (t.bonds_on st.cursor.0 low) refl refl refl t.heavy_atoms t.hydrogen_atoms t.heavy_bonds

  -- a new atom of a kind j, the number k of its symbol
  module _ (m k j u : ℕ) (ek : k ≡ j) (known : NoFault (cond (ltb 24 k) 3 0)) (c d : TextAtom) (ec : c ≡ atom_at st st.cursor.0) (ed : d ≡ fresh j u) where
    same_new : d ≡ fresh k u
    same_new = ed ∙ ap (λ (x : ℕ). fresh x u) (sym ek)

    same_h : wrong_h c d m ≡ wrong_h (atom_at st st.cursor.0) (fresh k u) m
    same_h = ap₂ (λ (x y : TextAtom). wrong_h x y m) ec same_new

    pub atom-7 : (r : Result Step Refusal) (q : Refusal) → r ≡ Err q → number_of q ≡ cond (wrong_h c d m) 7 0 → Judges (view_of st) (atom m k) r
    atom-7 r q e n =
        let w = fault_is q _ 7 n in
        stops _ _ r q e (w.1 ∙ sym (rw (clear_is _ 2 known, sym same_h ∙ w.0)) ∙ atom-judged m k u)

    module _ (h : NoFault (cond (wrong_h c d m) 7 0)) (a b : ℕ) (ea : a ≡ st.atoms + bit (not (h_bit j))) (eb : b ≡ st.total + bit (h_bit j)) where
      plain : wrong_h (atom_at st st.cursor.0) (fresh k u) m ≡ false
      plain = sym same_h ∙ clear_is _ 6 h

      same_limits : over_with a b st.bonds c d ≡ over_with (st.atoms + bit (not (h_bit k))) (st.total + bit (h_bit k)) st.bonds (atom_at st st.cursor.0) (fresh k u)
      same_limits = rw (ea, eb, ec, ed, ek)

      pub atom-4 : (r : Result Step Refusal) (q : Refusal) → r ≡ Err q → number_of q ≡ cond (over_with a b st.bonds c d) 4 0 → Judges (view_of st) (atom m k) r
      atom-4 r q e n =
          let o = fault_is q _ 4 n in
          stops _ _ r q e (o.1 ∙ sym (rw (clear_is _ 2 known, plain, sym same_limits ∙ o.0)) ∙ atom-judged m k u)

      pub atom-0 : NoFault (cond (over_with a b st.bonds c d) 4 0) → 0 ≡ item_fault (view_of st) (atom m k)
      atom-0 n = sym (rw (clear_is _ 2 known, plain, sym same_limits ∙ clear_is _ 3 n)) ∙ atom-judged m k u

  -- a symbol that is none
  pub atom-3 : (m k : ℕ) (r : Result Step Refusal) (q : Refusal) → r ≡ Err q → number_of q ≡ cond (ltb 24 k) 3 0 → Judges (view_of st) (atom m k) r
  atom-3 m k r q e n =
      let w = fault_is q _ 3 n in
      stops _ _ r q e (w.1 ∙ sym (rw w.0) ∙ atom-judged m k 0)

  module _ (t : Target) (p : ℕ) (named : p ≡ place_of (view_of st) t) where
    pub reference-judged : reference_fault st.n p ≡ item_fault (view_of st) (reference t)
    reference-judged =
        ap (λ (n : ℕ). reference_fault n p) (sym (view_places st))
        ∙ reference-fault (view_of st) (reached-reader (view_of st) H.reached) there_is (reached-room (view_of st) H.reached) p
        ∙ ap (λ (x : ℕ). item_fault (view_of st) (reference (at x))) named ∙ reference-named (view_of st) t

    pub reference-5 : (r : Result Step Refusal) (q : Refusal) → r ≡ Err q → number_of q ≡ reference_fault st.n p → Judges (view_of st) (reference t) r
    reference-5 r q e n = stops _ _ r q e (n ∙ reference-judged)

    pub reference-0 : 0 ≡ reference_fault st.n p → 0 ≡ item_fault (view_of st) (reference t)
    reference-0 n = n ∙ reference-judged

    -- a ring bond
    module _ (m : ℕ) where
      to-place : item_fault (view_of st) (ring m (at p)) ≡ item_fault (view_of st) (ring m t)
      to-place = ap (λ (x : ℕ). item_fault (view_of st) (ring m (at x))) named ∙ ring-named (view_of st) m t

      -- where the place is not there, nothing else is looked at
      pub ring-5 : (r : Result Step Refusal) (q : Refusal) → r ≡ Err q → number_of q ≡ reference_fault st.n p → Judges (view_of st) (ring m t) r
      unfolding item_fault
      ring-5 r q e n =
          let w = fault_is q _ 5 n in
          let l : length (view_of st).kinds ≤ p = omega (arith, view_places st, leb-true _ _ w.0) in
          stops _ _ r q e (w.1 ∙ sym (rw (some-places, le-leb _ _ l)) ∙ to-place)

      pub ring-judged : ring_fault m p (atom_at st st.cursor.0) (atom_at st p) (counts_of st) (paired_in st p) ≡ item_fault (view_of st) (ring m t)
      unfolding item_fault
      ring-judged = pick (leb st.n p) refl ∙ to-place
        where
          pick : (b : Bool) → leb st.n p ≡ b → ring_fault m p (atom_at st st.cursor.0) (atom_at st p) (counts_of st) (paired_in st p) ≡ item_fault (view_of st) (ring m (at p))
          pick true q =
              let l : length (view_of st).kinds ≤ p = omega (arith, view_places st, leb-true st.n p q) in
              rw q (sym (rw (some-places, le-leb _ _ l)))
          pick false q =
              let t = H.tallied in
              let there : p < st.n = leb-false st.n p q in
              let fit : p < 192 = omega (arith, ready.places, there) in
              ring-fault (view_of st) (reached-reader (view_of st) H.reached) there_is m p (atom_at st st.cursor.0) (atom_at st p) (counts_of st) (paired_in st p)
              (sym (view_places st)) refl (sym (view-kind st st.cursor.0 ready.from)) (sym (view-kind st p there))
              (t.hydrogens_on st.cursor.0 low) (t.hydrogens_on p fit) (t.bonds_on st.cursor.0 low) (t.bonds_on p fit)
              t.heavy_atoms t.hydrogen_atoms t.heavy_bonds (paired-is st (omega (arith, t.drawn, t.links_long)) p)

      module _ (found : 0 ≡ reference_fault st.n p) where
        pub there : p < st.n
        there = leb-false _ _ (clear_is _ 4 found)

        module _ (c d : TextAtom) (ec : c ≡ atom_at st st.cursor.0) (ed : d ≡ atom_at st p) where
          abbrev pair : Bool
          pair = paired_in st p

          ring-given : ring_fault m p c d (counts_of st) pair ≡ item_fault (view_of st) (ring m t)
          ring-given = ap₂ (λ (x y : TextAtom). ring_fault m p x y (counts_of st) pair) ec ed ∙ ring-judged

          pub ring-7 : (r : Result Step Refusal) (q : Refusal) → r ≡ Err q → number_of q ≡ cond (wrong_h c d m) 7 0 → Judges (view_of st) (ring m t) r
          ring-7 r q e n = let w = fault_is q _ 7 n in stops _ _ r q e (w.1 ∙ sym (rw (lt-leb st.n p there, w.0)) ∙ ring-given)

          module _ (h : NoFault (cond (wrong_h c d m) 7 0)) where
            pub ring-6 : (r : Result Step Refusal) (q : Refusal) → r ≡ Err q → number_of q ≡ cond (eqb st.cursor.0 p || pair) 6 0 → Judges (view_of st) (ring m t) r
            ring-6 r q e n = let w = fault_is q _ 6 n in stops _ _ r q e (w.1 ∙ sym (rw (lt-leb st.n p there, clear_is _ 6 h, w.0)) ∙ ring-given)

            module _ (o : NoFault (cond (eqb st.cursor.0 p || pair) 6 0)) where
              pub ring-4 : (r : Result Step Refusal) (q : Refusal) → r ≡ Err q → number_of q ≡ cond (over_with st.atoms st.total st.bonds c d) 4 0 → Judges (view_of st) (ring m t) r
              ring-4 r q e n =
                  let w = fault_is q _ 4 n in stops _ _ r q e (w.1 ∙ sym (rw (lt-leb st.n p there, clear_is _ 6 h, clear_is _ 5 o, w.0)) ∙ ring-given)

              pub ring-0 : NoFault (cond (over_with st.atoms st.total st.bonds c d) 4 0) → 0 ≡ item_fault (view_of st) (ring m t)
              ring-0 n = sym (rw (lt-leb st.n p there, clear_is _ 6 h, clear_is _ 5 o, clear_is _ 3 n)) ∙ ring-given

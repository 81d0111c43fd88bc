-- The changes of a state, in the rules' terms.
use Prim.Native.Nat.{ℕ, zero, suc, ◌+◌, ◌-◌, ◌≤◌, ◌<◌}
use mathlib.Core.Path.{◌≡◌, refl, sym, ap, ap₂, ◌∙◌}
use mathlib.Core.List.{List, [], ◌∷◌, ◌++◌, map}
use mathlib.Core.Bool.{Bool, true, false, cond, not, ◌&&◌, ◌||◌, and-true, and-false}
use native.Mathlib.Decide.{ℕ_discrete}
use native.Mathlib.Nat.{add-zero}
use native.Mathlib.Numerals.{add-one}
use native.Mathlib.Omega.{arith}
use lib.ListN.{length, get_or, length-set, replicate, length-replicate, get_or-append}
use lib.Seq.{get_or-set_same, get_or-set_other}
use lib.Dec.{eqb}
use borrow.Author.Tests.{eqb-true, eq-eqb, ne_eqb}
use Rattle.lists.specs.Upto.{each}
use Rattle.lists.specs.Tests.{count}
use Rattle.lists.proofs.Upto.{each-eq, length-each, get_or-each}
use Rattle.lists.proofs.Steps.{each-zero, each_next}
use Rattle.molecule.specs.Bonds.{Bond, on}
use Rattle.sling.specs.Reading as rules
use Rattle.sling.specs.Reading.{to_h, drawn, hydrogens_on, bonds_on}
use Rattle.sling.specs.Faults.{heavy_atoms, hydrogen_atoms, heavy_bonds}
use Rattle.sling.specs.Folded.{lone_h}
use Rattle.lists.proofs.All.{map-all, count-all_none}
use Rattle.lists.proofs.Passed.{count-snoc}
use Rattle.sling.proofs.Tidy.{Reader, Proper}
use Rattle.text.specs.declared.item.Place.{Place}
use Rattle.text.specs.declared.state.TextAtom.{TextAtom}
use Rattle.text.specs.declared.state.TextBond.{TextBond}
use Rattle.text.specs.declared.state.State.{State}
use Rattle.text.specs.Holding.{no_atom, no_bond, atom_at, bond_of, bond_at, view_of, Tallied, Held, bit, grown_by, moved_to, bonded_by, Drawable}
use Rattle.text.specs.Changing.{moved, fresh, grown, raised, raised_at, h_between, bonded}
use Rattle.text.proofs.ReachedLaws.{reached-start, reached-reader}

state_eq : {k k' u u' : List ℕ} {b b' : List Bond} {c c' : ℕ} → k ≡ k' → u ≡ u' → b ≡ b' → c ≡ c'
    → ◌≡◌ {A = rules.State} (record { kinds = k; ups = u; bonds = b; cursor = c }) (record { kinds = k'; ups = u'; bonds = b'; cursor = c' })
state_eq p q r s = λ i. record { kinds = p i; ups = q i; bonds = r i; cursor = s i }

-- what is said of each place below n, and of one more
each_more : {A : Type 0} (n : ℕ) (f f' : ℕ → A) (x : A) → ((p : ℕ) → p < n → f' p ≡ f p) → f' n ≡ x → each (n + 1) f' ≡ each n f ++ (x ∷ [])
each_more {A} n f f' x e q =
    ap (λ (m : ℕ). each m f') (add-one n) ∙ each_next n f' ∙ ap₂ (λ (l : List A) (y : A). l ++ (y ∷ [])) (each-eq n f' f e) q

pub view_places : (st : State) → length (view_of st).kinds ≡ st.n
view_places st = length-each st.n (λ p. (atom_at st p).kind)

pub view-kind : (st : State) (p : ℕ) → p < st.n → get_or (view_of st).kinds p 0 ≡ (atom_at st p).kind
view-kind st p h = get_or-each st.n (λ p. (atom_at st p).kind) p 0 h

pub view-up : (st : State) (p : ℕ) → p < st.n → get_or (view_of st).ups p 0 ≡ (atom_at st p).up
view-up st p h = get_or-each st.n (λ p. (atom_at st p).up) p 0 h

pub view-bonds : (st : State) → length (view_of st).bonds ≡ st.drawn
view-bonds st = length-each st.drawn (bond_at st)

-- a new atom has no bonds yet, and the bonds that there are do not see it
module _ (s : rules.State) (r : Reader s) where
  pub none-at : (f : Bond → Bool) → count (map (λ b. on (length s.kinds) b && f b) s.bonds) ≡ 0
  none-at f =
      count-all_none (λ b. on (length s.kinds) b && f b)
      (λ b x. rw (ne_eqb b.one (length s.kinds) (λ e. omega (arith, x.one)), ne_eqb b.two (length s.kinds) (λ e. omega (arith, x.two)))) s.bonds r.tidy.proper

  module _ (k : ℕ) where
    pub grown_to_h : (b : Bond) → Proper s.kinds b → to_h (grown_by s k) b ≡ to_h s b
    grown_to_h b g = rw (get_or-append s.kinds (k ∷ []) 0 b.one g.one, get_or-append s.kinds (k ∷ []) 0 b.two g.two)

    pub grown_hydrogens_on : (p : ℕ) → hydrogens_on (grown_by s k) p ≡ hydrogens_on s p
    grown_hydrogens_on p = ap count (map-all _ _ (λ b g. ap (λ (x : Bool). on p b && x) (grown_to_h b g)) s.bonds r.tidy.proper)

    pub grown_bonds_on : (p : ℕ) → bonds_on (grown_by s k) p ≡ bonds_on s p
    grown_bonds_on p = ap count (map-all _ _ (λ b g. ap (λ (x : Bool). on p b && not x) (grown_to_h b g)) s.bonds r.tidy.proper)

    pub grown_heavy_bonds : heavy_bonds (grown_by s k) ≡ heavy_bonds s
    grown_heavy_bonds = ap count (map-all _ _ (λ b g. ap not (grown_to_h b g)) s.bonds r.tidy.proper)

pub bit_not : (b : Bool) → bit (not b) + bit b ≡ 1
bit_not true = refl
bit_not false = refl

module _ (st : State) (k : ℕ) (H : Held st) (room : st.n < 192) where
  t : Tallied st
  t = H.tallied

  r : Reader (view_of st)
  r = reached-reader (view_of st) H.reached

  last : atom_at (grown k st) st.n ≡ fresh k st.cursor.0
  last = get_or-set_same st.placed st.n (fresh k st.cursor.0) no_atom (omega (arith, t.placed_long))

  old : (p : ℕ) → (p ≡ st.n → ⊥) → atom_at (grown k st) p ≡ atom_at st p
  old p n = get_or-set_other st.placed st.n p (fresh k st.cursor.0) no_atom n

  grown_view : view_of (grown k st) ≡ grown_by (view_of st) k
  grown_view =
      state_eq (each_more st.n (λ p. (atom_at st p).kind) (λ p. (atom_at (grown k st) p).kind) k (λ p l. ap (λ (a : TextAtom). a.kind) (old p (λ e. omega arith))) (ap (λ (a : TextAtom). a.kind) last))
      (each_more st.n (λ p. (atom_at st p).up) (λ p. (atom_at (grown k st) p).up) st.cursor.0 (λ p l. ap (λ (a : TextAtom). a.up) (old p (λ e. omega arith))) (ap (λ (a : TextAtom). a.up) last))
      refl refl

  grown_attached : (p : ℕ) → (atom_at (grown k st) p).up ≤ p
  grown_attached p = pick (ℕ_discrete p st.n)
    where
      pick : Dec (p ≡ st.n) → (atom_at (grown k st) p).up ≤ p
      pick (yes e) = rw (e, last) t.cursor
      pick (no e) = rw (old p e) (t.attached p)

  none-here : (f : Bond → Bool) → count (map (λ b. on st.n b && f b) (view_of st).bonds) ≡ 0
  none-here f = ap (λ (n : ℕ). count (map (λ b. on n b && f b) (view_of st).bonds)) (sym (view_places st)) ∙ none-at (view_of st) r f

  grown_hydrogens : (p : ℕ) → p < 192 → (atom_at (grown k st) p).hydrogens ≡ hydrogens_on (view_of st) p
  grown_hydrogens p l = pick (ℕ_discrete p st.n)
    where
      pick : Dec (p ≡ st.n) → (atom_at (grown k st) p).hydrogens ≡ hydrogens_on (view_of st) p
      pick (yes e) = rw (e, last) (sym (none-here (to_h (view_of st))))
      pick (no e) = rw (old p e) (t.hydrogens_on p l)

  grown_bonds : (p : ℕ) → p < 192 → (atom_at (grown k st) p).bonds ≡ bonds_on (view_of st) p
  grown_bonds p l = pick (ℕ_discrete p st.n)
    where
      pick : Dec (p ≡ st.n) → (atom_at (grown k st) p).bonds ≡ bonds_on (view_of st) p
      pick (yes e) = rw (e, last) (sym (none-here (λ b. not (to_h (view_of st) b))))
      pick (no e) = rw (old p e) (t.bonds_on p l)

  pub grown_held : (view_of (grown k st) ≡ grown_by (view_of st) k) × Tallied (grown k st)
  grown_held = (
    grown_view,
    record {
      places = omega arith;
      drawn = t.drawn;
      placed_long = length-set st.placed st.n (fresh k st.cursor.0) ∙ t.placed_long;
      links_long = t.links_long;
      attached = grown_attached;
      cursor = omega (arith, t.cursor);
      heavy_atoms = omega (arith, t.heavy_atoms, ap heavy_atoms grown_view, count-snoc (λ x. not (eqb x 0)) (view_of st).kinds k);
      hydrogen_atoms = omega (arith, t.hydrogen_atoms, ap hydrogen_atoms grown_view, count-snoc (λ x. eqb x 0) (view_of st).kinds k);
      heavy_bonds = t.heavy_bonds ∙ sym (ap heavy_bonds grown_view ∙ grown_heavy_bonds (view_of st) r k);
      hydrogens_on = λ p l. grown_hydrogens p l ∙ sym (ap (λ (s : rules.State). hydrogens_on s p) grown_view ∙ grown_hydrogens_on (view_of st) r k p);
      bonds_on = λ p l. grown_bonds p l ∙ sym (ap (λ (s : rules.State). bonds_on s p) grown_view ∙ grown_bonds_on (view_of st) r k p);
    },
  )

-- an atom with a bond more
module _ (h : Bool) (p : ℕ) (st : State) (there : p < length st.placed) (q : ℕ) where
  raised-atom : atom_at (raised_at h p st) q ≡ cond (eqb p q) (raised h (atom_at st q)) (atom_at st q)
  raised-atom = pick (ℕ_discrete q p)
    where
      pick : Dec (q ≡ p) → atom_at (raised_at h p st) q ≡ cond (eqb p q) (raised h (atom_at st q)) (atom_at st q)
      pick (yes e) = rw (e, eq-eqb p p refl) (get_or-set_same st.placed p (raised h (atom_at st p)) no_atom there)
      pick (no e) = rw (ne_eqb p q (λ z. e (sym z))) (get_or-set_other st.placed p q (raised h (atom_at st p)) no_atom e)

  raised-kind : (atom_at (raised_at h p st) q).kind ≡ (atom_at st q).kind
  raised-kind = ap (λ (a : TextAtom). a.kind) raised-atom ∙ pick (eqb p q)
    where
      pick : (b : Bool) → (cond b (raised h (atom_at st q)) (atom_at st q)).kind ≡ (atom_at st q).kind
      pick true = refl
      pick false = refl

  raised-up : (atom_at (raised_at h p st) q).up ≡ (atom_at st q).up
  raised-up = ap (λ (a : TextAtom). a.up) raised-atom ∙ pick (eqb p q)
    where
      pick : (b : Bool) → (cond b (raised h (atom_at st q)) (atom_at st q)).up ≡ (atom_at st q).up
      pick true = refl
      pick false = refl

  raised-hydrogens : (atom_at (raised_at h p st) q).hydrogens ≡ (atom_at st q).hydrogens + cond (eqb p q) (bit h) 0
  raised-hydrogens = ap (λ (a : TextAtom). a.hydrogens) raised-atom ∙ pick (eqb p q)
    where
      pick : (b : Bool) → (cond b (raised h (atom_at st q)) (atom_at st q)).hydrogens ≡ (atom_at st q).hydrogens + cond b (bit h) 0
      pick true = refl
      pick false = sym (add-zero _)

  raised-bonds : (atom_at (raised_at h p st) q).bonds ≡ (atom_at st q).bonds + cond (eqb p q) (bit (not h)) 0
  raised-bonds = ap (λ (a : TextAtom). a.bonds) raised-atom ∙ pick (eqb p q)
    where
      pick : (b : Bool) → (cond b (raised h (atom_at st q)) (atom_at st q)).bonds ≡ (atom_at st q).bonds + cond b (bit (not h)) 0
      pick true = refl
      pick false = sym (add-zero _)

-- what is added at two places is added where one of them is
at_either : (x y : Bool) (v n : ℕ) → (x ≡ true → y ≡ true → ⊥) → n + cond x v 0 + cond y v 0 ≡ n + cond (x || y) v 0
at_either true true v n e = absurd (e refl refl)
at_either true false v n e = add-zero _
at_either false y v n e = ap (λ (m : ℕ). m + cond y v 0) (add-zero n)

bit_and : (x y : Bool) → cond x (bit y) 0 ≡ bit (x && y)
bit_and true y = refl
bit_and false y = refl

module _ (st : State) (to : Place) (m : ℕ) (T : Tallied st) (D : Drawable st to.0) where
  abbrev c : ℕ
  c = st.cursor.0

  abbrev p : ℕ
  p = to.0

  abbrev h : Bool
  h = h_between st st.cursor.0 to.0

  abbrev new : Bond
  new = record { one = st.cursor.0; two = to.0; code = m }

  abbrev line : TextBond
  line = record { one = st.cursor.0; two = to.0; code = m }

  from_there : c < length st.placed
  from_there = omega (arith, D.from, T.places, T.placed_long)

  to_there : p < length (raised_at h c st).placed
  to_there = omega (arith, length-set st.placed c (raised h (atom_at st c)), D.to, T.places, T.placed_long)

  apart : (q : ℕ) → eqb c q ≡ true → eqb p q ≡ true → ⊥
  apart q e f = D.apart (eqb-true c q e ∙ sym (eqb-true p q f))

  kind-kept : (q : ℕ) → (atom_at (bonded to m st) q).kind ≡ (atom_at st q).kind
  kind-kept q = raised-kind h p (raised_at h c st) to_there q ∙ raised-kind h c st from_there q

  up-kept : (q : ℕ) → (atom_at (bonded to m st) q).up ≡ (atom_at st q).up
  up-kept q = raised-up h p (raised_at h c st) to_there q ∙ raised-up h c st from_there q

  hydrogens-more : (q : ℕ) → (atom_at (bonded to m st) q).hydrogens ≡ (atom_at st q).hydrogens + cond (on q new) (bit h) 0
  hydrogens-more q =
      raised-hydrogens h p (raised_at h c st) to_there q ∙ ap (λ (x : ℕ). x + cond (eqb p q) (bit h) 0) (raised-hydrogens h c st from_there q)
      ∙ at_either (eqb c q) (eqb p q) (bit h) (atom_at st q).hydrogens (apart q)

  bonds-more : (q : ℕ) → (atom_at (bonded to m st) q).bonds ≡ (atom_at st q).bonds + cond (on q new) (bit (not h)) 0
  bonds-more q =
      raised-bonds h p (raised_at h c st) to_there q ∙ ap (λ (x : ℕ). x + cond (eqb p q) (bit (not h)) 0) (raised-bonds h c st from_there q)
      ∙ at_either (eqb c q) (eqb p q) (bit (not h)) (atom_at st q).bonds (apart q)

  bonded-bonds : each (st.drawn + 1) (bond_at (bonded to m st)) ≡ drawn (view_of st) p m
  bonded-bonds =
      each_more st.drawn (bond_at st) (bond_at (bonded to m st)) new
      (λ j l. ap bond_of (get_or-set_other st.links st.drawn j line no_bond (λ e. omega arith)))
      (ap bond_of (get_or-set_same st.links st.drawn line no_bond (omega (arith, T.links_long, D.bonds))))

  bonded-view : view_of (bonded to m st) ≡ bonded_by (view_of st) p m
  bonded-view = state_eq (each-eq st.n _ _ (λ q l. kind-kept q)) (each-eq st.n _ _ (λ q l. up-kept q)) bonded-bonds refl

  h_is : h ≡ to_h (view_of st) new
  h_is = sym (rw (view-kind st c D.from, view-kind st p D.to))

  pub bonded-held : (view_of (bonded to m st) ≡ bonded_by (view_of st) to.0 m) × Tallied (bonded to m st)
  bonded-held = (
    bonded-view,
    record {
      places = T.places;
      drawn = omega (arith, D.bonds);
      placed_long =
          length-set (raised_at h c st).placed p (raised h (atom_at (raised_at h c st) p)) ∙ length-set st.placed c (raised h (atom_at st c)) ∙ T.placed_long;
      links_long = length-set st.links st.drawn line ∙ T.links_long;
      attached = λ q. rw (up-kept q) (T.attached q);
      cursor = omega (arith, D.to);
      heavy_atoms = T.heavy_atoms ∙ sym (ap heavy_atoms bonded-view);
      hydrogen_atoms = T.hydrogen_atoms ∙ sym (ap hydrogen_atoms bonded-view);
      heavy_bonds =
          omega (arith, T.heavy_bonds, ap heavy_bonds bonded-view, count-snoc (λ x. not (to_h (view_of st) x)) (view_of st).bonds new, ap (λ (b : Bool). bit (not b)) h_is);
      hydrogens_on = λ q l.
          hydrogens-more q
          ∙ ap₂ ◌+◌ (T.hydrogens_on q l) (ap (λ (b : Bool). cond (on q new) (bit b) 0) h_is ∙ bit_and (on q new) (to_h (view_of st) new))
          ∙ sym (ap (λ (s : rules.State). hydrogens_on s q) bonded-view ∙ count-snoc (λ x. on q x && to_h (view_of st) x) (view_of st).bonds new);
      bonds_on = λ q l.
          bonds-more q
          ∙ ap₂ ◌+◌ (T.bonds_on q l) (ap (λ (b : Bool). cond (on q new) (bit (not b)) 0) h_is ∙ bit_and (on q new) (not (to_h (view_of st) new)))
          ∙ sym (ap (λ (s : rules.State). bonds_on s q) bonded-view ∙ count-snoc (λ x. on q x && not (to_h (view_of st) x)) (view_of st).bonds new);
    },
  )

-- an H that is alone
module _ (st : State) where
  pub lone-drawn : (st.drawn ≡ 0 → ⊥) → false ≡ lone_h (view_of st)
  lone-drawn n = sym (rw (view-bonds st, ne_eqb st.drawn 0 n, and-false (eqb (get_or (view_of st).kinds 0 0) 0)))

  module _ (z : st.drawn ≡ 0) where
    pub lone-none : st.n ≡ 0 → true ≡ lone_h (view_of st)
    lone-none e =
        let k : (view_of st).kinds ≡ [] = ap (λ (n : ℕ). each n (λ p. (atom_at st p).kind)) e ∙ each-zero (λ p. (atom_at st p).kind) in
        sym (rw (view-bonds st, z, k))

    pub lone-first : (st.n ≡ 0 → ⊥) → eqb (atom_at st 0).kind 0 ≡ lone_h (view_of st)
    lone-first n = sym (rw (view-bonds st, z, view-kind st 0 (omega arith), and-true (eqb (atom_at st 0).kind 0)))

-- the cursor moved
pub moved-held : (st : State) (p : Place) → Tallied st → p.0 ≤ st.n → (view_of (moved p st) ≡ moved_to (view_of st) p.0) × Tallied (moved p st)
moved-held st p T l = (
  refl,
  record {
    places = T.places;
    drawn = T.drawn;
    placed_long = T.placed_long;
    links_long = T.links_long;
    attached = T.attached;
    cursor = l;
    heavy_atoms = T.heavy_atoms;
    hydrogen_atoms = T.hydrogen_atoms;
    heavy_bonds = T.heavy_bonds;
    hydrogens_on = T.hydrogens_on;
    bonds_on = T.bonds_on;
  },
)

-- steps up
pub climb-top : (s : rules.State) (k p : ℕ) → 0 < k → p ≡ 0 → rules.climb s k p ≡ length s.kinds
unfolding rules.climb
climb-top s zero p h z = absurd (omega arith)
climb-top s (suc k) zero h z = refl
climb-top s (suc k) (suc p) h z = absurd (omega arith)

pub climb-up : (s : rules.State) (k p : ℕ) → 0 < k → (p ≡ 0 → ⊥) → rules.climb s k p ≡ rules.climb s (k - 1) (get_or s.ups p 0)
unfolding rules.climb
climb-up s zero p h z = absurd (omega arith)
climb-up s (suc k) zero h z = absurd (z refl)
climb-up s (suc k) (suc p) h z = let e : suc k - 1 ≡ k = omega arith in rw e

pub climb-end : (s : rules.State) (k p : ℕ) → k ≤ 0 → rules.climb s k p ≡ p
unfolding rules.climb
climb-end s zero p h = refl
climb-end s (suc k) p h = absurd (omega arith)

-- the state before any item
abbrev pub none : State
none =
    record {
      placed = replicate 192 (record { kind = 0; up = 0; hydrogens = 0; bonds = 0 });
      links = replicate 208 (record { one = 0; two = 0; code = 0 });
      n = 0;
      drawn = 0;
      atoms = 0;
      total = 0;
      bonds = 0;
      cursor = record { 0 = 0 };
    }

fresh-all : (n p : ℕ) → get_or (replicate n no_atom) p no_atom ≡ no_atom
fresh-all zero p = refl
fresh-all (suc n) zero = refl
fresh-all (suc n) (suc p) = fresh-all n p

none-view : view_of none ≡ rules.start
none-view = state_eq (each-zero (λ p. (atom_at none p).kind)) (each-zero (λ p. (atom_at none p).up)) (each-zero (bond_at none)) refl

pub none-held : (view_of none ≡ rules.start) × Held none
none-held = (
  none-view,
  record {
    tallied = record {
      places = omega arith;
      drawn = omega arith;
      placed_long = length-replicate {A = TextAtom} 192 no_atom;
      links_long = length-replicate {A = TextBond} 208 no_bond;
      attached = λ p. omega (arith, ap (λ (a : TextAtom). a.up) (fresh-all 192 p));
      cursor = omega arith;
      heavy_atoms = sym (ap heavy_atoms none-view);
      hydrogen_atoms = sym (ap hydrogen_atoms none-view);
      heavy_bonds = sym (ap heavy_bonds none-view);
      hydrogens_on = λ p l. ap (λ (a : TextAtom). a.hydrogens) (fresh-all 192 p) ∙ sym (ap (λ (s : rules.State). hydrogens_on s p) none-view);
      bonds_on = λ p l. ap (λ (a : TextAtom). a.bonds) (fresh-all 192 p) ∙ sym (ap (λ (s : rules.State). bonds_on s p) none-view);
    };
    reached = rw none-view reached-start;
  },
)

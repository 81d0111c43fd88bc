-- What holds of the atoms and bonds that a reader has, after any items in which nothing is wrong: every bond is a proper one, no pair has
-- two, an H has at most one, and each atom but the first has a bond to an older one.
use mathlib.Core.Path.{◌≡◌, refl, ap, ◌∙◌, subst}
use mathlib.Core.Bool.{Bool, true, false, ◌&&◌, ◌||◌, or-true, true≢false}
use mathlib.Core.List.{List, [], ◌∷◌, ◌++◌, map}
use mathlib.Core.Logic.{inl, inr, ⊎_elim}
use Prim.Native.Nat.{ℕ, ◌<◌, ◌≤◌}
use native.Mathlib.Nat.{not-suc-le-zero}
use native.Mathlib.Omega.{arith}
use lib.ListN.{length, get_or, length-append, get_or-append, get_or-eq_default}
use lib.Dec.{eqb, ltb}
use borrow.Author.Tests.{eq-eqb, ne_eqb, ltb-true, ltb-false, leb-false, eqb-true, eqb-false}
use Rattle.lists.specs.Tests.{count, some}
use Rattle.lists.proofs.Booleans.{or_neither}
use Rattle.lists.proofs.All.{All, all_map, all_snoc, count-all_none}
use Rattle.lists.proofs.Passed.{count-snoc}
use Rattle.lists.proofs.Tested.{some-count, some-snoc, some-false_count}
use Rattle.molecule.specs.Bonds.{Bond, on, joins}
use Rattle.molecule.proofs.BondLists.{Between, joins-ends, joins-swap}
use Rattle.sling.specs.Items.{Item, atom, reference, ring}
use Rattle.sling.specs.Reading.{State, start, place_of, drawn, after}
use Rattle.sling.proofs.Walks.{Marked, Clear, Walk, here, step}

abbrev pub bond : ℕ → ℕ → ℕ → Bond
bond p q m = record { one = p; two = q; code = m }

-- an H stands at a place, or nothing
abbrev pub h_at : List ℕ → ℕ → Bool
h_at ks p = eqb (get_or ks p 0) 0

pub heavy-within : (ks : List ℕ) (p : ℕ) → h_at ks p ≡ false → p < length ks
heavy-within ks p e = pick (ltb p (length ks)) refl
  where
    pick : (b : Bool) → ltb p (length ks) ≡ b → p < length ks
    pick true q = ltb-true _ _ q
    pick false q = absurd (true≢false (rw (get_or-eq_default ks 0 (ltb-false p (length ks) q)) at e))

-- a bond joins two places
abbrev pub Joined : List Bond → ℕ → ℕ → Type 0
Joined bs p q = some (map (joins p q) bs) ≡ true

pub record Proper (ks : List ℕ) (b : Bond) : Type 0 where
  pub one : b.one < length ks
  pub two : b.two < length ks
  pub apart : b.one ≡ b.two → ⊥
  pub mark : Marked b.code
  pub heavy : (h_at ks b.one && h_at ks b.two) ≡ false

pub record Tidy (ks : List ℕ) (bs : List Bond) : Type 0 where
  pub known : All (λ k. k ≤ 24) ks
  pub proper : All (Proper ks) bs
  pub once : (p q : ℕ) → count (map (joins p q) bs) ≤ 1
  pub leaf : (p : ℕ) → h_at ks p ≡ true → count (map (on p) bs) ≤ 1
  pub rooted : (p : ℕ) → 0 < p → p < length ks → (c : ℕ) × (c < p) × Joined bs c p

-- the second atom was put on the first
pub first-joined : {ks : List ℕ} {bs : List Bond} → Tidy ks bs → 1 < length ks → Joined bs 0 1
first-joined {ks} {bs} t h =
    let r = t.rooted 1 (omega arith) h in
    let z : r.0 ≡ 0 = let k : r.0 < 1 = r.1 in omega arith in
    subst (λ (c : ℕ). Joined bs c 1) z r.2

-- a bond to an H
abbrev pub h_bond : List ℕ → Bond → Bool
h_bond ks b = h_at ks b.one || h_at ks b.two

-- the order of the ends does not matter
pub joined-swap : (p q : ℕ) (bs : List Bond) → map (joins p q) bs ≡ map (joins q p) bs
joined-swap p q bs = λ i. map (λ b. joins-swap p q b i) bs

joins-self : (p q m : ℕ) → joins p q (bond p q m) ≡ true
joins-self p q m = simp (eq-eqb p p refl, eq-eqb q q refl)

pub joined-last : (p q m : ℕ) (bs : List Bond) → Joined (bs ++ (bond p q m ∷ [])) p q
joined-last p q m bs = some-snoc (joins p q) bs (bond p q m) ∙ rw (joins-self p q m, or-true)

-- a place that is not there has no bond
pub none-on : (ks : List ℕ) (p : ℕ) (bs : List Bond) → length ks ≤ p → All (Proper ks) bs → count (map (on p) bs) ≡ 0
none-on ks p bs h a = count-all_none (on p) (λ b x. simp (ne_eqb b.one p (λ e. omega (arith, x.one)), ne_eqb b.two p (λ e. omega (arith, x.two)))) bs a

pub none-to : (ks : List ℕ) (p q : ℕ) (bs : List Bond) → length ks ≤ q → All (Proper ks) bs → some (map (joins p q) bs) ≡ false
none-to ks p q bs h a = some-count (map (joins p q) bs) ∙ ap (ltb 0) (count-all_none (joins p q) far bs a)
  where
    far : (b : Bond) → Proper ks b → joins p q b ≡ false
    far b x = ne (joins p q b) refl
      where
        ne : (t : Bool) → joins p q b ≡ t → joins p q b ≡ false
        ne true e = absurd (⊎_elim (λ z. let y : b.two ≡ q = z.1 in omega (arith, x.two)) (λ z. let y : b.one ≡ q = z.0 in omega (arith, x.one)) (joins-ends p q b e))
        ne false e = e

-- the H rule, as it is judged of an end p of a new bond
abbrev wrong : List ℕ → List Bond → ℕ → ℕ → ℕ → Bool
wrong ks bs p q m = h_at ks p && (h_at ks q || ltb 1 m || ltb 1 (count (map (on p) bs)))

-- a bond drawn from c to g, where atoms may have come to those of ks
module _ (ks ks' : List ℕ) (bs : List Bond) (c g m : ℕ) (t : Tidy ks bs) (more : length ks ≤ length ks')
    (same : (p : ℕ) → p < length ks → get_or ks' p 0 ≡ get_or ks p 0) (known : All (λ k. k ≤ 24) ks')
    (new : (p : ℕ) → length ks ≤ p → p < length ks' → g ≡ p)
    (hc : c < length ks) (hg : g < length ks') (ne : c ≡ g → ⊥) (mark : Marked m) (apart : some (map (joins c g) bs) ≡ false)
    (c_h : wrong ks' (bs ++ (bond c g m ∷ [])) c g m ≡ false) (g_h : wrong ks' (bs ++ (bond c g m ∷ [])) g c m ≡ false) where
  drawn-heavy : (h_at ks' c && h_at ks' g) ≡ false
  drawn-heavy = pick (h_at ks' c) refl c_h
    where
      pick : (x : Bool) → h_at ks' c ≡ x → wrong ks' (bs ++ (bond c g m ∷ [])) c g m ≡ false → (h_at ks' c && h_at ks' g) ≡ false
      pick true e f = simp e (or_neither (h_at ks' g) _ (or_neither (h_at ks' g || ltb 1 m) _ (simp e at f)).0).0
      pick false e f = simp e

  drawn-once : (p q : ℕ) → count (map (joins p q) (bs ++ (bond c g m ∷ []))) ≤ 1
  drawn-once p q = pick (joins p q (bond c g m)) refl
    where
      none : Between p q (bond c g m) → count (map (joins p q) bs) ≡ 0
      none (inl z) = rw (← z.0, ← z.1) (some-false_count _ apart)
      none (inr z) = rw (← z.0, ← z.1) (ap count (joined-swap g c bs) ∙ some-false_count _ apart)

      pick : (x : Bool) → joins p q (bond c g m) ≡ x → count (map (joins p q) (bs ++ (bond c g m ∷ []))) ≤ 1
      pick true e = let k = count-snoc (joins p q) bs (bond c g m) in let j = simp e at k in omega (arith, none (joins-ends p q (bond c g m) e))
      pick false e = let k = count-snoc (joins p q) bs (bond c g m) in let j = simp e at k in omega (arith, t.once p q)

  few : (p q : ℕ) → h_at ks' p ≡ true → wrong ks' (bs ++ (bond c g m ∷ [])) p q m ≡ false → count (map (on p) (bs ++ (bond c g m ∷ []))) ≤ 1
  few p q e f = ltb-false 1 _ (or_neither (h_at ks' q || ltb 1 m) _ (simp e at f)).1

  drawn-leaf : (p : ℕ) → h_at ks' p ≡ true → count (map (on p) (bs ++ (bond c g m ∷ []))) ≤ 1
  drawn-leaf p h = pick (eqb c p) (eqb g p) refl refl
    where
      old : (x : Bool) → ltb p (length ks) ≡ x → count (map (on p) bs) ≤ 1
      old true e = t.leaf p (rw (← (same p (ltb-true p (length ks) e))) h)
      old false e = omega (arith, none-on ks p bs (ltb-false p (length ks) e) t.proper)

      pick : (x y : Bool) → eqb c p ≡ x → eqb g p ≡ y → count (map (on p) (bs ++ (bond c g m ∷ []))) ≤ 1
      pick true y e f = let z : c ≡ p = eqb-true c p e in subst (λ (r : ℕ). count (map (on r) (bs ++ (bond c g m ∷ []))) ≤ 1) z (few c g (rw z h) c_h)
      pick false true e f = let z : g ≡ p = eqb-true g p f in subst (λ (r : ℕ). count (map (on r) (bs ++ (bond c g m ∷ []))) ≤ 1) z (few g c (rw z h) g_h)
      pick false false e f = let k = count-snoc (on p) bs (bond c g m) in let j = simp (e, f) at k in omega (arith, old (ltb p (length ks)) refl)

  drawn-rooted : (p : ℕ) → 0 < p → p < length ks' → (d : ℕ) × (d < p) × Joined (bs ++ (bond c g m ∷ [])) d p
  drawn-rooted p pos h = pick (ltb p (length ks)) refl
    where
      pick : (x : Bool) → ltb p (length ks) ≡ x → (d : ℕ) × (d < p) × Joined (bs ++ (bond c g m ∷ [])) d p
      pick true e =
          let r = t.rooted p pos (ltb-true p (length ks) e) in
          (r.0, r.1, some-snoc (joins r.0 p) bs (bond c g m) ∙ rw r.2)
      pick false e =
          let far : length ks ≤ p = ltb-false p (length ks) e in
          let z : g ≡ p = new p far h in
          (c, omega arith, subst (λ (q : ℕ). Joined (bs ++ (bond c g m ∷ [])) c q) z (joined-last c g m bs))

  still : (b : Bond) → Proper ks b → Proper ks' b
  still b x =
      record {
        one = omega (arith, x.one);
        two = omega (arith, x.two);
        apart = x.apart;
        mark = x.mark;
        heavy = rw (same b.one x.one, same b.two x.two) x.heavy;
      }

  pub tidy-drawn : Tidy ks' (bs ++ (bond c g m ∷ []))
  tidy-drawn =
      record {
        known = known;
        proper = all_snoc (Proper ks') bs (bond c g m)
            (all_map still bs t.proper)
            (record { one = omega arith; two = hg; apart = ne; mark = mark; heavy = drawn-heavy });
        once = drawn-once;
        leaf = drawn-leaf;
        rooted = drawn-rooted;
      }

pub record Reader (st : State) : Type 0 where
  pub tidy : Tidy st.kinds st.bonds
  pub cursor : 0 < length st.kinds → st.cursor < length st.kinds

-- an item in which nothing is wrong keeps a reader tidy
first-tidy : (ks : List ℕ) (k : ℕ) → length ks ≡ 0 → All (λ j. j ≤ 24) ks → k ≤ 24 → Tidy (ks ++ (k ∷ [])) []
first-tidy ks k z h l =
    record {
      known = all_snoc (λ j. j ≤ 24) ks k h l;
      proper = tt;
      once = λ p q. omega arith;
      leaf = λ p e. omega arith;
      rooted = λ p pos e. absurd (omega (arith, length-append ks (k ∷ [])));
    }

atom-reader : (st : State) (m k : ℕ) (b : Bool) → eqb (length st.kinds) 0 ≡ b → Clear st (atom m k) → Reader st → Reader (after st (atom m k))
unfolding after
atom-reader st m k true e c r =
    record {
      tidy = simp e (first-tidy st.kinds k (eqb-true _ _ e) r.tidy.known (ltb-false 24 k c.three));
      cursor = λ h. omega (arith, length-append st.kinds (k ∷ []));
    }
atom-reader st m k false e c r =
    let long = length-append st.kinds (k ∷ []) in
    let some : length st.kinds ≡ 0 → ⊥ = eqb-false _ _ e in
    let seven = or_neither (wrong (st.kinds ++ (k ∷ [])) (drawn st (length st.kinds) m) st.cursor (length st.kinds) m) _ (simp e at c.seven) in
    record {
      tidy = simp e (tidy-drawn st.kinds (st.kinds ++ (k ∷ [])) st.bonds st.cursor (length st.kinds) m r.tidy (omega arith)
          (λ p h. get_or-append st.kinds (k ∷ []) 0 p h) (all_snoc (λ j. j ≤ 24) st.kinds k r.tidy.known (ltb-false 24 k c.three))
          (λ p h l. omega arith) (r.cursor (omega arith)) (omega arith) (λ q. omega (arith, r.cursor (omega arith))) c.mark
          (none-to st.kinds st.cursor (length st.kinds) st.bonds (omega arith) r.tidy.proper) seven.0 seven.1);
      cursor = λ h. omega arith;
    }

pub reader_after : (st : State) (i : Item) → Clear st i → Reader st → Reader (after st i)
unfolding after
reader_after st (atom m k) c r = atom-reader st m k (eqb (length st.kinds) 0) refl c r
reader_after st (reference t) c r = record { tidy = r.tidy; cursor = λ h. leb-false _ _ c.five }
reader_after st (ring m t) c r =
    let there : place_of st t < length st.kinds = leb-false _ _ c.five in
    let seven = or_neither (wrong st.kinds (drawn st (place_of st t) m) st.cursor (place_of st t) m) _ c.seven in
    let six = or_neither (eqb st.cursor (place_of st t)) _ c.six in
    record {
      tidy = tidy-drawn st.kinds st.kinds st.bonds st.cursor (place_of st t) m r.tidy (omega arith) (λ p h. refl) r.tidy.known
          (λ p h l. absurd (omega arith)) (r.cursor (omega arith)) there (eqb-false _ _ six.0) c.mark six.1 seven.0 seven.1;
      cursor = λ h. there;
    }

pub reader_start : Reader start
reader_start =
    record {
      tidy = record { known = tt; proper = tt; once = λ p q. omega arith; leaf = λ p e. omega arith; rooted = λ p pos h. absurd (not-suc-le-zero h) };
      cursor = λ h. absurd (not-suc-le-zero h);
    }

pub reader_walk : {st sv : State} {is : List Item} → Walk st is sv → Reader st → Reader sv
reader_walk here r = r
reader_walk (step {st = st} {i = i} c w) r = reader_walk w (reader_after st i c r)

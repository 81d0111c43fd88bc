-- The counts that a reader keeps to its limits are those of the molecule folded from it: atoms, hydrogens, bonds, and bonds on an atom.
-- Each is one count of pairs of a place and a bond on it, taken once by places and once by bonds.
use mathlib.Core.Path.{◌≡◌, refl, sym, ap, ◌∙◌}
use mathlib.Core.Bool.{Bool, true, false, cond, not, ◌&&◌, ◌||◌, and-false, and-true, or-false, or-true, true≢false}
use mathlib.Core.List.{List, [], ◌∷◌, map}
use mathlib.Core.Logic.{⊎_elim}
use Prim.Native.Nat.{ℕ, zero, suc, ◌+◌, ◌*◌, ◌<◌}
use native.Mathlib.Nat.{mul-one}
use native.Mathlib.Omega.{arith}
use lib.ListN.{length, get_or}
use lib.Dec.{eqb}
use borrow.Author.Tests.{eq-eqb, ne_eqb, eqb-true, eqb-false, not-true}
use Rattle.lists.specs.Upto.{upto, each, sum}
use Rattle.lists.specs.Tests.{keep, count, some}
use Rattle.lists.proofs.Booleans.{or_neither}
use Rattle.lists.proofs.Sums.{sum-eq, sum-map_add, sum-map_const, count-sum, sum-swap}
use Rattle.lists.proofs.Kept.{of_keep}
use Rattle.lists.proofs.Upto.{of_upto, each-get_or}
use Rattle.lists.proofs.Counts.{count_none, count-pick}
use Rattle.lists.proofs.Members.{map-eq, get_or-mem}
use Rattle.lists.proofs.Passed.{length-keep, count-not, count-map_le, count-keep}
use Rattle.lists.proofs.All.{All, map-all}
use Rattle.lists.proofs.Tested.{some-true_count, some_one}
use Rattle.molecule.specs.Bonds.{Bond, on, joins, code_in}
use Rattle.molecule.specs.Molecule.{hydrogens, bonded, neighbours}
use Rattle.molecule.proofs.BondLists.{joins-ends, ends-count}
use Rattle.sling.specs.Reading.{State, is_h, to_h, hydrogens_on, bonds_on}
use Rattle.sling.specs.Faults.{heavy_atoms, hydrogen_atoms, heavy_bonds}
use Rattle.sling.specs.Folded.{heavy_places, folded, lone_h}
use Rattle.sling.proofs.Tidy.{Proper, Tidy, first-joined, Joined}

-- of a bond that is not between two H: how many of its ends are H, and how many are not, if it is to an H or if it is not
one-heavy : (x y : Bool) → (x && y) ≡ false → (x || y) ≡ true → cond {A = ℕ} (not x) 1 0 + cond (not y) 1 0 ≡ 1
one-heavy true true e f = absurd (true≢false e)
one-heavy true false e f = refl
one-heavy false true e f = refl
one-heavy false false e f = absurd (true≢false (sym f))

two-heavy : (x y : Bool) → (x || y) ≡ false → cond {A = ℕ} (not x) 1 0 + cond (not y) 1 0 ≡ 2
two-heavy x y f = let n = or_neither x y f in rw (n.0, n.1)

one-h : (x y : Bool) → (x && y) ≡ false → cond {A = ℕ} x 1 0 + cond y 1 0 ≡ cond (x || y) 1 0
one-h true true e = absurd (true≢false e)
one-h true false e = refl
one-h false y e = omega arith

module _ (st : State) (b : Bond) (g : Proper st.kinds b) where
  -- heavy ends of a bond to an H
  h_ends : count (each (length st.kinds) (λ p. not (is_h st p) && (on p b && to_h st b))) ≡ cond (to_h st b) 1 0
  h_ends = pick (to_h st b) refl
    where
      pick : (x : Bool) → to_h st b ≡ x → count (each (length st.kinds) (λ p. not (is_h st p) && (on p b && to_h st b))) ≡ cond (to_h st b) 1 0
      pick true e =
          simp (e, and-true)
          (ends-count (length st.kinds) (λ p. not (is_h st p)) b (g.one, g.two, g.apart) ∙ one-heavy (is_h st b.one) (is_h st b.two) g.heavy e)
      pick false e = simp (e, and-false) (count_none (length st.kinds) (λ p. false) (λ p l. refl))

  -- heavy ends of another bond
  heavy-ends : count (each (length st.kinds) (λ p. not (is_h st p) && (on p b && not (to_h st b)))) ≡ 2 * cond (not (to_h st b)) 1 0
  heavy-ends = pick (to_h st b) refl
    where
      pick : (x : Bool) → to_h st b ≡ x → count (each (length st.kinds) (λ p. not (is_h st p) && (on p b && not (to_h st b)))) ≡ 2 * cond (not (to_h st b)) 1 0
      pick true e = simp (e, and-false) (count_none (length st.kinds) (λ p. false) (λ p l. refl))
      pick false e =
          simp (e, and-true)
          (ends-count (length st.kinds) (λ p. not (is_h st p)) b (g.one, g.two, g.apart) ∙ two-heavy (is_h st b.one) (is_h st b.two) e)

  -- ends that are H
  hs_ends : count (each (length st.kinds) (λ p. is_h st p && on p b)) ≡ cond (to_h st b) 1 0
  hs_ends = ends-count (length st.kinds) (is_h st) b (g.one, g.two, g.apart) ∙ one-h (is_h st b.one) (is_h st b.two) g.heavy

  -- heavy places that b joins with a heavy place p
  other_end : (p : ℕ) → is_h st p ≡ false → count (each (length st.kinds) (λ q. not (is_h st q) && joins p q b)) ≡ cond (on p b && not (to_h st b)) 1 0
  other_end p h = pick (eqb b.one p) (eqb b.two p) refl refl
    where
      pick : (x y : Bool) → eqb b.one p ≡ x → eqb b.two p ≡ y
          → count (each (length st.kinds) (λ q. not (is_h st q) && joins p q b)) ≡ cond (on p b && not (to_h st b)) 1 0
      pick true true e f = absurd (g.apart (eqb-true _ _ e ∙ sym (eqb-true _ _ f)))
      pick true false e f =
          let y : b.one ≡ p = eqb-true _ _ e in
          let z : is_h st b.one ≡ false = rw y h in
          simp (e, f, z, and-false, or-false) (count-pick (length st.kinds) b.two (λ q. not (is_h st q)) g.two)
      pick false true e f =
          let y : b.two ≡ p = eqb-true _ _ f in
          let z : is_h st b.two ≡ false = rw y h in
          simp (e, f, z, and-true, or-false) (count-pick (length st.kinds) b.one (λ q. not (is_h st q)) g.one)
      pick false false e f = simp (e, f, and-false) (count_none (length st.kinds) (λ q. false) (λ q l. refl))

-- a count over places of a count over bonds, taken by bonds
by_bonds : (st : State) (h : ℕ → Bool) (r : ℕ → Bond → Bool) (v : Bond → ℕ)
    → ((b : Bond) → Proper st.kinds b → count (each (length st.kinds) (λ p. h p && r p b)) ≡ v b) → All (Proper st.kinds) st.bonds
    → sum (map (λ p. count (map (r p) st.bonds)) (keep h (upto (length st.kinds)))) ≡ sum (map v st.bonds)
unfolding each
by_bonds st h r v e a =
    sum-swap r (keep h (upto (length st.kinds))) st.bonds
    ∙ ap sum (map-all _ v (λ b g. count-keep h (λ p. r p b) (upto (length st.kinds)) ∙ e b g) st.bonds a)

-- codes are over 0, so that a pair has a code exactly if it is joined
pub code-joined : (ks : List ℕ) (p q : ℕ) (bs : List Bond) → All (Proper ks) bs → not (eqb (code_in bs p q) 0) ≡ some (map (joins p q) bs)
unfolding some
code-joined ks p q [] a = refl
code-joined ks p q (b ∷ bs) a = pick (joins p q b) refl (code-joined ks p q bs a.1)
  where
    pick : (x : Bool) → joins p q b ≡ x → not (eqb (code_in bs p q) 0) ≡ some (map (joins p q) bs)
        → not (eqb (code_in (b ∷ bs) p q) 0) ≡ some (map (joins p q) (b ∷ bs))
    pick true e i = simp (e, ne_eqb b.code 0 (λ z. omega (arith, a.0.mark.0)))
    pick false e i = simp e i

pub end_of : (c p : ℕ) (b : Bond) → joins c p b ≡ true → (on c b ≡ true) × (on p b ≡ true)
end_of c p b e = ⊎_elim
    (λ (z : (b.one ≡ c) × (b.two ≡ p)). (simp (eq-eqb _ _ z.0), simp (eq-eqb _ _ z.1, or-true)))
    (λ (z : (b.one ≡ p) × (b.two ≡ c)). (simp (eq-eqb _ _ z.1, or-true), simp (eq-eqb _ _ z.0)))
    (joins-ends c p b e)

-- where there is a bond there is a second place
pub second : (ks : List ℕ) (bs : List Bond) → (length bs ≡ 0 → ⊥) → All (Proper ks) bs → 1 < length ks
second ks [] n a = absurd (n refl)
second ks (b ∷ bs) n a = let x = a.0.one in let y = a.0.two in let d : b.one ≡ b.two → ⊥ = a.0.apart in omega arith

module _ (st : State) (t : Tidy st.kinds st.bonds) where
  -- a heavy atom has as many neighbours as heavy bonds on its place
  near-count : (p : ℕ) → is_h st p ≡ false → count (map (λ q. not (eqb (code_in st.bonds p q) 0)) (heavy_places st)) ≡ bonds_on st p
  unfolding heavy_places
  near-count p h =
      count-sum (λ q. not (eqb (code_in st.bonds p q) 0)) (heavy_places st)
      ∙ ap sum (map-eq (heavy_places st) _ (λ q. count (map (joins p q) st.bonds))
      (λ q m. ap (λ (x : Bool). cond {A = ℕ} x 1 0) (code-joined st.kinds p q st.bonds t.proper) ∙ some_one _ (t.once p q)))
      ∙ by_bonds st (λ q. not (is_h st q)) (joins p) (λ b. cond (on p b && not (to_h st b)) 1 0) (λ b g. other_end st b g p h) t.proper
      ∙ sym (count-sum (λ b. on p b && not (to_h st b)) st.bonds)

  pub folded-size : (folded st).size ≡ heavy_atoms st
  unfolding folded heavy_places each
  folded-size =
      length-keep (λ p. not (is_h st p)) (upto (length st.kinds))
      ∙ ap count (each-get_or (λ k. not (eqb k 0)) st.kinds 0)

  -- the place of an atom of the molecule is heavy
  pub place-heavy : (a : ℕ) → a < (folded st).size → is_h st (get_or (heavy_places st) a 0) ≡ false
  unfolding folded heavy_places
  place-heavy a h = not-true _ (of_keep (λ p. not (is_h st p)) (upto (length st.kinds)) _ (get_or-mem (heavy_places st) a 0 h)).1

  pub folded-degree : (a : ℕ) → a < (folded st).size → length (neighbours (folded st) a) ≡ bonds_on st (get_or (heavy_places st) a 0)
  unfolding folded neighbours each
  folded-degree a h =
      length-keep (bonded (folded st) a) (upto (folded st).size)
      ∙ ap count (each-get_or (λ q. not (eqb (code_in st.bonds (get_or (heavy_places st) a 0) q) 0)) (heavy_places st) 0)
      ∙ near-count (get_or (heavy_places st) a 0) (place-heavy a h)

  double : (f : Bond → Bool) (bs : List Bond) → sum (map (λ b. 2 * cond (f b) 1 0) bs) ≡ 2 * count (map f bs)
  double f bs = omega (arith, count-sum f bs, sum-map_add bs (λ b. cond (f b) 1 0) (λ b. cond (f b) 1 0) (λ b. 2 * cond (f b) 1 0) (λ b m. omega arith))

  pub folded-bonds : sum (each (folded st).size (λ a. length (neighbours (folded st) a))) ≡ 2 * heavy_bonds st
  unfolding folded heavy_places
  folded-bonds =
      sum-eq (folded st).size _ (λ a. bonds_on st (get_or (heavy_places st) a 0)) folded-degree
      ∙ ap sum (each-get_or (bonds_on st) (heavy_places st) 0)
      ∙ by_bonds st (λ p. not (is_h st p)) (λ p b. on p b && not (to_h st b)) (λ b. 2 * cond (not (to_h st b)) 1 0) (λ b g. heavy-ends st b g) t.proper
      ∙ double (λ b. not (to_h st b)) st.bonds

  -- the bonds to an H
  h_bonds : sum (each (folded st).size (hydrogens (folded st))) ≡ count (map (to_h st) st.bonds)
  unfolding folded heavy_places
  h_bonds =
      ap sum (each-get_or (hydrogens_on st) (heavy_places st) 0)
      ∙ by_bonds st (λ p. not (is_h st p)) (λ p b. on p b && to_h st b) (λ b. cond (to_h st b) 1 0) (λ b g. h_ends st b g) t.proper
      ∙ sym (count-sum (to_h st) st.bonds)

  -- an H has exactly one bond, but for an H alone
  joined-on : (c p : ℕ) → Joined st.bonds c p → (0 < count (map (on c) st.bonds)) × (0 < count (map (on p) st.bonds))
  joined-on c p e =
      let k : 0 < count (map (joins c p) st.bonds) = some-true_count _ e in
      let at_c = count-map_le st.bonds (joins c p) (on c) (λ b m z. (end_of c p b z).0) in
      let at_p = count-map_le st.bonds (joins c p) (on p) (λ b m z. (end_of c p b z).1) in
      omega arith

  pub h_once : lone_h st ≡ false → (p : ℕ) → p < length st.kinds → is_h st p ≡ true → count (map (on p) st.bonds) ≡ 1
  h_once lone zero h e =
      let two : 1 < length st.kinds = second st.kinds st.bonds (eqb-false _ _ (simp e at lone)) t.proper in
      omega (arith, joined-on 0 1 (first-joined t two), t.leaf 0 e)
  h_once lone (suc p) h e = let r = t.rooted (suc p) (omega arith) h in omega (arith, joined-on r.0 (suc p) r.2, t.leaf (suc p) e)

  -- so the bonds to an H are as many as the H
  pub h_count : lone_h st ≡ false → count (map (to_h st) st.bonds) ≡ hydrogen_atoms st
  unfolding each
  h_count lone =
      let hs = keep (is_h st) (upto (length st.kinds)) in
      count-sum (to_h st) st.bonds
      ∙ sym (by_bonds st (is_h st) on (λ b. cond (to_h st b) 1 0) (λ b g. hs_ends st b g) t.proper)
      ∙ ap sum (map-eq hs _ (λ p. 1) (λ p m.
      let w = of_keep (is_h st) (upto (length st.kinds)) p m in
      h_once lone p (of_upto (length st.kinds) p w.0) w.1))
      ∙ sum-map_const hs 1
      ∙ mul-one (length hs)
      ∙ length-keep (is_h st) (upto (length st.kinds))
      ∙ ap count (each-get_or (λ k. eqb k 0) st.kinds 0)

  pub folded-hydrogens : lone_h st ≡ false → sum (each (folded st).size (hydrogens (folded st))) ≡ hydrogen_atoms st
  folded-hydrogens lone = h_bonds ∙ h_count lone

  -- every bond is to an H or is one of the molecule's
  pub bonds-count : lone_h st ≡ false → length st.bonds ≡ hydrogen_atoms st + heavy_bonds st
  bonds-count lone = omega (arith, count-not (to_h st) st.bonds, h_count lone)

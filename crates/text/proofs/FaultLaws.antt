-- The faults of an item, by the counts that a reader keeps.
use Prim.Native.Nat.{ℕ, zero, suc, ◌+◌, ◌<◌}
use mathlib.Core.Path.{◌≡◌, refl, sym, ap, ap₂, ◌∙◌}
use mathlib.Core.List.{List, [], ◌∷◌, ◌++◌, map}
use mathlib.Core.Bool.{Bool, true, false, not, ◌&&◌, ◌||◌, or-true}
use native.Mathlib.Omega.{arith}
use lib.ListN.{length, get_or, get_or-append}
use lib.Seq.{get_or-append_seam}
use lib.Dec.{eqb, ltb}
use borrow.Author.Tests.{eq-eqb, ne_eqb, eqb-true, lt-ltb, le-ltb}
use Rattle.lists.specs.Tests.{count, some}
use Rattle.molecule.specs.Bonds.{Bond, on, joins}
use Rattle.sling.specs.Items.{Target, at, Item, atom, reference, ring}
use Rattle.sling.specs.Reading.{State, place_of, after, drawn, is_h, to_h, hydrogens_on, bonds_on}
use Rattle.sling.specs.Faults.{wrong_h, broken_h, heavy_atoms, hydrogen_atoms, heavy_bonds, over, item_fault}
use Rattle.lists.proofs.Passed.{count-snoc}
use Rattle.sling.proofs.Tidy.{Reader}
use Rattle.sling.proofs.Limits.{Room}
use Rattle.text.specs.declared.state.TextAtom.{TextAtom}
use Rattle.text.specs.Holding.{bit, h_bit, h_bond, grown_by, bonded_by}
use Rattle.text.specs.Changing.{fresh, raised}
use Rattle.text.specs.Judging.{h_broken, Counts, opening_fault, atom_fault, ring_fault, reference_fault}
use Rattle.text.specs.Judging as judging
use Rattle.text.proofs.StateLaws.{none-at, grown_hydrogens_on, grown_bonds_on, grown_heavy_bonds}

-- a new bond in a state whose atoms are all there
module _ (g : State) (x m : ℕ) where
  abbrev new : Bond
  new = record { one = g.cursor; two = x; code = m }

  -- an H has bonds to an H only
  h_bonds : (p : ℕ) → is_h g p ≡ true → count (map (on p) g.bonds) ≡ hydrogens_on g p
  h_bonds p e = ap count (same g.bonds)
    where
      one : (b : Bond) → on p b ≡ (on p b && to_h g b)
      one b = pick (eqb b.one p) (eqb b.two p) refl refl
        where
          pick : (y z : Bool) → eqb b.one p ≡ y → eqb b.two p ≡ z → on p b ≡ (on p b && to_h g b)
          pick true z q r = let w : b.one ≡ p = eqb-true _ _ q in rw (q, w, e)
          pick false true q r = let w : b.two ≡ p = eqb-true _ _ r in rw (q, r, w, e, or-true)
          pick false false q r = rw (q, r)

      same : (bs : List Bond) → map (on p) bs ≡ map (λ b. on p b && to_h g b) bs
      same [] = refl
      same (b ∷ bs) = λ i. one b i ∷ same bs i

  more : (n : ℕ) → ltb 1 (n + 1) ≡ ltb 0 n
  more zero = refl
  more (suc n) = lt-ltb 1 (suc n + 1) (omega arith) ∙ sym (lt-ltb 0 (suc n) (omega arith))

  wrong_is : (p q : ℕ) → on p new ≡ true → wrong_h (bonded_by g x m) p q m ≡ h_broken (get_or g.kinds p 0) (get_or g.kinds q 0) m (hydrogens_on g p)
  wrong_is p q o = pick (is_h g p) refl
    where
      pick : (y : Bool) → is_h g p ≡ y → wrong_h (bonded_by g x m) p q m ≡ h_broken (get_or g.kinds p 0) (get_or g.kinds q 0) m (hydrogens_on g p)
      pick true e =
          let k : count (map (on p) (drawn g x m)) ≡ hydrogens_on g p + 1 = count-snoc (on p) g.bonds new ∙ rw (o, h_bonds p e) in
          rw (k, more (hydrogens_on g p))
      pick false e = rw e

  over-is : (p q : ℕ) → on p new ≡ true → on q new ≡ true → (e f : TextAtom)
      → e.hydrogens ≡ hydrogens_on g p → e.bonds ≡ bonds_on g p → f.hydrogens ≡ hydrogens_on g q → f.bonds ≡ bonds_on g q
      → over (bonded_by g x m) p q
      ≡ judging.over (heavy_atoms g) (hydrogen_atoms g) (heavy_bonds g + bit (not (to_h g new))) (raised (to_h g new) e) (raised (to_h g new) f)
  over-is p q o o' e f eh eb fh fb =
      rw (
        count-snoc (λ b. not (to_h g b)) g.bonds new,
        count-snoc (λ b. on p b && to_h g b) g.bonds new,
        count-snoc (λ b. on p b && not (to_h g b)) g.bonds new,
        count-snoc (λ b. on q b && to_h g b) g.bonds new,
        count-snoc (λ b. on q b && not (to_h g b)) g.bonds new,
        o,
        o',
        eh,
        eb,
        fh,
        fb,
      )

module _ (s : State) (r : Reader s) (more : 0 < length s.kinds) where
  -- the rules' state counted
  abbrev atom_of : ℕ → TextAtom
  atom_of p = record { kind = get_or s.kinds p 0; up = 0; hydrogens = hydrogens_on s p; bonds = bonds_on s p }

  abbrev counts : Counts
  counts = record { n = length s.kinds; atoms = heavy_atoms s; total = hydrogen_atoms s; bonds = heavy_bonds s; cursor = s.cursor }

  module _ (m k : ℕ) where
    abbrev g : State
    g = grown_by s k

    abbrev n : ℕ
    n = length s.kinds

    here : s.cursor < n
    here = r.cursor more

    after-atom : after s (atom m k) ≡ bonded_by g n m
    unfolding after
    after-atom = rw (ne_eqb n 0 (λ e. omega arith))

    old : get_or g.kinds s.cursor 0 ≡ get_or s.kinds s.cursor 0
    old = get_or-append s.kinds (k ∷ []) 0 s.cursor here

    latest : get_or g.kinds n 0 ≡ k
    latest = get_or-append_seam s.kinds k [] 0

    pub atom-fault : (e f : TextAtom) (t : Counts) → e.kind ≡ get_or s.kinds s.cursor 0 → e.hydrogens ≡ hydrogens_on s s.cursor → e.bonds ≡ bonds_on s s.cursor
        → f.kind ≡ k → f.hydrogens ≡ 0 → f.bonds ≡ 0
        → t.atoms ≡ heavy_atoms s → t.total ≡ hydrogen_atoms s → t.bonds ≡ heavy_bonds s → atom_fault m e f t ≡ item_fault s (atom m k)
    unfolding item_fault
    atom-fault e f t ek eh ed fk fh fd ea et eb = rw (ek, eh, ed, fk, fh, fd, ea, et, eb) (sym judged)
      where
        c : ℕ
        c = s.cursor

        j : ℕ
        j = get_or s.kinds s.cursor 0

        h : Bool
        h = h_bond j k

        h_is : to_h g (record { one = c; two = n; code = m }) ≡ h
        h_is = rw (old, latest)

        there : wrong_h (bonded_by g n m) c n m ≡ h_broken j k m (hydrogens_on s c)
        there = wrong_is g n m c n (rw (eq-eqb c c refl)) ∙ rw (old, latest, grown_hydrogens_on s r k c)

        new_one : wrong_h (bonded_by g n m) n c m ≡ h_broken k j m 0
        new_one = wrong_is g n m n c (rw (eq-eqb n n refl, or-true)) ∙ rw (old, latest, grown_hydrogens_on s r k n, none-at s r (to_h s))

        seven : broken_h s (atom m k) ≡ (h_broken j k m (hydrogens_on s c) || h_broken k j m 0)
        seven = rw (ne_eqb n 0 (λ e. omega arith), after-atom, there, new_one)

        four : over (after s (atom m k)) c n
            ≡ judging.over (heavy_atoms s + bit (not (h_bit k))) (hydrogen_atoms s + bit (h_bit k)) (heavy_bonds s + bit (not h)) (raised h (atom_of c)) (raised h (fresh k 0))
        four =
            ap (λ (z : State). over z c n) after-atom
            ∙ over-is g n m c n (rw (eq-eqb c c refl)) (rw (eq-eqb n n refl, or-true)) (atom_of c) (fresh k 0)
            (sym (grown_hydrogens_on s r k c)) (sym (grown_bonds_on s r k c))
            (sym (grown_hydrogens_on s r k n ∙ none-at s r (to_h s))) (sym (grown_bonds_on s r k n ∙ none-at s r (λ b. not (to_h s b))))
            ∙ rw (
              h_is,
              grown_heavy_bonds s r k,
              count-snoc (λ x. not (eqb x 0)) s.kinds k,
              count-snoc (λ x. eqb x 0) s.kinds k,
            )

        judged : item_fault s (atom m k) ≡ atom_fault m (atom_of c) (fresh k 0) counts
        judged = rw (seven, four, ne_eqb n 0 (λ e. omega arith))

  -- a ring bond, and a reference
  module _ (m p : ℕ) where
    pub ring-fault : (e f : TextAtom) (t : Counts) (pair : Bool) → t.n ≡ length s.kinds → t.cursor ≡ s.cursor
        → e.kind ≡ get_or s.kinds s.cursor 0 → f.kind ≡ get_or s.kinds p 0 → e.hydrogens ≡ hydrogens_on s s.cursor → f.hydrogens ≡ hydrogens_on s p
        → e.bonds ≡ bonds_on s s.cursor → f.bonds ≡ bonds_on s p → t.atoms ≡ heavy_atoms s → t.total ≡ hydrogen_atoms s → t.bonds ≡ heavy_bonds s
        → pair ≡ some (map (joins s.cursor p) s.bonds) → ring_fault m p e f t pair ≡ item_fault s (ring m (at p))
    unfolding item_fault after
    ring-fault e f t pair en ec ek ep eh eq ed ee ea et eb er = rw (en, ec, ek, ep, eh, eq, ed, ee, ea, et, eb, er) (sym judged)
      where
        c : ℕ
        c = s.cursor

        j : ℕ
        j = get_or s.kinds s.cursor 0

        l : ℕ
        l = get_or s.kinds p 0

        h : Bool
        h = h_bond j l

        at-cursor : wrong_h (bonded_by s p m) c p m ≡ h_broken j l m (hydrogens_on s c)
        at-cursor = wrong_is s p m c p (rw (eq-eqb c c refl))

        at-goal : wrong_h (bonded_by s p m) p c m ≡ h_broken l j m (hydrogens_on s p)
        at-goal = wrong_is s p m p c (rw (eq-eqb p p refl, or-true))

        seven : broken_h s (ring m (at p)) ≡ (h_broken j l m (hydrogens_on s c) || h_broken l j m (hydrogens_on s p))
        seven = ap₂ ◌||◌ at-cursor at-goal

        four : over (bonded_by s p m) c p
            ≡ judging.over (heavy_atoms s) (hydrogen_atoms s) (heavy_bonds s + bit (not h)) (raised h (atom_of c)) (raised h (atom_of p))
        four = over-is s p m c p (rw (eq-eqb c c refl)) (rw (eq-eqb p p refl, or-true)) (atom_of c) (atom_of p) refl refl refl refl

        judged : item_fault s (ring m (at p)) ≡ ring_fault m p (atom_of c) (atom_of p) counts (some (map (joins c p) s.bonds))
        judged = rw (seven, four, ne_eqb (length s.kinds) 0 (λ e. omega arith))

  pub reference-fault : Room s → (p : ℕ) → reference_fault (length s.kinds) p ≡ item_fault s (reference (at p))
  unfolding item_fault after
  reference-fault m p =
      sym (rw (
        ne_eqb (length s.kinds) 0 (λ e. omega arith),
        le-ltb 64 (heavy_atoms s) m.atoms,
        le-ltb 128 (hydrogen_atoms s) m.hydrogens,
        le-ltb 80 (heavy_bonds s) m.bonds,
        le-ltb 4 (hydrogens_on s s.cursor) (m.hydrogens_at s.cursor),
        le-ltb 6 (bonds_on s s.cursor) (m.bonds_at s.cursor),
        le-ltb 4 (hydrogens_on s p) (m.hydrogens_at p),
        le-ltb 6 (bonds_on s p) (m.bonds_at p),
      ))

-- the item's target counts by the place that it names
pub ring-named : (s : State) (m : ℕ) (t : Target) → item_fault s (ring m (at (place_of s t))) ≡ item_fault s (ring m t)
unfolding item_fault after
ring-named s m t = refl

pub reference-named : (s : State) (t : Target) → item_fault s (reference (at (place_of s t))) ≡ item_fault s (reference t)
unfolding item_fault after
reference-named s t = refl

-- where there is no atom yet
module _ (s : State) (none : length s.kinds ≡ 0) where
  -- an atom alone is within every limit
  alone : (k p q : ℕ) (u : List ℕ) → over (record { kinds = s.kinds ++ (k ∷ []); ups = u; bonds = []; cursor = length s.kinds }) p q ≡ false
  alone k p q u = rw (count-snoc (λ x. not (eqb x 0)) s.kinds k, count-snoc (λ x. eqb x 0) s.kinds k) (pick s.kinds none (eqb k 0))
    where
      pick : (l : List ℕ) → length l ≡ 0 → (b : Bool)
          → judging.over (count (map (λ x. not (eqb x 0)) l) + bit (not b)) (count (map (λ x. eqb x 0) l) + bit b) 0 (fresh 0 0) (fresh 0 0) ≡ false
      pick [] z true = refl
      pick [] z false = refl
      pick (x ∷ l) z b = absurd (omega arith)

  pub opening_fault-is : (i : Item) → opening_fault i ≡ item_fault s i
  unfolding item_fault after
  opening_fault-is (atom m k) = sym (rw (eq-eqb _ _ none, alone k s.cursor (length s.kinds) (s.ups ++ (s.cursor ∷ []))))
  opening_fault-is (reference t) = rw (eq-eqb _ _ none)
  opening_fault-is (ring m t) = rw (eq-eqb _ _ none)

-- A card is well formed exactly if it passes each of the checks, said as a fact of its own.
use mathlib.Core.Bool.{true, false, not, ◌||◌}
use mathlib.Core.List.Memᴰ
use mathlib.Core.List.{List, [], ◌∷◌, map, Memᴰ}
use mathlib.Core.Logic.{◌⊎◌, inl, inr, ◌≢◌}
use mathlib.Core.Path.{◌≡◌, refl, ◌∙◌, ap}
use Prim.Native.Nat.{ℕ, zero, suc, ◌<◌, ◌≤◌}
use native.Mathlib.Omega.{arith}
use lib.Dec.{eqb, leb, ltb}
use borrow.Author.Tests.{eqb-false, ltb-true, ltb-false, leb-true, leb-false, ne_eqb, lt-ltb, le-ltb, le-leb, lt-leb, not-false}
use Rattle.lists.specs.Upto.{upto, each, sum}
use Rattle.lists.specs.Tests.{count, some}
use Rattle.lists.proofs.Booleans.{and_both, or_neither, unless, provided}
use Rattle.lists.proofs.Upto.{mem_upto, of_upto}
use Rattle.molecule.specs.Kinds.{is_kind}
use Rattle.molecule.specs.Bonds.{Bond, on, joins}
use Rattle.molecule.specs.Molecule.{connected}
use Rattle.molecule.specs.Refusals.{or_next, first_fault}
use Rattle.molecule.specs.Layout.{in_layout, atom_count, kind_at, hydrogens_at, bond_count, bond_at, bonds_to}
use Rattle.molecule.specs.Judged.{WellFormed, molecule_of, counts_fault, atom_fault, total_fault, bond_judged, bond_fault, atoms_fault, bonds_fault, apart_fault, content_fault, card_fault}
use Rattle.molecule.proofs.BondLists.{Ends}

-- b passes, after the bonds before it
pub record Fits (n : ℕ) (before : List Bond) (b : Bond) : Type 0 where
  pub ends : Ends n b
  pub first : some (map (joins b.one b.two) before) ≡ false
  pub some : 0 < b.code
  pub known : b.code ≤ 4
  pub room-one : count (map (on b.one) before) < 6
  pub room-two : count (map (on b.two) before) < 6

pub record Checks (s : List ℕ) : Type 0 where
  pub layout : in_layout s ≡ true
  pub some : 0 < atom_count s
  pub atoms : atom_count s ≤ 64
  pub bonds : bond_count s ≤ 80
  pub low : (a : ℕ) → a < atom_count s → 0 < kind_at s a
  pub known : (a : ℕ) → a < atom_count s → kind_at s a ≤ 24
  pub few : (a : ℕ) → a < atom_count s → hydrogens_at s a ≤ 4
  pub total : sum (each (atom_count s) (hydrogens_at s)) ≤ 128
  pub fits : (k : ℕ) → k < bond_count s → Fits (atom_count s) (bonds_to s k) (bond_at s k)
  pub connected : connected (molecule_of s) ≡ true

-- a fault that is not there
pub or_next-none : (m n : ℕ) → or_next m n ≡ 0 → (m ≡ 0) × (n ≡ 0)
or_next-none zero n e = (refl, e)
or_next-none (suc m) n e = absurd (omega arith)

pub first_fault-none : (f : ℕ → ℕ) (l : List ℕ) → first_fault (map f l) ≡ 0 → (a : ℕ) → Memᴰ a l → f a ≡ 0
unfolding first_fault
first_fault-none f [] e a m = absurd (Memᴰ.not-nil m)
first_fault-none f (x ∷ l) e a m = let w = or_next-none (f x) (first_fault (map f l)) e in go w.0 (first_fault-none f l w.1 a) (Memᴰ.cases_cons m)
  where
    go : f x ≡ 0 → (Memᴰ a l → f a ≡ 0) → (a ≡ x) ⊎ Memᴰ a l → f a ≡ 0
    go z ih (inl q) = ap f q ∙ z
    go z ih (inr k) = ih k

none-first_fault : (f : ℕ → ℕ) (l : List ℕ) → ((a : ℕ) → Memᴰ a l → f a ≡ 0) → first_fault (map f l) ≡ 0
unfolding first_fault
none-first_fault f [] h = refl
none-first_fault f (x ∷ l) h = rw (h x (Memᴰ.head refl)) (none-first_fault f l (λ a m. h a (Memᴰ.tail m)))

pub fits-judged : (n : ℕ) (before : List Bond) (b : Bond) → Fits n before b → bond_judged n before b ≡ 0
fits-judged n before b F =
    simp (
      lt-leb n b.one F.ends.0,
      lt-leb n b.two F.ends.1,
      ne_eqb b.one b.two F.ends.2,
      F.first,
      ne_eqb b.code 0 (λ e. omega arith),
      le-ltb 4 b.code F.known,
      lt-leb 6 (count (map (on b.one) before)) F.room-one,
      lt-leb 6 (count (map (on b.two) before)) F.room-two,
    )

pub judged-fits : (n : ℕ) (before : List Bond) (b : Bond) → bond_judged n before b ≡ 0 → Fits n before b
judged-fits n before b e =
    let there = unless _ 4 _ e in
    let inside = or_neither (leb n b.one) (leb n b.two) there.0 in
    let bond = unless _ 5 _ there.1 in
    let codes = or_neither (eqb b.one b.two || some (map (joins b.one b.two) before) || eqb b.code 0) (ltb 4 b.code) bond.0 in
    let pair = or_neither (eqb b.one b.two || some (map (joins b.one b.two) before)) (eqb b.code 0) codes.0 in
    let apart = or_neither (eqb b.one b.two) (some (map (joins b.one b.two) before)) pair.0 in
    let room = unless _ 3 0 bond.1 in
    let rooms = or_neither (leb 6 (count (map (on b.one) before))) (leb 6 (count (map (on b.two) before))) room.0 in
    let coded : b.code ≢ 0 = eqb-false b.code 0 pair.1 in
    record {
      ends = (leb-false n b.one inside.0, leb-false n b.two inside.1, eqb-false b.one b.two apart.0);
      first = apart.1;
      some = omega arith;
      known = ltb-false 4 b.code codes.1;
      room-one = leb-false 6 (count (map (on b.one) before)) rooms.0;
      room-two = leb-false 6 (count (map (on b.two) before)) rooms.1;
    }

counts_pass : (s : List ℕ) → counts_fault s ≡ 0 → (0 < atom_count s) × (atom_count s ≤ 64) × (bond_count s ≤ 80)
unfolding counts_fault
counts_pass s e =
    let w = unless (eqb (atom_count s) 0) 0 _ e in
    let l = unless _ 3 0 w.1 in
    let b = or_neither (ltb 64 (atom_count s)) (ltb 80 (bond_count s)) l.0 in
    let z : atom_count s ≢ 0 = eqb-false (atom_count s) 0 w.0 in
    (omega arith, ltb-false 64 (atom_count s) b.0, ltb-false 80 (bond_count s) b.1)

pass-counts : (s : List ℕ) → 0 < atom_count s → atom_count s ≤ 64 → bond_count s ≤ 80 → counts_fault s ≡ 0
unfolding counts_fault
pass-counts s h k l = simp (ne_eqb (atom_count s) 0 (λ e. omega arith), le-ltb 64 (atom_count s) k, le-ltb 80 (bond_count s) l)

atom-passes : (s : List ℕ) (a : ℕ) → atom_fault s a ≡ 0 → (0 < kind_at s a) × (kind_at s a ≤ 24) × (hydrogens_at s a ≤ 4)
unfolding atom_fault
atom-passes s a e =
    let w = unless (not (is_kind (kind_at s a))) 2 _ e in
    let k = and_both (ltb 0 (kind_at s a)) (leb (kind_at s a) 24) (not-false _ w.0) in
    let h = unless (ltb 4 (hydrogens_at s a)) 3 0 w.1 in
    (ltb-true 0 (kind_at s a) k.0, leb-true (kind_at s a) 24 k.1, ltb-false 4 (hydrogens_at s a) h.0)

passes-atom : (s : List ℕ) (a : ℕ) → 0 < kind_at s a → kind_at s a ≤ 24 → hydrogens_at s a ≤ 4 → atom_fault s a ≡ 0
unfolding atom_fault
passes-atom s a h k l = simp (lt-ltb 0 (kind_at s a) h, le-leb (kind_at s a) 24 k, le-ltb 4 (hydrogens_at s a) l)

atoms-pass : (s : List ℕ) → atoms_fault s ≡ 0 → (a : ℕ) → a < atom_count s → (0 < kind_at s a) × (kind_at s a ≤ 24) × (hydrogens_at s a ≤ 4)
unfolding atoms_fault each
atoms-pass s e a h = atom-passes s a (first_fault-none (atom_fault s) (upto (atom_count s)) e a (mem_upto (atom_count s) a h))

bonds-pass : (s : List ℕ) → bonds_fault s ≡ 0 → (k : ℕ) → k < bond_count s → Fits (atom_count s) (bonds_to s k) (bond_at s k)
unfolding bonds_fault bond_fault each
bonds-pass s e k h = judged-fits (atom_count s) (bonds_to s k) (bond_at s k) (first_fault-none (bond_fault s) (upto (bond_count s)) e k (mem_upto (bond_count s) k h))

pub well_formed-checks : (s : List ℕ) → WellFormed s → Checks s
unfolding card_fault content_fault total_fault apart_fault
well_formed-checks s w =
    let card = provided (in_layout s) 1 (content_fault s) w in
    let counts = or_next-none (counts_fault s) _ card.1 in
    let atoms = or_next-none (atoms_fault s) _ counts.1 in
    let total = or_next-none (total_fault s) _ atoms.1 in
    let bonds = or_next-none (bonds_fault s) (apart_fault s) total.1 in
    let few = counts_pass s counts.0 in
    record {
      layout = card.0;
      some = few.0;
      atoms = few.1;
      bonds = few.2;
      low = λ a h. (atoms-pass s atoms.0 a h).0;
      known = λ a h. (atoms-pass s atoms.0 a h).1;
      few = λ a h. (atoms-pass s atoms.0 a h).2;
      total = ltb-false 128 _ (unless _ 3 0 total.0).0;
      fits = bonds-pass s bonds.0;
      connected = (provided (connected (molecule_of s)) 7 0 bonds.1).0;
    }

pass-atoms : (s : List ℕ) → Checks s → atoms_fault s ≡ 0
unfolding atoms_fault each
pass-atoms s C =
    none-first_fault (atom_fault s) (upto (atom_count s)) (λ a m. let h = of_upto (atom_count s) a m in passes-atom s a (C.low a h) (C.known a h) (C.few a h))

pass-bonds : (s : List ℕ) → Checks s → bonds_fault s ≡ 0
unfolding bonds_fault bond_fault each
pass-bonds s C =
    none-first_fault (bond_fault s) (upto (bond_count s))
    (λ k m. fits-judged (atom_count s) (bonds_to s k) (bond_at s k) (C.fits k (of_upto (bond_count s) k m)))

pub checks_well_formed : (s : List ℕ) → Checks s → WellFormed s
unfolding card_fault content_fault total_fault apart_fault
checks_well_formed s C =
    simp (C.layout, pass-counts s C.some C.atoms C.bonds, pass-atoms s C, le-ltb 128 _ C.total, pass-bonds s C, C.connected)

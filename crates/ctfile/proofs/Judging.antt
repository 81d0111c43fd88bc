-- A drawing that no check refuses passes each of them, said as a fact of its own.
use mathlib.Core.Bool.{Bool, true, false, cond, not, ◌&&◌, ◌||◌, true≢false}
use mathlib.Core.List.{List, map}
use mathlib.Core.Logic.{◌≢◌}
use mathlib.Core.Path.{◌≡◌, sym}
use Prim.Native.Nat.{ℕ, ◌<◌, ◌≤◌}
use native.Mathlib.Omega.{arith}
use lib.Dec.{eqb, leb, ltb}
use lib.ListN.{length, get_or, take}
use borrow.Author.Tests.{eqb-true, eqb-false, ltb-false, leb-false, not-false}
use Rattle.lists.specs.Upto.{upto, each, sum}
use Rattle.lists.specs.Tests.{keep, count, some}
use Rattle.lists.proofs.Booleans.{or_neither, unless, provided}
use Rattle.lists.proofs.Members.{get_or-mem}
use Rattle.lists.proofs.Tested.{some-true_count, some-false_below}
use Rattle.lists.proofs.Upto.{mem_upto}
use Rattle.molecule.specs.Bonds.{Bond, on}
use Rattle.molecule.specs.Molecule.{Molecule, hydrogens, connected}
use Rattle.molecule.proofs.Judging.{Fits, judged-fits, or_next-none, first_fault-none}
use Rattle.ctfile.specs.Filed.{Drawing}
use Rattle.ctfile.specs.Drawings.{is_h, to_h, folded, counts_fault, kinds_fault, taken_h, wrong_h, bond_fault, no_bond, bonds_fault, lone_fault, hydrogens_fault, apart_fault, drawing_fault}

-- a bond to an H keeps the H rule, after the bonds before it
pub record KeepsH (d : Drawing) (before : List Bond) (b : Bond) : Type 0 where
  pub heavy : (is_h d b.one && is_h d b.two) ≡ false
  pub single : b.code ≡ 1
  pub first_one : taken_h d before b.one ≡ false
  pub first_two : taken_h d before b.two ≡ false

-- b passes, after the bonds before it: a bond to an H by the H rule, any other as on a card
pub record Passes (d : Drawing) (before : List Bond) (b : Bond) : Type 0 where
  pub one : b.one < length d.kinds
  pub two : b.two < length d.kinds
  pub hydrogen : to_h d b ≡ true → KeepsH d before b
  pub other : to_h d b ≡ false → Fits (length d.kinds) (keep (λ x. not (to_h d x)) before) b

pub record Checks (d : Drawing) : Type 0 where
  pub some : 0 < count (map (λ k. not (eqb k 0)) d.kinds)
  pub atoms : count (map (λ k. not (eqb k 0)) d.kinds) ≤ 64
  pub bonds : count (map (λ b. not (to_h d b)) d.bonds) ≤ 80
  pub known : (p : ℕ) → p < length d.kinds → get_or d.kinds p 25 ≤ 24
  pub passes : (k : ℕ) → k < length d.bonds → Passes d (take k d.bonds) (get_or d.bonds k no_bond)
  pub held : (p : ℕ) → p < length d.kinds → is_h d p ≡ true → 0 < count (map (on p) d.bonds)
  pub few : (a : ℕ) → a < (folded d).size → hydrogens (folded d) a ≤ 4
  pub total : sum (each (folded d).size (hydrogens (folded d))) ≤ 128
  pub connected : connected (folded d) ≡ true

counts_pass : (d : Drawing) → counts_fault d ≡ 0
    → (0 < count (map (λ k. not (eqb k 0)) d.kinds)) × (count (map (λ k. not (eqb k 0)) d.kinds) ≤ 64) × (count (map (λ b. not (to_h d b)) d.bonds) ≤ 80)
unfolding counts_fault
counts_pass d e =
    let heavy = count (map (λ k. not (eqb k 0)) d.kinds) in
    let bonds = count (map (λ b. not (to_h d b)) d.bonds) in
    let w = unless (eqb heavy 0) 0 _ e in
    let l = unless _ 3 0 w.1 in
    let b = or_neither (ltb 64 heavy) (ltb 80 bonds) l.0 in
    let z : heavy ≢ 0 = eqb-false heavy 0 w.0 in
    (omega arith, ltb-false 64 heavy b.0, ltb-false 80 bonds b.1)

kinds-pass : (d : Drawing) → kinds_fault d ≡ 0 → (p : ℕ) → p < length d.kinds → get_or d.kinds p 25 ≤ 24
unfolding kinds_fault
kinds-pass d e p h =
    let k = get_or d.kinds p 25 in
    ltb-false 24 k (unless (ltb 24 k) 2 0 (first_fault-none (λ k. cond (ltb 24 k) 3 0) d.kinds e k (get_or-mem d.kinds p 25 h))).0

rule_kept : (d : Drawing) (before : List Bond) (b : Bond) → wrong_h d before b ≡ false → to_h d b ≡ true → KeepsH d before b
unfolding wrong_h
rule_kept d before b e h =
    let both = is_h d b.one && is_h d b.two in
    let wrong_code = not (eqb b.code 1) in
    let first = or_neither (both || wrong_code || taken_h d before b.one) (taken_h d before b.two) (passed (to_h d b) _ h e) in
    let code = or_neither (both || wrong_code) (taken_h d before b.one) first.0 in
    let heavy = or_neither both wrong_code code.0 in
    record { heavy = heavy.0; single = eqb-true b.code 1 (not-false _ heavy.1); first_one = code.1; first_two = first.1 }
  where
    passed : (s t : Bool) → s ≡ true → (s && t) ≡ false → t ≡ false
    passed true t p q = q
    passed false t p q = absurd (true≢false (sym p))

bond-passes : (d : Drawing) (before : List Bond) (b : Bond) → bond_fault d before b ≡ 0 → Passes d before b
unfolding bond_fault
bond-passes d before b e =
    let n = length d.kinds in
    let there = unless (leb n b.one || leb n b.two) 4 _ e in
    let inside = or_neither (leb n b.one) (leb n b.two) there.0 in
    let rule = unless (wrong_h d before b) 6 _ there.1 in
    record {
      one = leb-false n b.one inside.0;
      two = leb-false n b.two inside.1;
      hydrogen = rule_kept d before b rule.0;
      other = λ h. judged-fits n (keep (λ x. not (to_h d x)) before) b (judged (to_h d b) _ h rule.1);
    }
  where
    judged : (s : Bool) (m : ℕ) → s ≡ false → cond s 0 m ≡ 0 → m ≡ 0
    judged true m p q = absurd (true≢false p)
    judged false m p q = q

bonds-pass : (d : Drawing) → bonds_fault d ≡ 0 → (k : ℕ) → k < length d.bonds → Passes d (take k d.bonds) (get_or d.bonds k no_bond)
unfolding bonds_fault each
bonds-pass d e k h =
    let n = length d.bonds in
    let fault : ℕ → ℕ = λ i. bond_fault d (take i d.bonds) (get_or d.bonds i no_bond) in
    bond-passes d (take k d.bonds) (get_or d.bonds k no_bond) (first_fault-none fault (upto n) e k (mem_upto n k h))

lone_passes : (d : Drawing) → lone_fault d ≡ 0 → (p : ℕ) → p < length d.kinds → is_h d p ≡ true → 0 < count (map (on p) d.bonds)
unfolding lone_fault
lone_passes d e p h i =
    let lone : ℕ → Bool = λ q. is_h d q && not (some (map (on q) d.bonds)) in
    some-true_count (map (on p) d.bonds) (bonded (is_h d p) _ i (some-false_below (length d.kinds) lone (unless _ 6 0 e).0 p h))
  where
    bonded : (s t : Bool) → s ≡ true → (s && not t) ≡ false → t ≡ true
    bonded true t f g = not-false t g
    bonded false t f g = absurd (true≢false (sym f))

hydrogens-pass : (M : Molecule) → hydrogens_fault M ≡ 0 → ((a : ℕ) → a < M.size → hydrogens M a ≤ 4) × (sum (each M.size (hydrogens M)) ≤ 128)
unfolding hydrogens_fault
hydrogens-pass M e =
    let over : ℕ → Bool = λ a. ltb 4 (hydrogens M a) in
    let w = or_neither (some (each M.size over)) (ltb 128 (sum (each M.size (hydrogens M)))) (unless _ 3 0 e).0 in
    (λ a h. ltb-false 4 (hydrogens M a) (some-false_below M.size over w.0 a h), ltb-false 128 _ w.1)

pub checks : (d : Drawing) → drawing_fault d ≡ 0 → Checks d
unfolding drawing_fault apart_fault
checks d e =
    let counts = or_next-none (counts_fault d) _ e in
    let kinds = or_next-none (kinds_fault d) _ counts.1 in
    let bonds = or_next-none (bonds_fault d) _ kinds.1 in
    let lone = or_next-none (lone_fault d) _ bonds.1 in
    let hydrogens = or_next-none (hydrogens_fault (folded d)) _ lone.1 in
    let limits = counts_pass d counts.0 in
    let few = hydrogens-pass (folded d) hydrogens.0 in
    record {
      some = limits.0;
      atoms = limits.1;
      bonds = limits.2;
      known = kinds-pass d kinds.0;
      passes = bonds-pass d bonds.0;
      held = lone_passes d lone.0;
      few = few.0;
      total = few.1;
      connected = (provided (connected (folded d)) 7 0 hydrogens.1).0;
    }

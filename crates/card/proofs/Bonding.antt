-- The bonds of a card read one by one: the table so far, and the faults still to come.
use mathlib.Core.Bool.{true}
use mathlib.Core.List.{List}
use mathlib.Core.Logic.{◌≢◌}
use mathlib.Core.Path.{◌≡◌, sym, ◌∙◌, ap, subst}
use Prim.Native.Nat.{ℕ, ◌+◌, ◌*◌, ◌<◌, ◌≤◌}
use native.Mathlib.Omega.{arith}
use lib.ListN.{get_or}
use Rattle.molecule.specs.Bonds.{Bond}
use Rattle.molecule.specs.Layout.{atoms_length, in_layout, atom_count, bond_count, bond_at}
use Rattle.molecule.specs.Judged.{bond_fault, bonds_fault}
use Rattle.table.specs.declared.Table.{Table}
use Rattle.table.specs.View.{arrays_of, view_of}
use Rattle.table.specs.declared.rows.Rows.{Rows}
use Rattle.table.specs.Changes.{bond_of, RoomFor, BondPut}
use Rattle.table.proofs.Joins.{Joinable, Joined, rowed, bond-roomy, bond-joins}
use Rattle.std.specs.Prelude.{Result, Ok, Err}
use Rattle.refusal.specs.declared.Refusal.{Refusal}
use Rattle.refusal.specs.Numbers.{number_of}
use Rattle.card.specs.Tests.{bond_tested}
use Rattle.card.specs.Reading.{Holds, BondsRead}
use Rattle.card.proofs.Faults.{number_of-some, Rest, rest_start, rest_stop, rest_next, rest_end}
use Rattle.card.proofs.Layouts.{laid}
use Rattle.card.proofs.Holding.{tested_judged, holds_joinable, holds_bond}

pub record Bonding (s : List ℕ) (t : Table) (k : ℕ) : Type 0 where
  pub few : k ≤ bond_count s
  pub holds : Holds s (atom_count s) k t
  pub rest : bonds_fault s ≡ Rest (bond_fault s) (bond_count s) k

module _ (s : List ℕ) where
  pub bonding_start : (t : Table) → Holds s (atom_count s) 0 t → Bonding s t 0
  unfolding bonds_fault
  bonding_start t H = record { few = omega arith; holds = H; rest = rest_start (bond_fault s) (bond_count s) }

  -- the three bytes of a bond
  abbrev pub bond_in : ℕ → Bond
  bond_in at = bond_of (get_or s at 0) (get_or s (at + 1) 0) (get_or s (at + 2) 0)

  module _ (laid_out : in_layout s ≡ true) (n : ℕ) (e : n ≡ atom_count s) (t : Table) (k : ℕ) (B : Bonding s t k) where
    abbrev pub place : ℕ
    place = 2 * n + 6 + 3 * k

    bond-is : bond_in place ≡ bond_at s k
    unfolding bond_at
    bond-is = let p : place ≡ atoms_length s + 3 * k + 6 = omega (arith, e, (laid s laid_out).atoms) in ap bond_in p

    judged : bond_tested n t.rows.degrees t.rows.near t.rows.codes (bond_in place) ≡ bond_fault s k
    judged =
        ap (λ (m : ℕ). bond_tested m t.rows.degrees t.rows.near t.rows.codes (bond_in place)) e
        ∙ ap (bond_tested (atom_count s) t.rows.degrees t.rows.near t.rows.codes) bond-is ∙ tested_judged s k t B.holds

    bonding_joinable : bond_tested n t.rows.degrees t.rows.near t.rows.codes (bond_in place) ≡ 0 → Joinable (view_of t) (bond_in place)
    bonding_joinable z = subst (Joinable (view_of t)) (sym bond-is) (holds_joinable s k t B.holds (sym judged ∙ z))

    pub bonding_roomy : bond_tested n t.rows.degrees t.rows.near t.rows.codes (bond_in place) ≡ 0
        → RoomFor t.rows (get_or s place 0) × RoomFor t.rows (get_or s (place + 1) 0) × (get_or s place 0 ≢ get_or s (place + 1) 0)
    bonding_roomy z = bond-roomy (arrays_of t) B.holds.tidy (get_or s place 0) (get_or s (place + 1) 0) (get_or s (place + 2) 0) (bonding_joinable z)

    pub bonding_next : k < bond_count s → bond_tested n t.rows.degrees t.rows.near t.rows.codes (bond_in place) ≡ 0
        → (R : Rows) → BondPut t.rows (get_or s place 0) (get_or s (place + 1) 0) (get_or s (place + 2) 0) R → Bonding s (rowed t R) (k + 1)
    bonding_next l z R P =
        let w = bond-joins (arrays_of t) B.holds.tidy (get_or s place 0) (get_or s (place + 1) 0) (get_or s (place + 2) 0) (bonding_joinable z) R P in
        record {
          few = omega arith;
          holds = holds_bond s k t B.holds (sym judged ∙ z) (rowed t R) w.0 (subst (λ (b : Bond). Joined (view_of t) b (view_of (rowed t R))) bond-is w.1);
          rest = B.rest ∙ rest_next (bond_fault s) (bond_count s) k l (sym judged ∙ z);
        }

    pub bonding_stop : k < bond_count s → (q : Result Table Refusal) (r : Refusal) → q ≡ Err r
        → number_of r ≡ bond_tested n t.rows.degrees t.rows.near t.rows.codes (bond_in place) → BondsRead s q
    bonding_stop l q r e g = rw e (record {
      refusal =
          let w : bond_fault s k ≢ 0 = λ x. number_of-some r (g ∙ judged ∙ x) in
          g ∙ judged ∙ sym (B.rest ∙ rest_stop (bond_fault s) (bond_count s) k l w);
      table = tt;
    })

  pub bonding_done : (t : Table) (k : ℕ) → Bonding s t k → k ≡ bond_count s → BondsRead s (Ok t)
  bonding_done t k B e = record {
    refusal = sym (B.rest ∙ rest_end (bond_fault s) (bond_count s) k (omega arith));
    table = subst (λ (j : ℕ). Holds s (atom_count s) j t) e B.holds;
  }

-- The atoms of a card read one by one: the table so far, the total so far, and the faults still to come.
use mathlib.Core.Bool.{Bool, cond}
use mathlib.Core.List.{List}
use mathlib.Core.Logic.{◌≢◌}
use mathlib.Core.Path.{◌≡◌, refl, sym, ◌∙◌, ap, subst}
use Prim.Native.Nat.{ℕ, suc, ◌+◌, ◌*◌, ◌<◌, ◌≤◌}
use native.Mathlib.Omega.{arith}
use lib.ListN.{get_or, set}
use borrow.Author.Tests.{lt-ltb, le-ltb}
use Rattle.std.proofs.lemmas.Bool.Decides.{nat_tests}
use Rattle.lists.specs.Upto.{each, sum}
use Rattle.lists.proofs.Steps.{each-zero, sum-next}
use Rattle.molecule.specs.Kinds.{kind_of_number}
use Rattle.molecule.specs.Layout.{atom_count, kind_at, hydrogens_at}
use Rattle.molecule.specs.Judged.{atom_fault, atoms_fault, total_fault}
use Rattle.table.specs.declared.Table.{Table}
use Rattle.table.specs.View.{arrays_of, TidyTable}
use Rattle.table.proofs.Growing.{grown_tidy, grown}
use Rattle.std.specs.Prelude.{Result, Ok, Err}
use Rattle.refusal.specs.declared.Refusal.{Refusal}
use Rattle.refusal.specs.declared.Refusal.TheVariants.{OverLimit}
use Rattle.refusal.specs.Numbers.{number_of}
use Rattle.card.specs.Tests.{atom_tested}
use Rattle.card.specs.Reading.{Holds, AtomsRead}
use Rattle.card.proofs.Faults.{number_of-some, Rest, or_next-some, or_next-none, rest_start, rest_stop, rest_next, rest_end}
use Rattle.card.proofs.Holding.{holds_none, holds_atom}

-- the first a atoms
pub record Filling (s : List ℕ) (a : ℕ) (t : Table) (total : ℕ) : Type 0 where
  pub few : a ≤ atom_count s
  pub holds : Holds s a 0 t
  pub sums : total ≡ sum (each a (hydrogens_at s))
  pub low : total ≤ 4 * a
  pub rest : atoms_fault s ≡ Rest (atom_fault s) (atom_count s) a

tested_low : (k h : ℕ) → atom_tested k h ≡ 0 → h ≤ 4
tested_low k h e = grind (arith, nat_tests)

module _ (s : List ℕ) where
  pub filling_start : (t : Table) → t.n ≡ 0 → TidyTable t → Filling s 0 t 0
  unfolding atoms_fault sum
  filling_start t e T = record {
    few = omega arith;
    holds = holds_none s t e T;
    sums = sym (ap sum (each-zero (hydrogens_at s)));
    low = omega arith;
    rest = rest_start (atom_fault s) (atom_count s);
  }

  module _ (a : ℕ) (t : Table) (total : ℕ) (F : Filling s a t total) where
    module _ (l : a < atom_count s) where
      abbrev number : ℕ
      number = get_or s (2 * a + 3) 0

      abbrev h : ℕ
      h = get_or s (2 * a + 4) 0

      judged : atom_tested (kind_of_number number) h ≡ atom_fault s a
      unfolding atom_fault kind_at hydrogens_at
      judged = refl

      -- the table with the atom more
      abbrev pub grown_table : ℕ → Table
      grown_table k = record {
        n = a + 1;
        kinds = set t.kinds a k;
        hydrogens = set t.hydrogens a h;
        rows = record { degrees = set t.rows.degrees a 0; near = t.rows.near; codes = t.rows.codes };
      }

      holds_grown : (k : ℕ) → t.n < 64 → k ≡ kind_of_number number → Holds s (a + 1) 0 (grown_table k)
      unfolding kind_at hydrogens_at
      holds_grown k room e =
          let P : ℕ → Type 0 = λ i. Holds s (i + 1) 0 (record {
            n = i + 1;
            kinds = set t.kinds i k;
            hydrogens = set t.hydrogens i h;
            rows = record { degrees = set t.rows.degrees i 0; near = t.rows.near; codes = t.rows.codes };
          }) in
          subst P F.holds.size
          (holds_atom s a t _ k h F.holds (grown_tidy (arrays_of t) F.holds.tidy k h room) (grown (arrays_of t) F.holds.tidy k h room) e refl)

      pub filling_atom : a < 64 → (k : ℕ) → 0 ≡ atom_tested (kind_of_number number) h → k ≡ kind_of_number number → Filling s (a + 1) (grown_table k) (total + h)
      unfolding hydrogens_at
      filling_atom room k z e = record {
        few = omega arith;
        holds = holds_grown k (omega (arith, F.holds.size)) e;
        sums =
            let g : suc a ≡ a + 1 = omega arith in
            omega (arith, F.sums, sum-next a (hydrogens_at s), ap (λ (n : ℕ). sum (each n (hydrogens_at s))) g);
        low = omega (arith, F.low, tested_low (kind_of_number number) h (sym z));
        rest = F.rest ∙ rest_next (atom_fault s) (atom_count s) a l (sym judged ∙ sym z);
      }

      pub filling_stop : (q : Result Table Refusal) (r : Refusal) → q ≡ Err r → number_of r ≡ atom_tested (kind_of_number number) h → AtomsRead s q
      filling_stop q r e g = rw e (record {
        refusal =
            let w : atom_fault s a ≢ 0 = λ x. number_of-some r (g ∙ judged ∙ x) in
            let b : atoms_fault s ≡ number_of r = F.rest ∙ rest_stop (atom_fault s) (atom_count s) a l w ∙ sym (g ∙ judged) in
            sym b ∙ sym (or_next-some (atoms_fault s) (total_fault s) (λ x. number_of-some r (sym b ∙ x)));
        table = tt;
      })

    module _ (l : a ≡ atom_count s) where
      faultless : atoms_fault s ≡ 0
      faultless = F.rest ∙ rest_end (atom_fault s) (atom_count s) a (omega arith)

      all : total ≡ sum (each (atom_count s) (hydrogens_at s))
      all = F.sums ∙ ap (λ (n : ℕ). sum (each n (hydrogens_at s))) l

      pub filling_over : 128 < total → AtomsRead s (Err OverLimit)
      unfolding total_fault
      filling_over h = record {
        refusal =
            sym (or_next-none (atoms_fault s) (total_fault s) faultless ∙ ap (λ (b : Bool). cond {A = ℕ} b 4 0) (lt-ltb 128 _ (subst (λ (v : ℕ). 128 < v) all h)));
        table = tt;
      }

      pub filling_done : total ≤ 128 → AtomsRead s (Ok t)
      unfolding total_fault
      filling_done h = record {
        refusal = sym (or_next-none (atoms_fault s) (total_fault s) faultless ∙ ap (λ (b : Bool). cond {A = ℕ} b 4 0) (le-ltb 128 _ (subst (λ (v : ℕ). v ≤ 128) all h)));
        table = subst (λ (n : ℕ). Holds s n 0 t) l F.holds;
      }

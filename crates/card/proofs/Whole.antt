-- The reading of a card, put together: the first refusal in the order of document 01 stands.
use mathlib.Core.Bool.{Bool, true, false, cond, ◌||◌}
use mathlib.Core.List.{List}
use mathlib.Core.Path.{◌≡◌, refl, sym, ◌∙◌, ap}
use Prim.Native.Nat.{ℕ, zero, suc, ◌<◌, ◌≤◌}
use native.Mathlib.Omega.{arith}
use lib.Dec.{eqb, ltb}
use borrow.Author.Tests.{eqb-false, ltb-false}
use Rattle.molecule.specs.Molecule.{connected}
use Rattle.molecule.specs.Refusals.{or_next}
use Rattle.molecule.specs.Layout.{atom_count}
use Rattle.molecule.specs.Judged.{counts_fault, atoms_fault, total_fault, bonds_fault, apart_fault, content_fault, card_fault}
use Rattle.molecule.proofs.Sound.{Sound}
use Rattle.molecule.proofs.Alike.{sound-along}
use Rattle.molecule.proofs.Checked.{well_formed-sound}
use Rattle.table.specs.View.{view_of, TidyTable, EvenTable}
use Rattle.std.specs.Prelude.{Option, Some, None, Result, Ok, Err}
use Rattle.refusal.specs.declared.Refusal.{Refusal}
use Rattle.refusal.specs.declared.Refusal.TheVariants.{Malformed, NotConnected}
use Rattle.refusal.specs.Numbers.{number_of}
use Rattle.table.specs.declared.Table.{Table}
use Rattle.card.specs.declared.layout.Fields.{Fields}
use Rattle.card.specs.Tests.{fields_of}
use Rattle.card.specs.Reading.{AtomsRead, BondsRead, IsRead}
use Rattle.card.proofs.Faults.{number_of-some, or_next-some, or_next-none}
use Rattle.card.proofs.Layouts.{fields-sound, fields-broken}
use Rattle.card.proofs.Holding.{holds_all, holds_even}
use Rattle.card.proofs.Alike.{connected-alike}

or_next-assoc : (a b c : ℕ) → or_next a (or_next b c) ≡ or_next (or_next a b) c
or_next-assoc zero b c = refl
or_next-assoc (suc a) b c = refl

-- the test of the counts
abbrev pub counts_tested : ℕ → ℕ → ℕ
counts_tested n m = cond (eqb n 0) 1 (cond (ltb 64 n || ltb 80 m) 4 0)

pub counts_low : (n m : ℕ) → counts_tested n m ≡ 0 → (0 < n) × (n ≤ 64)
counts_low n m e = go (eqb n 0) (ltb 64 n) refl refl e
  where
    go : (p q : Bool) → eqb n 0 ≡ p → ltb 64 n ≡ q → cond {A = ℕ} p 1 (cond (q || ltb 80 m) 4 0) ≡ 0 → (0 < n) × (n ≤ 64)
    go true q f g e = absurd (omega arith)
    go false true f g e = absurd (omega arith)
    go false false f g e = let z = eqb-false n 0 f in (omega arith, ltb-false 64 n g)

module _ (s : List ℕ) where
  refuse : (q : Result Table Refusal) (r : Refusal) → q ≡ Err r → card_fault s ≡ number_of r → IsRead s q
  refuse q r e f = rw e (record { refusal = sym f; tidy = tt; view = tt })

  pub read-broken : ◌≡◌ {A = Option Fields} None (fields_of s) → IsRead s (Err Malformed)
  unfolding card_fault
  read-broken e = refuse _ Malformed refl (ap (λ (b : Bool). cond b (content_fault s) 2) (fields-broken s e))

  module _ (f : Fields) (F : Some f ≡ fields_of s) where
    counts : counts_tested f.atoms f.bonds ≡ counts_fault s
    unfolding counts_fault
    counts = ap (λ (g : Fields). counts_tested g.atoms g.bonds) (fields-sound s f F).1

    content : card_fault s ≡ or_next (counts_fault s) (or_next (atoms_fault s) (or_next (total_fault s) (or_next (bonds_fault s) (apart_fault s))))
    unfolding card_fault content_fault
    content = ap (λ (b : Bool). cond b (content_fault s) 2) (fields-sound s f F).0

    pub read-counts : (q : Result Table Refusal) (r : Refusal) → q ≡ Err r → number_of r ≡ counts_tested f.atoms f.bonds → IsRead s q
    read-counts q r e g = refuse q r e (content ∙ or_next-some (counts_fault s) _ (λ x. number_of-some r (g ∙ counts ∙ x)) ∙ sym (g ∙ counts))

    module _ (z : 0 ≡ counts_tested f.atoms f.bonds) where
      some-atoms : 0 < atom_count s
      some-atoms = omega (arith, ap (λ (g : Fields). g.atoms) (fields-sound s f F).1, counts_low f.atoms f.bonds (sym z))

      after-counts : card_fault s ≡ or_next (or_next (atoms_fault s) (total_fault s)) (or_next (bonds_fault s) (apart_fault s))
      after-counts =
          content ∙ or_next-none (counts_fault s) _ (sym counts ∙ sym z)
          ∙ or_next-assoc (atoms_fault s) (total_fault s) (or_next (bonds_fault s) (apart_fault s))

      pub read-atomic : (q : Result Table Refusal) (r : Refusal) → q ≡ Err r → AtomsRead s (Err r) → IsRead s q
      read-atomic q r e A =
          refuse q r e
          (after-counts ∙ ap (λ (w : ℕ). or_next w (or_next (bonds_fault s) (apart_fault s))) (sym A.refusal) ∙ or_next-some (number_of r) _ (number_of-some r))

      module _ (bare : Table) (A : AtomsRead s (Ok bare)) where
        after-atoms : card_fault s ≡ or_next (bonds_fault s) (apart_fault s)
        after-atoms = after-counts ∙ or_next-none _ _ (sym A.refusal)

        pub read-bonded : (q : Result Table Refusal) (r : Refusal) → q ≡ Err r → BondsRead s (Err r) → IsRead s q
        read-bonded q r e B =
            refuse q r e (after-atoms ∙ ap (λ (w : ℕ). or_next w (apart_fault s)) (sym B.refusal) ∙ or_next-some (number_of r) _ (number_of-some r))

        module _ (t : Table) (B : BondsRead s (Ok t)) where
          after-bonds : card_fault s ≡ apart_fault s
          after-bonds = after-atoms ∙ or_next-none _ _ (sym B.refusal)

          pub read-ready : TidyTable t × EvenTable t × (0 < t.n)
          read-ready =
              (B.table.tidy, holds_even s t B.table, omega (arith, B.table.size, some-atoms))

          apart : (p : Bool) → p ≡ connected (view_of t) → apart_fault s ≡ cond p 0 8
          unfolding apart_fault
          apart p q = ap (λ (b : Bool). cond {A = ℕ} b 0 8) (connected-alike (holds_all s t B.table) ∙ sym q)

          pub read-apart : (p : Bool) → p ≡ connected (view_of t) → p ≡ false → IsRead s (Err NotConnected)
          read-apart p q h = refuse _ NotConnected refl (after-bonds ∙ apart p q ∙ ap (λ (b : Bool). cond {A = ℕ} b 0 8) h)

          pub read_whole : (p : Bool) → p ≡ connected (view_of t) → p ≡ true → IsRead s (Ok t)
          read_whole p q h = record {
            refusal = sym (after-bonds ∙ apart p q ∙ ap (λ (b : Bool). cond {A = ℕ} b 0 8) h);
            tidy = B.table.tidy;
            view = holds_all s t B.table;
          }

-- the table of a card that was read is sound
pub read-sound : (s : List ℕ) (t : Table) → IsRead s (Ok t) → Sound (view_of t)
read-sound s t R = sound-along R.view (well_formed-sound s (sym R.refusal))

-- The first atom written, the walk begun, and what the walk's end says of the name.
use mathlib.Core.Bool.{Bool, false}
use mathlib.Core.List.Memᴰ
use mathlib.Core.List.{List, [], ◌∷◌, append-nil}
use mathlib.Core.Path.{◌≡◌, refl, sym, ap, subst, ◌∙◌}
use Prim.Native.Nat.{ℕ, zero, suc, ◌+◌, ◌*◌, ◌<◌, ◌≤◌}
use native.Mathlib.Omega.{arith}
use lib.ListN.{length, get_or, set, replicate, length-set, length-replicate, get_or-replicate}
use borrow.Author.Tests.{ne_eqb}
use Rattle.lists.specs.Tests.{some}
use Rattle.molecule.proofs.Sound.{Sound}
use Rattle.sling.specs.Items.{atom}
use Rattle.sling.specs.Walk.{finish, written}
use Rattle.sling.specs.Printed.{symbol_bytes, item_bytes, bytes, name_bytes}
use Rattle.table.specs.declared.Table.{Table}
use Rattle.table.specs.Arrays.{as_molecule}
use Rattle.table.specs.View.{arrays_of, view_of, TidyTable}
use Rattle.table.proofs.Views.{neighbours-row, code-slot}
use Rattle.std.specs.Prelude.{Option, Some, None}
use Rattle.std.proofs.lemmas.List.{get_or_default}
use Rattle.writing.specs.declared.Served.{Served}
use Rattle.writing.specs.declared.strokes.Pen.{Pen}
use Rattle.writing.specs.declared.walk.Sheet.{Sheet}
use Rattle.writing.specs.Shown.{size, begun, held, Lettered}
use Rattle.writing.specs.Walked.{Lent, Shows, Finishing}
use Rattle.writing.specs.Nameable.{Nameable}
use Rattle.writing.proofs.Bytes.{symbol-some}
use Rattle.writing.proofs.Further.{further_finish}

first-bytes : (k : ℕ) → bytes false (atom 1 k ∷ []) ≡ symbol_bytes k
unfolding bytes item_bytes
first-bytes k = append-nil (symbol_bytes k)

abbrev pub no_places : List (Option ℕ)
no_places = set (replicate 64 None) 0 (Some 0)

first-place : (k a : ℕ) → a < 64 → get_or no_places a None ≡ held (begun k).ranks (suc a)
first-place k zero h = refl
first-place k (suc a) h = get_or-replicate 63 a None None (omega arith) ∙ rw (ne_eqb 1 (suc (suc a)) (λ e. omega arith))

-- the pen and the sheet of the first atom
pub begun-size : (k : ℕ) → size (begun k) ≡ length (symbol_bytes k)
begun-size k = ap length (first-bytes k)

pub begun-letters : (k : ℕ) (p : Pen) → size (begun k) ≤ 2048 → p.name ≡ symbol_bytes k → p.next ≡ 1 → p.cursor ≡ 0 → p.digit ≡ false → Lettered p (begun k)
begun-letters k p h a e f g =
    record {
      room = omega (arith, begun-size k, ap length a);
      text = a ∙ sym (first-bytes k);
      digit = g;
      next = e;
      cursor = f;
      few = omega (arith, ap length a, symbol-some k);
    }

pub begun-shows : (k n : ℕ) (p : Pen) → n ≤ 64 → Lettered p (begun k) → Shows n (record { pen = p; places = no_places; traced = replicate 4096 false }) (begun k)
unfolding some
begun-shows k n p h l =
    record {
      text = l;
      notes =
          record {
            places_long = length-set {A = Option ℕ} (replicate 64 None) 0 (Some 0) ∙ length-replicate {A = Option ℕ} 64 None;
            traced_long = length-replicate {A = Bool} 4096 false;
            place = λ a i. first-place k a (omega arith);
            bond = λ a c i j. get_or-replicate {A = Bool} 4096 (64 * a + c) false false (omega arith);
            inside = λ c m. absurd (Memᴰ.not-nil m);
          };
    }

abbrev pub first_served : Served
first_served = record { atom = record { 0 = 0 }; place = 0 }

module _ (t : Table) (N : Nameable t) where
  lent : Lent t (view_of t)
  unfolding as_molecule
  lent =
      record {
        atoms = N.tidy.atoms;
        kinds_long = N.tidy.kinds_long;
        kind_of = λ a h. refl;
        hydrogens_of = λ a h. refl;
        few = N.tidy.few;
        row = λ a h. neighbours-row (arrays_of t) N.tidy a h;
        near_long = N.tidy.near_long;
        inside = N.tidy.inside;
        code_of = λ a p h k. code-slot (arrays_of t) N.tidy a h p k;
      }

  name-size : size (finish t.n (view_of t) 1 (begun (get_or t.kinds 0 0))) ≡ length (name_bytes (view_of t))
  unfolding as_molecule name_bytes written
  name-size = refl

  -- the first atom's kind, whatever would be read past the last
  first-kind : (y : ℕ) → get_or t.kinds 0 y ≡ get_or t.kinds 0 0
  first-kind y = get_or_default t.kinds 0 y 0 (omega (arith, N.tidy.kinds_long))

  pub first-known : ((a : ℕ) → a < t.n → get_or t.kinds a 0 ≤ 24) → (y : ℕ) → get_or t.kinds 0 y ≤ 24
  first-known known y = omega (arith, first-kind y, known 0 N.some)

  pub first-room : (y : ℕ) → size (begun (get_or t.kinds 0 y)) ≤ 2048
  first-room y =
      let m = (further_finish t.n (view_of t) 1 (begun (get_or t.kinds 0 0))).more in
      rw (first-kind y) (omega (arith, N.room, name-size))

  pub walk_ready : (s : Sheet) (y : ℕ) → ((n : ℕ) → n ≤ 64 → Shows n s (begun (get_or t.kinds 0 y)))
      → Finishing t s first_served t.n (view_of t) (begun (get_or t.kinds 0 0))
  unfolding as_molecule
  walk_ready s y S =
      record {
        lent = lent;
        shown = subst (λ (k : ℕ). Shows t.n s (begun k)) (first-kind y) (S t.n N.tidy.atoms);
        atom = N.some;
        on = (refl, refl);
        room = omega (arith, N.room, name-size);
      }

  -- the walk's end
  pub name-whole : (s : Sheet) → Shows (view_of t).size s (finish t.n (view_of t) 1 (begun (get_or t.kinds 0 0))) → s.pen.name ≡ name_bytes (view_of t)
  unfolding as_molecule name_bytes written
  name-whole s S = S.text.text

-- what a sound molecule's table, in rank order, brings
pub sound-nameable : (t : Table) → TidyTable t → Sound (view_of t) → length (name_bytes (view_of t)) ≤ 2048 → Nameable t
unfolding as_molecule
sound-nameable t T S h = record { tidy = T; some = S.some; room = h }

pub sound-known : (t : Table) → Sound (view_of t) → (a : ℕ) → a < t.n → get_or t.kinds a 0 ≤ 24
unfolding as_molecule
sound-known t S = S.known

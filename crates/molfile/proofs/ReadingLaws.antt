-- A file read: too long, broken at a line, or drawn and then judged.
use mathlib.Core.List.{List}
use mathlib.Core.Path.{◌≡◌, sym, ◌∙◌, ap, subst}
use Prim.Native.Nat.{ℕ, ◌<◌, ◌≤◌}
use borrow.Author.Tests.{lt-ltb, le-ltb}
use lib.ListN.{length}
use Rattle.std.specs.Prelude.{Ok, Err}
use Rattle.refusal.specs.declared.Refusal.{Refusal}
use Rattle.refusal.specs.declared.Refusal.TheVariants.{OverLimit, BrokenLine}
use Rattle.refusal.specs.declared.Refused.{Refused}
use Rattle.refusal.specs.Numbers.{number_of, at_start}
use Rattle.table.specs.declared.Table.{Table}
use Rattle.ctfile.specs.Filed.{Verdict, sound, broken, verdict, Drawing, drawing_of}
use Rattle.ctfile.specs.Drawings.{drawing_fault}
use Rattle.ctfile.specs.Molfiles.{most_file}
use Rattle.drawing.specs.Folding.{IsFolded}
use Rattle.molfile.specs.Reading.{refusal_by, place_by, file_fault, fault_place, IsRead}

module _ (s : List ℕ) where
  pub too_long : most_file < length s → IsRead s (Err (at_start OverLimit))
  unfolding file_fault fault_place
  too_long h = record { refusal = rw (lt-ltb most_file (length s) h); place = rw (lt-ltb most_file (length s) h); tidy = tt; view = tt }

  module _ (h : length s ≤ most_file) where
    fault_is : (v : Verdict) → verdict s ≡ v → (file_fault s ≡ refusal_by v (drawing_fault (drawing_of s))) × (fault_place s ≡ place_by v)
    unfolding file_fault fault_place
    fault_is v e = (rw (le-ltb most_file (length s) h, e), rw (le-ltb most_file (length s) h, e))

    pub broken-line : (e : Refused) → verdict s ≡ broken e.place → e.refusal ≡ BrokenLine → IsRead s (Err e)
    broken-line e v b =
        let w = fault_is (broken e.place) v in
        record { refusal = ap number_of b ∙ sym w.0; place = sym w.1; tidy = tt; view = tt }

    module _ (v : verdict s ≡ sound) (d : Drawing) (e : d ≡ drawing_of s) where
      w : (file_fault s ≡ drawing_fault (drawing_of s)) × (fault_place s ≡ 0)
      w = fault_is sound v

      pub judged-wrong : (r : Refusal) → IsFolded d (Err r) → IsRead s (Err (at_start r))
      judged-wrong r F = record { refusal = F.refusal ∙ ap drawing_fault e ∙ sym w.0; place = sym w.1; tidy = tt; view = tt }

      pub judged-right : (t : Table) → IsFolded d (Ok t) → IsRead s (Ok t)
      judged-right t F =
          let G = subst (λ x. IsFolded x (Ok t)) e F in
          record { refusal = G.refusal ∙ sym w.0; place = sym w.1; tidy = G.tidy; view = G.view }

-- A section passed line by line: one law for each way that its loop goes.
use Prim.Native.Nat.{ℕ, zero, suc, ◌+◌, ◌-◌, ◌≤◌, ◌<◌}
use mathlib.Core.Path.{◌≡◌, refl, sym, ap, ◌∙◌}
use mathlib.Core.List.{List, [], ◌∷◌, ◌++◌, map}
use mathlib.Core.Bool.{true, false}
use native.Mathlib.Nat.{sub-zero}
use native.Mathlib.Numerals.{add-one}
use native.Mathlib.Omega.{arith}
use lib.ListN.{length, take, drop, replicate, length-replicate, length-append}
use lib.Seq.{drop-drop}
use Rattle.std.specs.Prelude.{Ok, Err}
use Rattle.ctfile.specs.Lines as rules
use Rattle.ctfile.specs.Lines.{line_bytes}
use Rattle.ctfile.specs.Filed.{Verdict, broken, Form, judged_by}
use Rattle.molfile.specs.declared.line.Line.{Line}
use Rattle.molfile.specs.Cutting.{lines_at, line_of, IsLine}
use Rattle.molfile.specs.Passing.{broken_at, Passes, passed}
use Rattle.molfile.proofs.LineLaws.{no_lines}

-- of n lines due from an offset on, k are passed, and the next begins at p
pub record Onward (f : Form) (s : List ℕ) (at n k p : ℕ) : Type 0 where
  pub judged : (gs : List Form) (next : List rules.Line → Verdict)
      → judged_by (replicate n f ++ gs) (length s) next (lines_at s at) ≡ judged_by (replicate (n - k) f ++ gs) (length s) next (lines_at s p)
  pub behind : drop k (lines_at s at) ≡ lines_at s p
  pub there : length (passed s at k) ≡ k

one_less : (n k : ℕ) → k < n → n - k ≡ suc (n - (k + 1))
one_less n k h = omega arith

none_left : (n k : ℕ) → n ≤ k → n - k ≡ 0
none_left n k h = omega arith

pub onward_start : (f : Form) (s : List ℕ) (at n : ℕ) → Onward f s at n 0 at
onward_start f s at n = record { judged = λ gs next. rw (sub-zero n); behind = refl; there = refl }

-- the verdict on a line and those that follow
module _ (f : Form) (fs : List Form) (s : List ℕ) (next : List rules.Line → Verdict) (p : ℕ) where
  missing : length s ≤ p → judged_by (f ∷ fs) (length s) next (lines_at s p) ≡ broken (length s)
  unfolding judged_by
  missing h = rw (no_lines s p h)

  module _ (r : Line) (R : IsLine s p r) where
    refused : f (line_bytes (drop p s)) ≡ false → judged_by (f ∷ fs) (length s) next (lines_at s p) ≡ broken p
    unfolding judged_by
    refused e = rw (R.lines, e)

    taken : f (line_bytes (drop p s)) ≡ true → judged_by (f ∷ fs) (length s) next (lines_at s p) ≡ judged_by fs (length s) next (lines_at s r.next)
    unfolding judged_by
    taken e = rw (R.lines, e)

-- one line more of those that were taken
taken_more : {A B : Type 0} (g : A → B) (l : List A) (k : ℕ) (x : A) (rest : List A) → drop k l ≡ x ∷ rest
    → map g (take (suc k) l) ≡ map g (take k l) ++ (g x ∷ [])
taken_more g [] zero x rest e = absurd (cc)
taken_more g [] (suc k) x rest e = absurd (cc)
taken_more g (y ∷ l) zero x rest e = let q : y ≡ x = cc in ap (λ z. g z ∷ []) q
taken_more g (y ∷ l) (suc k) x rest e =
    ap (λ ys. g y ∷ ys) (taken_more g l k x rest e)

module _ (f : Form) (s : List ℕ) (at n k p : ℕ) (O : Onward f s at n k p) where
  pub onward_end : k ≡ n → Passes (replicate n f) s at (Ok p)
  onward_end h =
      record {
        judged = λ gs next. O.judged gs next ∙ rw (none_left n k (omega arith));
        behind = ap (λ (j : ℕ). drop j (lines_at s at)) (length-replicate n f ∙ sym h) ∙ O.behind;
        there = let e : length (replicate n f) ≡ k = length-replicate n f ∙ sym h in ap (λ (j : ℕ). length (passed s at j)) e ∙ O.there ∙ sym e;
        refusal = tt;
      }

  module _ (h : k < n) where
    here : (gs : List Form) (next : List rules.Line → Verdict)
        → judged_by (replicate n f ++ gs) (length s) next (lines_at s at) ≡ judged_by (f ∷ (replicate (n - (k + 1)) f ++ gs)) (length s) next (lines_at s p)
    here gs next = O.judged gs next ∙ rw (one_less n k h)

    pub onward_missing : length s ≤ p → Passes (replicate n f) s at (Err (broken_at (length s)))
    onward_missing m = record { judged = λ gs next. here gs next ∙ missing f _ s next p m; behind = tt; there = tt; refusal = refl }

    module _ (r : Line) (R : IsLine s p r) where
      pub onward_broken : f (line_bytes (drop p s)) ≡ false → Passes (replicate n f) s at (Err (broken_at p))
      onward_broken e = record { judged = λ gs next. here gs next ∙ refused f _ s next p r R e; behind = tt; there = tt; refusal = refl }

      pub passed_more : passed s at (k + 1) ≡ passed s at k ++ (line_bytes (drop p s) ∷ [])
      passed_more =
          ap (λ (j : ℕ). passed s at j) (add-one k)
          ∙ taken_more (λ (l : rules.Line). l.bytes) (lines_at s at) k (line_of s p) (lines_at s r.next) (O.behind ∙ R.lines)

      pub onward_next : f (line_bytes (drop p s)) ≡ true → Onward f s at n (k + 1) r.next
      onward_next e =
          record {
            judged = λ gs next. here gs next ∙ taken f _ s next p r R e;
            behind = sym (drop-drop 1 k (lines_at s at)) ∙ ap (λ (ls : List rules.Line). drop 1 ls) (O.behind ∙ R.lines);
            there = ap length passed_more ∙ length-append (passed s at k) (line_bytes (drop p s) ∷ []) ∙ ap (λ (j : ℕ). j + 1) O.there;
          }

-- The sections of a file, passed one by one.
use Rattle.std.specs.Prelude.{ℕ, ◌≡◌, List, ◌++◌, map, length, drop, take, Result, Ok, Err, IfOk}
use Rattle.ctfile.specs.Lines as rules
use Rattle.ctfile.specs.Filed.{Verdict, sound, broken, Form, judged_by, properties}
use Rattle.refusal.specs.declared.Refusal.TheVariants.{BrokenLine}
use Rattle.refusal.specs.declared.Refused.{Refused}
use Rattle.molfile.specs.Cutting.{lines_at}

-- "11 for a broken or unsupported line, with the line's byte offset"
abbrev pub broken_at : ℕ → Refused
broken_at p = record { refusal = BrokenLine; place = p }

abbrev pub IsBroken : {A : Type 0} → Result A Refused → Type 0
IsBroken (Ok _) = Unit {0}
IsBroken (Err e) = e.refusal ≡ BrokenLine

-- the verdict, where what follows a section is judged by the offset at which it begins
abbrev pub onward : Result ℕ Refused → (ℕ → Verdict) → Verdict
onward (Ok p) next = next p
onward (Err e) next = broken e.place

-- the bytes of so many lines from an offset on
abbrev pub passed : List ℕ → (at n : ℕ) → List (List ℕ)
passed s at n = map (λ l. l.bytes) (take n (lines_at s at))

-- "Lines are judged in order, each in the form due at its place": lines of these forms from an offset on, whatever follows them. What is
-- given is the offset of the line that follows, or the place of a faulty one.
pub record Passes (fs : List Form) (s : List ℕ) (at : ℕ) (r : Result ℕ Refused) : Type 0 where
  pub judged : (gs : List Form) (next : List rules.Line → Verdict)
      → judged_by (fs ++ gs) (length s) next (lines_at s at) ≡ onward r (λ p. judged_by gs (length s) next (lines_at s p))
  pub behind : IfOk r (λ p. drop (length fs) (lines_at s at) ≡ lines_at s p)
  pub there : IfOk r (λ p. length (passed s at (length fs)) ≡ length fs)
  pub refusal : IsBroken r

-- "property lines to `M  END`, where reading ends"
abbrev pub verdict_of : {A : Type 0} → Result A Refused → Verdict
verdict_of (Ok _) = sound
verdict_of (Err e) = broken e.place

pub record Ends (s : List ℕ) (at atoms : ℕ) (r : Result (Unit {0}) Refused) : Type 0 where
  pub judged : properties (length s) atoms (lines_at s at) ≡ verdict_of r
  pub refusal : IsBroken r

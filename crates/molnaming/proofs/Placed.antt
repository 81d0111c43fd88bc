-- Where a refused line stands: the words for its place.
use mathlib.Core.List.{List, [], ◌++◌}
use mathlib.Core.Path.{◌≡◌, sym}
use Prim.Native.Nat.{ℕ, ◌+◌}
use native.Mathlib.Omega.{arith}
use lib.ListN.{length, take, take-append-drop}
use borrow.Author.Tests.{eq-eqb, ne_eqb}
use Rattle.lists.specs.Quoted as quoted
use Rattle.ctfile.specs.Lines.{lines_of}
use Rattle.lines.specs.Numbers.{decimal_of}
use Rattle.lines.specs.Written.{Puts}
use Rattle.molnaming.specs.Lines.{line_number, place_of}

abbrev pub at-line : (place line : ℕ) → List ℕ
at-line place line = quoted.bytes_of " at byte " ++ (decimal_of place ++ (quoted.bytes_of ", line " ++ decimal_of line))

pub line_is : (file : List ℕ) (place begun : ℕ) → begun ≡ length (lines_of (take place file)) → 1 + begun ≡ line_number file place
unfolding line_number
line_is file place begun e = omega (arith, e)

module _ (file : List ℕ) (refusal place : ℕ) where
  pub placed : (line : ℕ) → refusal ≡ 11 → line ≡ line_number file place → at-line place line ≡ place_of file refusal place
  unfolding place_of
  placed line e l = rw (eq-eqb refusal 11 e, l)

  pub not_placed : (refusal ≡ 11 → ⊥) → [] ≡ place_of file refusal place
  unfolding place_of
  not_placed n = rw (ne_eqb refusal 11 n)

pub puts_none : (b : List ℕ) (at : ℕ) → Puts [] b at b at
puts_none b at = record { long = omega arith; is = sym (take-append-drop at b) }

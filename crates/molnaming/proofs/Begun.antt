-- The lines that begin in a file, counted byte by byte.
use mathlib.Core.Bool.{Bool, true, false, cond}
use mathlib.Core.List.{List}
use mathlib.Core.Path.{◌≡◌, refl, ap, ◌∙◌}
use Prim.Native.Nat.{ℕ, suc, ◌+◌, ◌<◌, ◌≤◌}
use native.Mathlib.Numerals.{add-one}
use native.Mathlib.Omega.{arith}
use lib.Dec.{eqb}
use lib.ListN.{length, get_or, drop, drop_of_length-le}
use lib.Seq.{drop-cons}
use Rattle.ctfile.specs.Lines.{lines_from, lines_of}

-- how many lines begin from i on, where one begins at i or not
abbrev pub begun : List ℕ → Bool → ℕ → ℕ
begun s b i = length (lines_from (drop i s) b i)

pub begun_all : (s : List ℕ) → begun s true 0 ≡ length (lines_of s)
unfolding lines_of
begun_all s = refl

pub begun_none : (s : List ℕ) (b : Bool) (i : ℕ) → length s ≤ i → begun s b i ≡ 0
unfolding lines_from
begun_none s b i h = ap (λ (l : List ℕ). length (lines_from l b i)) (drop_of_length-le s h)

pub begun_next : (s : List ℕ) (b : Bool) (i : ℕ) → i < length s → begun s b i ≡ cond b 1 0 + begun s (eqb (get_or s i 0) 10) (i + 1)
unfolding lines_from
begun_next s b i h = ap (λ (l : List ℕ). length (lines_from l b i)) (drop-cons s i 0 h) ∙ go b
  where
    go : (t : Bool) → length (lines_from (List.◌∷◌ (get_or s i 0) (drop (suc i) s)) t i) ≡ cond t 1 0 + begun s (eqb (get_or s i 0) 10) (i + 1)
    go true = rw (add-one i) (omega arith)
    go false = rw (add-one i) (omega arith)

-- A text that is not read to its end is refused with a number that is not 0.
use mathlib.Core.Bool.{Bool, true, false, cond}
use mathlib.Core.List.{List, [], ◌∷◌}
use mathlib.Core.Logic.{◌≢◌}
use Prim.Native.Nat.{ℕ, zero, suc}
use native.Mathlib.Omega.{arith}
use lib.Dec.{ltb, eqb}
use lib.ListN.{length}
use Rattle.sling.specs.Scanned.{Token, tok, bad, tokens}
use Rattle.sling.specs.Reading.{State, start, after}
use Rattle.sling.specs.Faults.{Outcome, stopped, finished, item_fault, judged, run}
use Rattle.sling.specs.Folded.{lone_h, ended, read_text, most_text}

abbrev pub Proper : Outcome → Type 0
Proper (stopped n p) = n ≢ 0
Proper (finished st) = Unit

run-proper : (ts : List Token) (st : State) → Proper (run ts st)
unfolding run
run-proper [] st = tt
run-proper (bad o ∷ ts) st = λ e. omega arith
run-proper (tok o i ∷ ts) st = go (item_fault st i) (run-proper ts (after st i))
  where
    go : (n : ℕ) → Proper (run ts (after st i)) → Proper (judged n o (after st i) (run ts))
    go zero ih = ih
    go (suc n) ih = λ e. omega arith

ended-proper : (o : Outcome) (size : ℕ) → Proper o → Proper (ended o size)
ended-proper (stopped n p) size h = h
ended-proper (finished st) size h = go (lone_h st)
  where
    go : (b : Bool) → Proper (cond b (stopped 7 size) (finished st))
    go true = λ e. omega arith
    go false = tt

pub read_text-proper : (s : List ℕ) → Proper (read_text s)
unfolding read_text
read_text-proper s = go (eqb (length s) 0) (ltb most_text (length s))
  where
    go : (b c : Bool) → Proper (cond b (stopped 1 0) (cond c (stopped 4 0) (ended (run (tokens s 0 0) start) (length s))))
    go true c = λ e. omega arith
    go false true = λ e. omega arith
    go false false = ended-proper (run (tokens s 0 0) start) (length s) (run-proper (tokens s 0 0) start)

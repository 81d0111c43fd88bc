-- The vocabulary at work, by computation.
use mathlib.Core.Bool.{true, false}
use mathlib.Core.List.{[], ◌∷◌}
use mathlib.Core.Path.{◌≡◌, refl}
use Prim.Native.Nat.{Ordering}
use Prim.Native.Nat.{compare}
use lib.Dec.{eqb, ltb}
use Rattle.lists.specs.Upto.{upto, each, sum}
use Rattle.lists.specs.Tests.{keep, count, every, some, find}
use Rattle.lists.specs.Order.{lex, both, down, sort, least}
use Rattle.lists.specs.Quoted.{bytes_of, hex}
use Rattle.lists.proofs.Open.{lists}

below : upto 4 ≡ 0 ∷ 1 ∷ 2 ∷ 3 ∷ []
unfolding lists
below = refl

kept : keep (ltb 1) (upto 4) ≡ 2 ∷ 3 ∷ []
unfolding lists
kept = refl

counted : count (each 4 (ltb 1)) ≡ 2
unfolding lists
counted = refl

all : every (each 3 (ltb 1)) ≡ false
unfolding lists
all = refl

one : some (each 3 (ltb 1)) ≡ true
unfolding lists
one = refl

found : find (eqb 7) (5 ∷ 7 ∷ 7 ∷ []) ≡ 1
found = refl

not_found : find (eqb 8) (5 ∷ 7 ∷ 7 ∷ []) ≡ 3
not_found = refl

total : sum (5 ∷ 7 ∷ 7 ∷ []) ≡ 19
unfolding lists
total = refl

-- as numbers 9 comes before 10
ascending : sort compare (10 ∷ 9 ∷ 2 ∷ 9 ∷ []) ≡ 2 ∷ 9 ∷ 9 ∷ 10 ∷ []
unfolding lists
ascending = refl

descending : sort (down (both compare compare)) ((2, 9) ∷ (9, 1) ∷ (9, 2) ∷ []) ≡ (9, 2) ∷ (9, 1) ∷ (2, 9) ∷ []
unfolding lists
descending = refl

first-difference : lex compare (1 ∷ 9 ∷ 5 ∷ []) (1 ∷ 10 ∷ []) ≡ Ordering.lt
unfolding lists
first-difference = refl

smallest : least compare 0 (3 ∷ 2 ∷ 5 ∷ []) ≡ 2
unfolding lists
smallest = refl

hexadecimal : hex "43 6c 4f" ≡ bytes_of "ClO"
unfolding lists
hexadecimal = refl

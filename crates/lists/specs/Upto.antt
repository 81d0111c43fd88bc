-- The numbers below a bound, and something of each.
use Rattle.std.specs.Prelude.{List, [], ◌∷◌, map, ℕ, zero, suc, ◌+◌}

-- k, k + 1, .., so many numbers in all
unfoldable pub from : ℕ → ℕ → List ℕ
from k zero = []
from k (suc n) = k ∷ from (suc k) n

abbrev pub upto : ℕ → List ℕ
upto n = from 0 n

-- f 0, f 1, .., f (n - 1)
unfoldable pub each : {A : Type 0} → ℕ → (ℕ → A) → List A
each n f = map f (upto n)

unfoldable pub sum : List ℕ → ℕ
sum [] = 0
sum (x ∷ l) = x + sum l

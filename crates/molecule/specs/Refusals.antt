-- Document 01, "Numbers of refusal": 0 means accepted; 1 no atoms, 2 layout or grammar, 3 kind, 4 limit, 5 atom or place not there,
-- 6 bond, 7 H rule, 8 not connected, 9 allowance, 10 room.
use mathlib.Core.List.{List, foldr}
use Rattle.std.specs.Prelude.{ℕ, zero, suc}

-- the first fault stands, and the next is looked at only where there is none
abbrev pub or_next : ℕ → ℕ → ℕ
or_next zero n = n
or_next (suc m) n = suc m

unfoldable pub first_fault : List ℕ → ℕ
first_fault l = foldr or_next 0 l

-- The flood from atom 0, as it is kept in arrays: connectedness is decided by it.
use Rattle.std.specs.Prelude.{Bool, true, false, cond, List, [], ◌∷◌, ◌≡◌, ℕ, ◌+◌, length, get_or, set, replicate}
use Rattle.table.specs.declared.flood.Flood.{Flood}
use Rattle.lists.specs.Upto.{each}
use Rattle.lists.specs.Tests.{count}

-- atom 0 was seen, and waits in the queue
abbrev pub flood_start : Flood
flood_start = record { seen = set (replicate 64 false) 0 true; queue = replicate 64 0; end = 1 }

abbrev pub is_seen : Flood → ℕ → Bool
is_seen f b = get_or f.seen b false

abbrev added : Flood → ℕ → Flood
added f b = record { seen = set f.seen b true; queue = set f.queue f.end b; end = f.end + 1 }

-- an atom that was not seen before joins the queue
unfoldable pub see : Flood → ℕ → Flood
see f b = cond (is_seen f b) f (added f b)

unfoldable pub see_all : Flood → List ℕ → Flood
see_all f [] = f
see_all f (b ∷ l) = see_all (see f b) l

-- as many stand in the queue as were seen
pub record Counted (f : Flood) : Type 0 where
  pub seen_long : length f.seen ≡ 64
  pub queue_long : length f.queue ≡ 64
  pub end : f.end ≡ count (each 64 (is_seen f))

-- What writing into a lent buffer comes to.
use Rattle.std.specs.Prelude.{cond, List, ◌++◌, ◌≡◌, ℕ, ltb, length, drop, Result, Ok, Err}
use Rattle.refusal.specs.declared.Refusal.{Refusal}
use Rattle.refusal.specs.declared.Refusal.TheVariants.{NoRoom}

-- "10: lent output shorter than what must be written", and "no lent byte differs from before"; else the bytes, and "the bytes after the output
-- are as before"
pub record Written (bytes before after : List ℕ) (r : Result ℕ Refusal) : Type 0 where
  pub answer : r ≡ cond (ltb (length before) (length bytes)) (Err NoRoom) (Ok (length bytes))
  pub left : after ≡ cond (ltb (length before) (length bytes)) before (bytes ++ drop (length bytes) before)

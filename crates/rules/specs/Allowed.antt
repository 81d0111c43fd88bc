-- Document 01, "What each contract has to pin": what a public function's contract says of a call.
use Rattle.std.specs.Prelude.{List, ◌≡◌, ℕ, length}
use Rattle.rules.specs.Answers.{Answer, at_exit}

-- what a call leaves: the numbers that it returns, and the lent bytes at exit
pub record Result : Type 0 where
  pub refusal : ℕ
  pub place : ℕ
  pub leaves : ℕ
  pub length : ℕ
  pub lent : List ℕ

-- "determines number, place, counts, lengths and the final bytes of each buffer": the contract of a call whose answer is a
pub record Allowed (a : Answer) (before : List ℕ) (r : Result) : Type 0 where
  pub refusal : r.refusal ≡ a.refusal
  pub place : r.place ≡ a.place
  pub leaves : r.leaves ≡ a.leaves
  pub written : r.length ≡ length a.bytes
  pub lent : r.lent ≡ at_exit a before

-- 'Card of a text' answered: the numbers returned and the lent bytes at exit are those of the rules' answer.
use Rattle.std.specs.Prelude.{ℕ, ◌≡◌, List, length, Result, Ok, Err}
use Rattle.refusal.specs.declared.Refused.{Refused}
use Rattle.refusal.specs.Numbers.{refused_in, place_in}
use Rattle.sling.specs.Reading as rules
use Rattle.sling.specs.Faults.{finished}
use Rattle.sling.specs.Folded.{ended}
use Rattle.rules.specs.Answers.{Answer, read_into, card_of, at_exit}

-- "Every refusal returns its number, a place [..] and length 0"
abbrev pub length_in : Result ℕ Refused → ℕ
length_in (Ok n) = n
length_in (Err p) = 0

pub record Answered (text lent after : List ℕ) (r : Result ℕ Refused) : Type 0 where
  pub refusal : refused_in r ≡ (card_of text (length lent)).refusal
  pub place : place_in r ≡ (card_of text (length lent)).place
  pub size : length_in r ≡ length (card_of text (length lent)).bytes
  pub left : after ≡ at_exit (card_of text (length lent)) lent

-- the same of an answer
pub record Answers (a : Answer) (lent after : List ℕ) (r : Result ℕ Refused) : Type 0 where
  pub refusal : refused_in r ≡ a.refusal
  pub place : place_in r ≡ a.place
  pub size : length_in r ≡ length a.bytes
  pub left : after ≡ at_exit a lent

-- what is answered once all of a text of so many bytes is read
abbrev pub Writes : rules.State → (size : ℕ) → (lent after : List ℕ) → Result ℕ Refused → Type 0
Writes s size lent after r = Answers (read_into (ended (finished s) size) (length lent) size) lent after r

-- What a function that prints leaves in a lent buffer.
use Rattle.std.specs.Prelude.{List, [], ◌∷◌, ◌++◌, ◌≡◌, ℕ, ◌+◌, length, take, drop}
use Rattle.lines.specs.Numbers.{decimal_of}

-- xs at the start, and the rest as it was
unfoldable pub fronted : (xs buffer : List ℕ) → List ℕ
fronted xs buffer = xs ++ drop (length xs) buffer

-- xs is printed, and its length answered
pub record Prints (xs before after : List ℕ) (length' : ℕ) : Type 0 where
  pub long : length' ≡ length xs
  pub is : after ≡ fronted xs before

-- xs is put behind the first `at` bytes, which makes `next` bytes, and the rest is as it was
pub record Puts (xs before : List ℕ) (at : ℕ) (after : List ℕ) (next : ℕ) : Type 0 where
  pub long : next ≡ at + length xs
  pub is : after ≡ take at before ++ (xs ++ drop next before)

-- - for what is empty
abbrev pub or_dash : List ℕ → List ℕ
or_dash [] = 45 ∷ []
or_dash (b ∷ l) = b ∷ l

-- a number and a blank
unfoldable pub numbered : ℕ → List ℕ
numbered n = decimal_of n ++ (32 ∷ [])

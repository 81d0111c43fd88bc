-- Document 01, "What a molecule is here": bonds as a card or a text lists them.
use Rattle.std.specs.Prelude.{Bool, cond, ◌&&◌, ◌||◌, List, [], ◌∷◌, ℕ, eqb}

-- "A bond joins two different atoms [..] with code 1 single, 2 double, 3 triple, 4 delocalised."
pub record Bond : Type 0 where
  pub one : ℕ
  pub two : ℕ
  pub code : ℕ

-- p is an end of b
abbrev pub on : ℕ → Bond → Bool
on p b = eqb b.one p || eqb b.two p

-- p and q are its ends, either way round
abbrev pub joins : ℕ → ℕ → Bond → Bool
joins p q b = eqb b.one p && eqb b.two q || eqb b.one q && eqb b.two p

-- the code of the bond that joins p and q, 0 where none does
abbrev pub code_in : List Bond → ℕ → ℕ → ℕ
code_in [] p q = 0
code_in (b ∷ bs) p q =
    let rest = code_in bs p q in
    cond (joins p q b) b.code rest

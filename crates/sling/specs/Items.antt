-- Document 01, "The text": the three kinds of item.
use Rattle.std.specs.Prelude.{ℕ}

-- "A number names an atom by place, from 0, hydrogens counted. `-k` means k steps up"
pub data Target : Type 0 where
  at : (place : ℕ) → Target
  up : (steps : ℕ) → Target

-- "Atom [..] Reference [..] Ring bond". A mark is given as its bond's code, 1 for none; a symbol as its kind, 0 for H and 25 for no symbol.
pub data Item : Type 0 where
  atom : (code kind : ℕ) → Item
  reference : Target → Item
  ring : (code : ℕ) → Target → Item

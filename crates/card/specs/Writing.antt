-- The bytes of a card, from the table's arrays.
use Rattle.std.specs.Prelude.{cond, ◌≡◌, ℕ, ◌+◌, ◌*◌, ltb, length, get_or}
use mathlib.Core.List.{List, [], ◌∷◌, flatten}
use Rattle.std.proofs.lemmas.List.Edits.{sets}
use Rattle.lists.specs.Upto.{each, sum}
use Rattle.molecule.specs.Kinds.{number_of}
use Rattle.card.specs.declared.writing.Writer.{Writer}

-- two bytes for an atom
abbrev pub atom_piece : (kinds hydrogens : List ℕ) → ℕ → List ℕ
atom_piece kinds hydrogens a = number_of (get_or kinds a 0) ∷ get_or hydrogens a 0 ∷ []

-- three bytes for a bond to a higher atom
abbrev pub bond_piece : ℕ → ℕ → ℕ → List ℕ
bond_piece a b code = cond (ltb a b) (a ∷ b ∷ code ∷ []) []

-- the bond at a slot of the row of a
abbrev pub slot_piece : (near codes : List ℕ) → ℕ → ℕ → List ℕ
slot_piece near codes a p = bond_piece a (get_or near (6 * a + p) 0) (get_or codes (6 * a + p) 0)

unfoldable pub row_bytes : (degrees near codes : List ℕ) → ℕ → List ℕ
row_bytes degrees near codes a = flatten (each (get_or degrees a 0) (slot_piece near codes a))

-- how many bytes that is
unfoldable pub row_length : (degrees near : List ℕ) → ℕ → ℕ
row_length degrees near a = sum (each (get_or degrees a 0) (λ p. cond (ltb a (get_or near (6 * a + p) 0)) 3 0))

-- bytes were written from `at` on, and nothing else; the next place is after them
pub record Wrote (out : List ℕ) (at : ℕ) (bytes after : List ℕ) (next : ℕ) : Type 0 where
  pub is : after ≡ sets out at bytes
  pub ends : next ≡ at + length bytes

-- the bytes were written from the writer's place on, and it still holds the same buffer
pub record PutIn (w : Writer) (bytes : List ℕ) (w' : Writer) : Type 0 where
  pub same : w'.out.ghost_name ≡ w.out.ghost_name
  pub wrote : Wrote w.out.now w.at bytes w'.out.now w'.at

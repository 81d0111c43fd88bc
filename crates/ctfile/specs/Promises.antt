-- What document 02, §1, promises of molfiles, as types. Every one is proved under proofs/.
use mathlib.Core.List.{List, [], ◌∷◌, map, Permᴰ}
use Rattle.std.specs.Prelude.{◌≡◌, ℕ, ◌<◌, ◌≤◌, length, get_or}
use Rattle.lists.specs.Shuffle.{Shuffle}
use Rattle.molecule.specs.Bonds.{Bond, code_in}
use Rattle.molecule.specs.Molecule.{Molecule}
use Rattle.molecule.specs.Renumbering.{Renumbered}
use Rattle.molecule.specs.Judged.{WellFormed}
use Rattle.molecule.specs.Written.{card_bytes}
use Rattle.rules.specs.Answers.{name_of}
use Rattle.rules.specs.Allowed.{Result}
use Rattle.rules.specs.Promises.{KeptBy}
use Rattle.ctfile.specs.Filed.{sound, verdict, Drawing, drawing_of}
use Rattle.ctfile.specs.Drawings.{folded, drawing_fault}
use Rattle.ctfile.specs.Molfiles.{most_file, name_of_molfile, MolfileRun}

-- none of 11 and 1 to 8 refuses the file
pub record WellFormedFile (file : List ℕ) : Type 0 where
  pub short : length file ≤ most_file
  pub lines : verdict file ≡ sound
  pub drawing : drawing_fault (drawing_of file) ≡ 0

-- ---- Kept: what was lent comes back, and a refused call changes no byte of it

abbrev pub AlwaysKept : Type 0
AlwaysKept = (file : List ℕ) (allowance : ℕ) (lent : List ℕ) → KeptBy (name_of_molfile file allowance (length lent)) lent

-- ---- Same: "Renumbering the file's atoms must not change the name", refusals 9 and 10 included

-- a drawing as a molecule, H among its atoms: a renumbering of it keeps each atom's symbol and the code of every two atoms
abbrev pub drawn : Drawing → Molecule
drawn d = record { size = length d.kinds; label = λ a. get_or d.kinds a 25 ∷ []; code = code_in d.bonds }

abbrev pub AlwaysSame : Type 0
AlwaysSame =
    (σ : ℕ → ℕ) (file file' : List ℕ) → WellFormedFile file → WellFormedFile file'
    → Renumbered σ (drawn (drawing_of file)) (drawn (drawing_of file'))
    → (allowance room : ℕ) → name_of_molfile file' allowance room ≡ name_of_molfile file allowance room

-- and so of what two calls return and leave in the lent buffer
abbrev pub SameRuns : Type 0
SameRuns =
    (σ : ℕ → ℕ) (file file' : List ℕ) → WellFormedFile file → WellFormedFile file'
    → Renumbered σ (drawn (drawing_of file)) (drawn (drawing_of file'))
    → (allowance : ℕ) (lent : List ℕ) (r r' : Result) → MolfileRun file allowance lent r → MolfileRun file' allowance lent r' → r ≡ r'

-- the same by lines: the atom lines in another order, the bond lines with the new numbers and in any order
abbrev pub moved : (ℕ → ℕ) → Bond → Bond
moved σ b = record { one = σ b.one; two = σ b.two; code = b.code }

pub record Redrawn (σ : ℕ → ℕ) (d d' : Drawing) : Type 0 where
  pub atoms : length d'.kinds ≡ length d.kinds
  pub shuffle : Shuffle σ (length d.kinds)
  pub kinds : (a : ℕ) → a < length d.kinds → get_or d'.kinds (σ a) 25 ≡ get_or d.kinds a 25
  pub bonds : Permᴰ (map (moved σ) d.bonds) d'.bonds

abbrev pub AlwaysSameLines : Type 0
AlwaysSameLines =
    (σ : ℕ → ℕ) (file file' : List ℕ) → WellFormedFile file → WellFormedFile file' → Redrawn σ (drawing_of file) (drawing_of file')
    → (allowance room : ℕ) → name_of_molfile file' allowance room ≡ name_of_molfile file allowance room

-- ---- As a card: a molfile and the card that it folds to get the same name and leaf count

pub record AsCard (file : List ℕ) : Type 0 where
  pub well_formed : WellFormed (card_bytes (folded (drawing_of file)))
  pub named : (allowance room : ℕ) → name_of_molfile file allowance room ≡ name_of (card_bytes (folded (drawing_of file))) allowance room

abbrev pub AlwaysAsCard : Type 0
AlwaysAsCard = (file : List ℕ) → WellFormedFile file → AsCard file

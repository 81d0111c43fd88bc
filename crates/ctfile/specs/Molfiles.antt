-- Document 02, §1: the name of a molfile, whole.
use Rattle.std.specs.Prelude.{cond, List, ℕ, ltb, length}
use Rattle.rules.specs.Answers.{Answer, refused, numbered, unless_faulty, name_out}
use Rattle.rules.specs.Allowed.{Result, Allowed}
use Rattle.ctfile.specs.Filed.{Verdict, sound, broken, verdict, Drawing, drawing_of}
use Rattle.ctfile.specs.Drawings.{folded, drawing_fault}

-- "A file longer than 65,536 bytes is 4 before all else."
abbrev pub most_file : ℕ
most_file = 65536

-- the order that follows 11, and then the card's 9 and 10
unfoldable pub name_of_drawing : Drawing → (allowance room : ℕ) → Answer
name_of_drawing d allowance room = unless_faulty (drawing_fault d) (numbered name_out allowance room (folded d))

abbrev pub unless_broken : Verdict → Answer → Answer
unless_broken sound a = a
unless_broken (broken p) a = refused 11 p

unfoldable pub name_of_molfile : (file : List ℕ) (allowance room : ℕ) → Answer
name_of_molfile file allowance room =
    cond (ltb most_file (length file)) (refused 4 0) (unless_broken (verdict file) (name_of_drawing (drawing_of file) allowance room))

-- a run of the function, as the promises speak of it
abbrev pub MolfileRun : (file : List ℕ) (allowance : ℕ) (lent : List ℕ) → Result → Type 0
MolfileRun file allowance lent = Allowed (name_of_molfile file allowance (length lent)) lent

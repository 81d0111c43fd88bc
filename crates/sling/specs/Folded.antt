-- Document 01, "The text" and "Numbers of refusal": a whole text read.
use Rattle.std.specs.Prelude.{Bool, cond, not, ◌&&◌, List, [], ◌∷◌, ℕ, eqb, ltb, length, get_or}
use Rattle.lists.specs.Upto.{upto}
use Rattle.lists.specs.Tests.{keep}
use Rattle.molecule.specs.Bonds.{code_in}
use Rattle.molecule.specs.Molecule.{Molecule}
use Rattle.sling.specs.Scanned.{tokens}
use Rattle.sling.specs.Reading.{State, start, is_h, hydrogens_on}
use Rattle.sling.specs.Faults.{Outcome, stopped, finished, run}

-- "The card written for a line of text has atoms in the order written, hydrogens folded."
unfoldable pub heavy_places : State → List ℕ
heavy_places st = keep (λ p. not (is_h st p)) (upto (length st.kinds))

unfoldable pub folded : State → Molecule
folded st =
    let places = heavy_places st in
    record {
      size = length places;
      label = λ a. get_or st.kinds (get_or places a 0) 0 ∷ hydrogens_on st (get_or places a 0) ∷ [];
      code = λ a b. code_in st.bonds (get_or places a 0) (get_or places b 0);
    }

-- "the text length for a fault seen only at the end (an H without a bond)"
abbrev pub lone_h : State → Bool
lone_h st = is_h st 0 && eqb (length st.bonds) 0

abbrev pub ended : Outcome → ℕ → Outcome
ended (stopped n p) size = stopped n p
ended (finished st) size = cond (lone_h st) (stopped 7 size) (finished st)

-- "Text is at most 4,096 bytes."
abbrev pub most_text : ℕ
most_text = 4096

-- "For text: 1; 4 for length with place 0; the first faulty item, by 2, 3, 5, 7, 6, 4; the end"
unfoldable pub read_text : List ℕ → Outcome
read_text s =
    cond (eqb (length s) 0) (stopped 1 0)
    (cond (ltb most_text (length s)) (stopped 4 0) (ended (run (tokens s 0 0) start) (length s)))

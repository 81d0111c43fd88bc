-- Document 01: "The program `name` reads a card from standard input, with allowance 4,096, and prints refusal, place, leaf count, name".
use Rattle.std.specs.Prelude.{cond, List, [], ◌∷◌, ◌++◌, ℕ, ltb, length}
use Rattle.rules.specs.Answers.{Answer, refused, name_of}
use Rattle.lines.specs.Written.{numbered, or_dash}

-- "(`-` if refused)", when there is no name
unfoldable pub shown : (refusal place leaves : ℕ) (name : List ℕ) → List ℕ
shown refusal place leaves name = (numbered refusal ++ (numbered place ++ numbered leaves)) ++ (or_dash name ++ (10 ∷ []))

abbrev pub shown_answer : Answer → List ℕ
shown_answer a = shown a.refusal a.place a.leaves a.bytes

-- "Input longer than 4,096 bytes prints `4 0 0 -`"; "2,048 bytes hold any name"
unfoldable pub name_line : (input : List ℕ) → List ℕ
name_line input = cond (ltb 4096 (length input)) (shown_answer (refused 4 0)) (shown_answer (name_of input 4096 2048))

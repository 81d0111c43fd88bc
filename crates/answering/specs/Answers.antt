-- The line that is printed for a line.
use Rattle.std.specs.Prelude.{Option, Some, None, List, [], ◌∷◌, ◌++◌, ℕ, length}
use Rattle.lists.specs.Quoted as quoted
use Rattle.rules.specs.Answers.{Answer, name_of, card_of, canonical_of, marks_of}
use Rattle.ctfile.specs.Molfiles.{name_of_molfile}
use Rattle.lines.specs.Hex.{hex_of}
use Rattle.lines.specs.Written.{fronted, numbered, or_dash}
use Rattle.answering.specs.declared.request.Op.{Op}
use Rattle.answering.specs.declared.request.Op.TheVariants.{Name, Read, Canon, Marks, Mol}
use Rattle.answering.specs.declared.request.Request.{Request}
use Rattle.answering.specs.Requests.{input_field, input_of, request_of}

-- what is asked of the rules; reading a text looks at no allowance
abbrev pub answer_of : Op → (input : List ℕ) (allowance room : ℕ) → Answer
answer_of Name i a r = name_of i a r
answer_of Read i a r = card_of i r
answer_of Canon i a r = canonical_of i a r
answer_of Marks i a r = marks_of i a r
answer_of Mol i a r = name_of_molfile i a r

-- `REFUSAL PLACE LEAVES LENGTH HEXOUT`
unfoldable pub shown : (refusal place leaves : ℕ) (bytes : List ℕ) → List ℕ
shown refusal place leaves bytes =
    (numbered refusal ++ (numbered place ++ numbered leaves)) ++ (numbered (length bytes) ++ (or_dash (hex_of bytes) ++ (10 ∷ [])))

abbrev pub line_for : Option Request → (input : List ℕ) → List ℕ
line_for None input = quoted.bytes_of "BADLINE" ++ (10 ∷ [])
line_for (Some asked) input =
    let answer = answer_of asked.op input asked.allowance asked.room in
    shown answer.refusal answer.place answer.leaves answer.bytes

unfoldable pub answer_line : List ℕ → List ℕ
answer_line line = line_for (request_of line) (input_of (input_field line))

-- the buffer that is lent for the input: it holds the input at its start, where one is asked about
abbrev pub buffer_for : Option Request → (input buffer : List ℕ) → List ℕ
buffer_for None input buffer = buffer
buffer_for (Some asked) input buffer = fronted input buffer

unfoldable pub buffer_after : (line buffer : List ℕ) → List ℕ
buffer_after line buffer = buffer_for (request_of line) (input_of (input_field line)) buffer

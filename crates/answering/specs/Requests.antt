-- A line `OP ALLOWANCE ROOM HEX` as a request.
use Rattle.std.specs.Prelude.{Bool, true, false, cond, ◌&&◌, ◌||◌, Option, Some, None, List, [], ℕ, leb, ltb, length}
use Rattle.lists.specs.Quoted as quoted
use Rattle.lines.specs.Fields.{field_of, rest_of, same_bytes}
use Rattle.lines.specs.Hex.{is_hex, bytes_of}
use Rattle.lines.specs.Numbers.{number_of}
use Rattle.answering.specs.declared.request.Op.{Op}
use Rattle.answering.specs.declared.request.Op.TheVariants.{Name, Read, Canon, Marks, Mol}
use Rattle.answering.specs.declared.request.Request.{Request}

-- the five words
unfoldable pub word_of : List ℕ → Option Op
word_of w =
    cond (same_bytes w (quoted.bytes_of "name")) (Some Name)
    (cond (same_bytes w (quoted.bytes_of "read")) (Some Read)
    (cond (same_bytes w (quoted.bytes_of "canon")) (Some Canon)
    (cond (same_bytes w (quoted.bytes_of "marks")) (Some Marks) (cond (same_bytes w (quoted.bytes_of "mol")) (Some Mol) None))))

-- the field HEX
abbrev pub input_field : List ℕ → List ℕ
input_field line = rest_of (rest_of (rest_of line))

abbrev pub is_dash : List ℕ → Bool
is_dash f = same_bytes f (quoted.bytes_of "-")

-- -, or 1 to 65,600 bytes in hexadecimal, so that a molfile that is too long can be asked about
unfoldable pub is_input : List ℕ → Bool
is_input f = is_dash f || (ltb 0 (length f) && (leb (length f) 131200 && is_hex f))

unfoldable pub input_of : List ℕ → List ℕ
input_of f = cond (is_dash f) [] (bytes_of f)

-- a request where all four fields are sound
abbrev pub asked : Option Op → (allowance room : Option ℕ) → Bool → Option Request
asked (Some op) (Some a) (Some r) true = Some (record { op = op; allowance = a; room = r })
asked (Some op) (Some a) (Some r) false = None
asked (Some op) (Some a) None h = None
asked (Some op) None r h = None
asked None a r h = None

-- an allowance is at most 65,535, a room at most 4,096
unfoldable pub request_of : List ℕ → Option Request
request_of line =
    asked (word_of (field_of line)) (number_of (field_of (rest_of line)) 65535) (number_of (field_of (rest_of (rest_of line))) 4096) (is_input (input_field line))

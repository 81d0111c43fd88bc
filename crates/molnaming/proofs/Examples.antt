-- Examples, by computation: the number of a line, the line of a refusal, and what parts records or is one.
use mathlib.Core.Bool.{true, false}
use mathlib.Core.List.{List, [], ◌∷◌, ◌++◌}
use mathlib.Core.Path.{◌≡◌, refl}
use Prim.Native.Nat.{ℕ}
use Rattle.lists.specs.Quoted as quoted
use Rattle.lists.specs.Tests.{every}
use Rattle.lists.specs.Upto.{from, each}
use Rattle.ctfile.specs.Lines.{lines_from, lines_of}
use Rattle.lines.specs.Fields.{same_bytes}
use Rattle.lines.specs.Numbers.{digits_to}
use Rattle.molnaming.specs.Lines.{words_of, line_number, place_of, refused_line}
use Rattle.molnaming.specs.Records.{is_parting, is_blank, is_record}

-- two lines, the second of them blank
abbrev two : List ℕ
two = quoted.bytes_of "CC" ++ (10 ∷ quoted.bytes_of "  " ++ (10 ∷ []))

-- a line that is there, and the one that is missing
line_numbers : (line_number [] 0 ∷ line_number two 0 ∷ line_number two 3 ∷ line_number two 6 ∷ []) ≡ 1 ∷ 1 ∷ 2 ∷ 3 ∷ []
unfolding line_number lines_of lines_from
line_numbers = refl

third_missing : refused_line two 11 6 ≡ quoted.bytes_of "refused 11 at byte 6, line 3: a broken or unsupported line" ++ (10 ∷ [])
unfolding refused_line place_of line_number words_of lines_of lines_from digits_to
third_missing = refl

two-pieces : refused_line two 8 0 ≡ quoted.bytes_of "refused 8: more than one piece" ++ (10 ∷ [])
unfolding refused_line place_of words_of digits_to
two-pieces = refl

partings : (is_parting (quoted.bytes_of "$$$$") ∷ is_parting (quoted.bytes_of "$$$$ 2") ∷ is_parting (quoted.bytes_of "$$$") ∷ is_parting (quoted.bytes_of " $$$$") ∷ []) ≡ true ∷ true ∷ false ∷ false ∷ []
unfolding is_parting same_bytes
partings = refl

ends : (is_record [] ∷ is_record (32 ∷ 9 ∷ 13 ∷ 10 ∷ []) ∷ is_record two ∷ []) ≡ false ∷ false ∷ true ∷ []
unfolding is_record is_blank every each from
ends = refl

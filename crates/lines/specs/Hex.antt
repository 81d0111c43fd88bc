-- Bytes in hexadecimal digits, two to a byte and the high one first, read and written.
use Rattle.std.specs.Prelude.{Bool, cond, Option, Some, None, ◌&&◌, List, ℕ, ◌+◌, ◌-◌, ◌*◌, ◌/◌, ◌%◌, eqb, leb, ltb, length, get_or, is_some}
use Rattle.std.specs.List.{list_all}
use Rattle.lists.specs.Upto.{each}

-- the value of a digit, small or capital letters, or 16 of any other byte
unfoldable pub hex_digit_of : ℕ → ℕ
hex_digit_of b =
    cond (leb 48 b && leb b 57) (b - 48) (cond (leb 97 b && leb b 102) (b - 87) (cond (leb 65 b && leb b 70) (b - 55) 16))

-- the value of a digit, or none of any other byte
abbrev pub hex_value : ℕ → Option ℕ
hex_value b = cond (ltb (hex_digit_of b) 16) (Some (hex_digit_of b)) None

-- hexadecimal digits alone, and a whole number of bytes
abbrev pub is_hex : List ℕ → Bool
is_hex l = eqb (length l % 2) 0 && list_all (λ b. is_some (hex_value b)) l

abbrev pub byte_at : List ℕ → ℕ → ℕ
byte_at l i = 16 * hex_digit_of (get_or l (2 * i) 0) + hex_digit_of (get_or l (2 * i + 1) 0)

-- the bytes that the digits stand for
abbrev pub bytes_of : List ℕ → List ℕ
bytes_of l = each (length l / 2) (byte_at l)

-- the digit of a value below 16, in small letters
abbrev pub glyph : ℕ → ℕ
glyph d = cond (ltb d 10) (48 + d) (87 + d)

-- the digit written at k: of byte k / 2 the high one, then the low one
abbrev pub hex_at : List ℕ → ℕ → ℕ
hex_at bytes k = glyph (cond (eqb (k % 2) 0) (get_or bytes (k / 2) 0 / 16) (get_or bytes (k / 2) 0 % 16))

abbrev pub hex_of : List ℕ → List ℕ
hex_of bytes = each (2 * length bytes) (hex_at bytes)

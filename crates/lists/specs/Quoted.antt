-- Bytes written as a quoted text: plain characters, or hexadecimal digits with blanks between.
use Rattle.std.specs.Prelude.{cond, List, ℕ, ◌+◌, ◌-◌, ◌*◌, eqb, leb}
use Prim.Native.Char.{code}
use Prim.Native.String.{String, [], ◌∷◌}

abbrev pub bytes_of : String → List ℕ
bytes_of [] = List.[]
bytes_of (c ∷ s) = List.◌∷◌ (code c) (bytes_of s)

abbrev digit : ℕ → ℕ
digit b = cond (leb b 57) (b - 48) (b - 87)

unfoldable pub paired : List ℕ → List ℕ
paired List.[] = List.[]
paired (List.◌∷◌ x List.[]) = List.[]
paired (List.◌∷◌ x (List.◌∷◌ y l)) =
    let skipped = paired (List.◌∷◌ y l) in
    let byte = List.◌∷◌ (16 * digit x + digit y) (paired l) in
    cond (eqb x 32) skipped byte

abbrev pub hex : String → List ℕ
hex s = paired (bytes_of s)

-- The fields of a line, parted by one blank.
use Rattle.std.specs.Prelude.{Bool, true, false, ◌&&◌, ◌==◌, List, [], ◌∷◌, ℕ, suc, eqb, take, drop}
use Rattle.std.specs.List.{position_or_len}

-- where b stands first, or the length where it does not stand
abbrev pub index_of : ℕ → List ℕ → ℕ
index_of b l = position_or_len (λ x. x == b) l

-- what stands before the first blank, or all where there is none
abbrev pub field_of : List ℕ → List ℕ
field_of line = take (index_of 32 line) line

-- what stands behind the first blank, or nothing where there is none
abbrev pub rest_of : List ℕ → List ℕ
rest_of line = drop (suc (index_of 32 line)) line

-- whether two fields have the same bytes
unfoldable pub same_bytes : List ℕ → List ℕ → Bool
same_bytes [] [] = true
same_bytes [] (y ∷ m) = false
same_bytes (x ∷ l) [] = false
same_bytes (x ∷ l) (y ∷ m) =
    let more = same_bytes l m in
    eqb x y && more

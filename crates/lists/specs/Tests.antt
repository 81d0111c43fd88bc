-- What passes a test: which of a list, how many, whether all, whether one, and where the first stands.
use Rattle.std.specs.Prelude.{Bool, true, false, cond, ◌&&◌, ◌||◌, List, [], ◌∷◌, ℕ, suc, ◌+◌}

-- those of a list that pass, in their order
unfoldable pub keep : {A : Type 0} → (A → Bool) → List A → List A
keep p [] = []
keep p (x ∷ l) =
    let rest = keep p l in
    cond (p x) (x ∷ rest) rest

abbrev pub count : List Bool → ℕ
count [] = 0
count (b ∷ bs) = cond b 1 0 + count bs

unfoldable pub every : List Bool → Bool
every [] = true
every (b ∷ bs) =
    let rest = every bs in
    b && rest

unfoldable pub some : List Bool → Bool
some [] = false
some (b ∷ bs) =
    let rest = some bs in
    b || rest

-- the place of the first that passes, or the list's length where none does
abbrev pub find : {A : Type 0} → (A → Bool) → List A → ℕ
find p [] = 0
find p (x ∷ l) =
    let more = suc (find p l) in
    cond (p x) 0 more

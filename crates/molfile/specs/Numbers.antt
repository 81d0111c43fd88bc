-- A number of a field, and what stands for none.
use Rattle.std.specs.Prelude.{ℕ, ◌<◌, ◌≡◌, Option, Some, None}
use Rattle.ctfile.specs.Fields.{no_number}

-- "three columns hold no more than 999"
abbrev pub IsNumber : ℕ → Option ℕ → Type 0
IsNumber n (Some v) = (v ≡ n) × (v < no_number)
IsNumber n None = n ≡ no_number

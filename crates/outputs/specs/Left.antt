-- What is left by a molecule written: the numbers that are answered, and the lent bytes at exit.
use Rattle.std.specs.Prelude.{List, ℕ, length, Ok, Err, MatchResult}
use Rattle.std.specs.Prelude as std
use Rattle.molecule.specs.Molecule.{Molecule}
use Rattle.refusal.specs.declared.Refused.{Refused}
use Rattle.refusal.specs.Numbers.{number_of, refused_in, place_in}
use Rattle.table.specs.declared.Table.{Table}
use Rattle.table.specs.View.{view_of}
use Rattle.rules.specs.Answers.{refused, numbered}
use Rattle.rules.specs.Allowed.{Result, Allowed}
use Rattle.outputs.specs.declared.Accepted.{Accepted}

-- "Every refusal returns its number, a place, leaf count 0 and length 0"; "on acceptance the place is 0"
abbrev pub leaves_in : std.Result Accepted Refused → ℕ
leaves_in (Ok a) = a.leaves
leaves_in (Err p) = 0

abbrev pub length_in : std.Result Accepted Refused → ℕ
length_in (Ok a) = a.length
length_in (Err p) = 0

abbrev pub left_by : std.Result Accepted Refused → List ℕ → Result
left_by r lent = record { refusal = refused_in r; place = place_in r; leaves = leaves_in r; length = length_in r; lent = lent }

-- a table that came is answered as the rules number its molecule, and a refusal that came stands
abbrev pub AnswersAs : (Molecule → List ℕ) → std.Result Table Refused → ℕ → List ℕ → Result → Type 0
AnswersAs bytes read allowance lent r =
    MatchResult read (λ t. Allowed (numbered bytes allowance (length lent) (view_of t)) lent r)
    (λ p. Allowed (refused (number_of p.refusal) p.place) lent r)

-- What a call leaves, as the promises speak of it: the numbers returned, and the lent bytes at exit.
use Rattle.std.specs.Prelude.{List, ℕ, Ok, Err}
use Rattle.std.specs.Prelude as std
use Rattle.refusal.specs.declared.Refusal.{Refusal}
use Rattle.refusal.specs.declared.Refused.{Refused}
use Rattle.refusal.specs.Numbers.{refused_in, place_in, at_start}
use Rattle.table.specs.declared.Table.{Table}
use Rattle.rules.specs.Allowed.{Result}
use Rattle.outputs.specs.declared.Accepted.{Accepted}
use Rattle.outputs.specs.Left.{leaves_in, length_in}
use Rattle.scallopgrid.specs.declared.Answer.{Answer}

abbrev pub returned : Answer → List ℕ → Result
returned r lent = record { refusal = r.refusal; place = r.place; leaves = r.leaves; length = r.length; lent = lent }

-- "Every refusal returns its number, a place, leaf count 0 and length 0"; "on acceptance the place is 0"
abbrev pub answer_of : std.Result Accepted Refused → Answer
answer_of r = record { refusal = refused_in r; place = place_in r; leaves = leaves_in r; length = length_in r }

-- a card's refusal has place 0
abbrev pub from_start : std.Result Table Refusal → std.Result Table Refused
from_start (Ok t) = Ok t
from_start (Err r) = Err (at_start r)

-- the leaf count is "0 where a text is read"
abbrev pub no_leaves : std.Result ℕ Refused → std.Result Accepted Refused
no_leaves (Ok n) = Ok (record { leaves = 0; length = n })
no_leaves (Err p) = Err p

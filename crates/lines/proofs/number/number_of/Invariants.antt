-- The digits passed are digits, and the value so far stands for them; a value past the bound stays past it.
use Rattle.std.proofs.Common.{true, ◌≡◌, ◌≤◌, take, drop}
use Rattle.std.specs.List.{list_all}
use Rattle.lines.specs.Numbers.{is_digit, worth}
use Rattle.lines.proofs.number.number_of.Given as goal

abbrev pub invariant-loop-b : goal.invariant-loop-b
invariant-loop-b l =
    (list_all is_digit (take l.b-index l.field) ≡ true) × (worth 0 l.field ≡ worth l.value (drop l.b-index l.field)) × (l.value ≤ l.most)

-- Document 01, "Numbers of refusal": 0 means accepted; 1 no atoms, 2 layout or grammar, 3 kind, 4 limit, 5 atom or place not there,
-- 6 bond, 7 H rule, 8 not connected, 9 allowance, 10 room. Document 02, request 1: 11 a broken or unsupported line.
use Rattle.std.specs.Prelude.{ℕ, Result, Ok, Err}
use Rattle.refusal.specs.declared.Refusal.{Refusal}
use Rattle.refusal.specs.declared.Refusal.TheVariants.{NoAtoms, Malformed, UnknownKind, OverLimit, NotThere, WrongBond, WrongHydrogen, NotConnected, OverAllowance, NoRoom, BrokenLine}
use Rattle.refusal.specs.declared.Refused.{Refused}

abbrev pub number_of : Refusal → ℕ
number_of NoAtoms = 1
number_of Malformed = 2
number_of UnknownKind = 3
number_of OverLimit = 4
number_of NotThere = 5
number_of WrongBond = 6
number_of WrongHydrogen = 7
number_of NotConnected = 8
number_of OverAllowance = 9
number_of NoRoom = 10
number_of BrokenLine = 11

-- 0 where something was accepted, and else the refusal's number
abbrev pub refusal_in : {A : Type 0} → Result A Refusal → ℕ
refusal_in (Ok _) = 0
refusal_in (Err r) = number_of r

-- the same of a refusal with its place
abbrev pub refused_in : {A : Type 0} → Result A Refused → ℕ
refused_in (Ok _) = 0
refused_in (Err p) = number_of p.refusal

-- the place of a refusal, 0 where something was accepted
abbrev pub place_in : {A : Type 0} → Result A Refused → ℕ
place_in (Ok _) = 0
place_in (Err p) = p.place

abbrev pub at_start : Refusal → Refused
at_start r = record { refusal = r; place = 0 }

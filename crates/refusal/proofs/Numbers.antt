-- "0 means accepted": no refusal has the number 0.
use native.Mathlib.Omega.{arith}
use Prim.Native.Nat.{◌<◌}
use Rattle.refusal.specs.declared.Refusal.{Refusal}
use Rattle.refusal.specs.declared.Refusal.TheVariants.{NoAtoms, Malformed, UnknownKind, OverLimit, NotThere, WrongBond, WrongHydrogen, NotConnected, OverAllowance, NoRoom, BrokenLine}
use Rattle.refusal.specs.Numbers.{number_of}

pub number_of-positive : (r : Refusal) → 0 < number_of r
number_of-positive NoAtoms = omega arith
number_of-positive Malformed = omega arith
number_of-positive UnknownKind = omega arith
number_of-positive OverLimit = omega arith
number_of-positive NotThere = omega arith
number_of-positive WrongBond = omega arith
number_of-positive WrongHydrogen = omega arith
number_of-positive NotConnected = omega arith
number_of-positive OverAllowance = omega arith
number_of-positive NoRoom = omega arith
number_of-positive BrokenLine = omega arith

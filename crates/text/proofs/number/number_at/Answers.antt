-- One law of NumberLaws for each return, by how many digits stand at the offset.
use Rattle.std.proofs.Common.{sym, subst, arith}
use Rattle.text.specs.Scanning.{NumberRead}
use Rattle.text.proofs.NumberLaws.{none-0, num-1, none_2, num-2, num-3, none-4}
use Rattle.text.proofs.number.number_at.Goals as goal

pub returns-in_err-a : goal.returns-in_err-a
returns-in_err-a c =
    subst (NumberRead _ _) (sym c.from_residual.ensures) (record { is = none-0 _ _ (c.in_err-a.ensures.is); small = tt })

pub returns-in_default : goal.returns-in_default
returns-in_default c = record { is = num-1 _ _ _ c.in_ok-a.ensures.is c.in_default.ensures.is; small = (omega arith, omega arith) }

pub returns-then-a-eq0 : goal.returns-then-a-eq0
returns-then-a-eq0 c = record { is = none_2 _ _ _ c.in_ok-a.ensures.is _ c.in-Some.ensures.is c.if-a-eq0.true; small = tt }

pub returns-in_default-digit_at : goal.returns-in_default-digit_at
returns-in_default-digit_at c =
    record {
      is = num-2 _ _ _ c.in_ok-a.ensures.is _ c.in-Some.ensures.is c.if-a-eq0.false c.in_default-digit_at.ensures.is;
      small = (omega arith, omega arith);
    }

pub returns-in-Some-digit_at-2 : goal.returns-in-Some-digit_at-2
returns-in-Some-digit_at-2 c =
    record {
      is = none-4 _ _ _ c.in_ok-a.ensures.is _ c.in-Some.ensures.is c.if-a-eq0.false _ c.in-Some-digit_at.ensures.is _ c.in-Some-digit_at-2.ensures.is;
      small = tt;
    }

pub returns-in-None : goal.returns-in-None
returns-in-None c =
    record {
      is = num-3 _ _ _ c.in_ok-a.ensures.is _ c.in-Some.ensures.is c.if-a-eq0.false _ c.in-Some-digit_at.ensures.is c.in-None.ensures.is;
      small = (omega arith, omega arith);
    }

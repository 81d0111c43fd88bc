-- What a call wrote had room in the lent bytes, since they keep their length.
use mathlib.Core.List.{List}
use Prim.Native.Nat.{ℕ, ◌≤◌}
use native.Mathlib.Omega.{arith}
use lib.ListN.{length, drop, length-append}
use Rattle.rules.specs.Answers.{Answer, at_exit}
use Rattle.rules.specs.Allowed.{Result, Allowed}
use Rattle.rules.specs.Promises.{KeptBy}
use Rattle.rules.specs.Runs.{NameRun, CardRun, CanonicalRun, MarksRun}
use Rattle.ctfile.specs.Molfiles.{MolfileRun}
use Rattle.ctfile.proofs.Kept as ctfile
use Rattle.rules.proofs.Settled.{kept}

run_fits : (a : Answer) (lent : List ℕ) (r : Result) → KeptBy a lent → Allowed a lent r → r.length ≤ length lent
unfolding at_exit
run_fits a lent r K p = omega (arith, p.written, K.whole, length-append a.bytes (drop (length a.bytes) lent))

module _ (card : List ℕ) (allowance : ℕ) (lent : List ℕ) (r : Result) where
  pub name-fits : NameRun card allowance lent r → r.length ≤ length lent
  name-fits = run_fits _ lent r (kept.name card allowance lent)

  pub canonical-fits : CanonicalRun card allowance lent r → r.length ≤ length lent
  canonical-fits = run_fits _ lent r (kept.canonical card allowance lent)

  pub marks-fit : MarksRun card allowance lent r → r.length ≤ length lent
  marks-fit = run_fits _ lent r (kept.marks card allowance lent)

pub molfile_fits : (file : List ℕ) (allowance : ℕ) (lent : List ℕ) (r : Result) → MolfileRun file allowance lent r → r.length ≤ length lent
molfile_fits file allowance lent r = run_fits _ lent r (ctfile.kept file allowance lent)

pub card-fits : (text lent : List ℕ) (r : Result) → CardRun text lent r → r.length ≤ length lent
card-fits text lent r = run_fits _ lent r (kept.card text lent)

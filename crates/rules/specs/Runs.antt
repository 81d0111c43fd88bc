-- The promises over what the public functions return: a run is a call with what it left, and is allowed by the contract.
use Rattle.std.specs.Prelude.{List, ◌≡◌, ℕ, ◌<◌, ◌≤◌, length, get_or, take}
use Rattle.molecule.specs.Renumbering.{Renumbered}
use Rattle.molecule.specs.Judged.{molecule_of, WellFormed}
use Rattle.rules.specs.Answers.{name_of, card_of, canonical_of, marks_of}
use Rattle.rules.specs.Allowed.{Result, Allowed}

-- a run of each of the four, on a lent buffer of any length
abbrev pub NameRun : (card : List ℕ) (allowance : ℕ) (lent : List ℕ) → Result → Type 0
NameRun card allowance lent = Allowed (name_of card allowance (length lent)) lent

abbrev pub CardRun : (text lent : List ℕ) → Result → Type 0
CardRun text lent = Allowed (card_of text (length lent)) lent

abbrev pub CanonicalRun : (card : List ℕ) (allowance : ℕ) (lent : List ℕ) → Result → Type 0
CanonicalRun card allowance lent = Allowed (canonical_of card allowance (length lent)) lent

abbrev pub MarksRun : (card : List ℕ) (allowance : ℕ) (lent : List ℕ) → Result → Type 0
MarksRun card allowance lent = Allowed (marks_of card allowance (length lent)) lent

-- the bytes that a run wrote
abbrev pub output : Result → List ℕ
output r = take r.length r.lent

-- Two runs on cards that are renumberings of each other leave the same, number by number and byte by byte; class marks are carried along.
pub record SameRun (σ : ℕ → ℕ) (card card' : List ℕ) : Type 0 where
  pub name : (allowance : ℕ) (lent : List ℕ) (r r' : Result) → NameRun card allowance lent r → NameRun card' allowance lent r' → r ≡ r'
  pub canonical : (allowance : ℕ) (lent : List ℕ) (r r' : Result) → CanonicalRun card allowance lent r → CanonicalRun card' allowance lent r' → r ≡ r'
  pub marks : (allowance : ℕ) (lent : List ℕ) (r r' : Result) → MarksRun card allowance lent r → MarksRun card' allowance lent r'
      → (i : ℕ) → i < (molecule_of card).size → get_or (output r') (σ i) 0 ≡ get_or (output r) i 0

abbrev pub SameRuns : Type 0
SameRuns =
    (σ : ℕ → ℕ) (card card' : List ℕ) → WellFormed card → WellFormed card' → Renumbered σ (molecule_of card) (molecule_of card') → SameRun σ card card'

-- two runs that wrote the same name were on renumberings
abbrev pub ApartRuns : Type 0
ApartRuns =
    (card card' : List ℕ) (allowance allowance' : ℕ) (lent lent' : List ℕ) (r r' : Result)
    → NameRun card allowance lent r → NameRun card' allowance' lent' r' → r.refusal ≡ 0 → r'.refusal ≡ 0 → output r ≡ output r'
    → (σ : ℕ → ℕ) × Renumbered σ (molecule_of card) (molecule_of card')

-- a name that a run wrote, read by a run that had room, and named again by a run under the same allowance and room, is as it was
pub record ReadAgain (card : List ℕ) (allowance : ℕ) (lent : List ℕ) (r : Result) : Type 0 where
  pub room : ℕ
  pub read : (lent' : List ℕ) (q : Result) → room ≤ length lent' → CardRun (output r) lent' q → q.refusal ≡ 0
  pub again : (lent' : List ℕ) (q r' : Result) → room ≤ length lent' → CardRun (output r) lent' q → NameRun (output q) allowance lent r' → r' ≡ r

abbrev pub AgainRuns : Type 0
AgainRuns = (card : List ℕ) (allowance : ℕ) (lent : List ℕ) (r : Result) → NameRun card allowance lent r → r.refusal ≡ 0 → ReadAgain card allowance lent r

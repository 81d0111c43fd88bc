-- What version four promises, as types: demands 1 to 3 over the four answers. Every one is proved under proofs/.
use Rattle.std.specs.Prelude.{cond, ◌≢◌, ◌≡◌, ℕ, suc, ◌<◌, ◌≤◌, eqb, length, get_or}
use mathlib.Core.List.{List, [], ◌∷◌, map, flatten, Memᴰ}
use Rattle.molecule.specs.Molecule.{Molecule}
use Rattle.molecule.specs.Renumbering.{Renumbered}
use Rattle.molecule.specs.Judged.{molecule_of, WellFormed}
use Rattle.classes.specs.Markings.{Marking, at, ranked}
use Rattle.classes.specs.Refining.{Rule, rule1, pass, refined}
use Rattle.classes.specs.Numberings.{holding, shared, ahead, leaves, numberings, leaf_count}
use Rattle.rules.specs.Answers.{Answer, refused, accepted, at_exit, name_of, card_of, canonical_of, marks_of}
use Rattle.rules.specs.Allowed.{Result, Allowed}

-- ---- Settled: "any two results allowed for one input are equal"

abbrev pub Settled : Type 0
Settled = (a : Answer) (lent : List ℕ) (r r' : Result) → Allowed a lent r → Allowed a lent r' → r ≡ r'

-- ---- Kept: what was lent comes back with its length; "a refused call changes no byte it was lent", and answers 0 leaves and length 0

pub record KeptBy (a : Answer) (lent : List ℕ) : Type 0 where
  pub whole : length (at_exit a lent) ≡ length lent
  pub untouched : a.refusal ≢ 0 → at_exit a lent ≡ lent
  pub nothing : a.refusal ≢ 0 → (a.leaves ≡ 0) × (a.bytes ≡ [])
  pub place : a.refusal ≡ 0 → a.place ≡ 0

pub record AlwaysKept : Type 0 where
  pub name : (card : List ℕ) (allowance : ℕ) (lent : List ℕ) → KeptBy (name_of card allowance (length lent)) lent
  pub card : (text lent : List ℕ) → KeptBy (card_of text (length lent)) lent
  pub canonical : (card : List ℕ) (allowance : ℕ) (lent : List ℕ) → KeptBy (canonical_of card allowance (length lent)) lent
  pub marks : (card : List ℕ) (allowance : ℕ) (lent : List ℕ) → KeptBy (marks_of card allowance (length lent)) lent

-- ---- Whole: no bound of a definition is ever met, so that each says what document 01 says

-- the markings of the tree: the first, and each that comes from one by setting ahead an atom of its smallest shared rank
pub data InTree (R : Rule) (M : Molecule) : Marking → Type 0 where
  root : InTree R M (refined R M (ranked M))
  child : {m : Marking} {a : ℕ} → InTree R M m → Memᴰ a (holding M.size m (shared M.size m))
      → InTree R M (refined R M (ahead M.size m (shared M.size m) a))

-- the leaves below a marking
abbrev pub below : Rule → Molecule → Marking → List Marking
below R M m = leaves R M (suc M.size) m

pub record Whole (R : Rule) (M : Molecule) : Type 0 where
  -- "until nothing changes"
  pub settled : {m : Marking} → InTree R M m → pass R M m ≡ m
  -- "Each marking is worked out through its children, and each child is again a marking"
  pub tree : {m : Marking} → InTree R M m → below R M m
      ≡ cond (eqb (shared M.size m) 0) (m ∷ [])
      (flatten (map (λ a. below R M (refined R M (ahead M.size m (shared M.size m) a))) (holding M.size m (shared M.size m))))
  -- "A marking with no shared rank is a complete numbering": each rank from 1 to n is held, and no two atoms share one
  pub complete : {m : Marking} → Memᴰ m (numberings R M) → shared M.size m ≡ 0
  pub held : {m : Marking} → Memᴰ m (numberings R M) → (r : ℕ) → r < M.size → (a : ℕ) × (a < M.size) × (at m a ≡ suc r)
  pub apart : {m : Marking} → Memᴰ m (numberings R M) → (a b : ℕ) → a < M.size → b < M.size → at m a ≡ at m b → a ≡ b
  pub some : numberings R M ≢ []

abbrev pub AlwaysWhole : Type 0
AlwaysWhole = (R : Rule) (M : Molecule) → Whole R M

-- ---- Answered: "Giving up is allowed only where the number of numberings exceeds the caller's allowance"; "2,048 bytes hold any name"

pub record Answered (card : List ℕ) : Type 0 where
  pub gave_up : (allowance room : ℕ) → allowance < leaf_count rule1 (molecule_of card) → name_of card allowance room ≡ refused 9 0
  pub named : (allowance room : ℕ) → leaf_count rule1 (molecule_of card) ≤ allowance → 2048 ≤ room → (name_of card allowance room).refusal ≡ 0

abbrev pub AlwaysAnswered : Type 0
AlwaysAnswered = (card : List ℕ) → WellFormed card → Answered card

-- ---- Same: "two cards get the same answer whenever one is a renumbering of the other", refusals included

pub record SameMarks (σ : ℕ → ℕ) (n : ℕ) (a a' : Answer) : Type 0 where
  pub refusal : a'.refusal ≡ a.refusal
  pub place : a'.place ≡ a.place
  pub leaves : a'.leaves ≡ a.leaves
  pub bytes : length a'.bytes ≡ length a.bytes
  pub carried : (i : ℕ) → i < n → get_or a'.bytes (σ i) 0 ≡ get_or a.bytes i 0

pub record Same (σ : ℕ → ℕ) (card card' : List ℕ) : Type 0 where
  pub name : (allowance room : ℕ) → name_of card' allowance room ≡ name_of card allowance room
  pub canonical : (allowance room : ℕ) → canonical_of card' allowance room ≡ canonical_of card allowance room
  pub marks : (allowance room : ℕ) → SameMarks σ (molecule_of card).size (marks_of card allowance room) (marks_of card' allowance room)

abbrev pub AlwaysSame : Type 0
AlwaysSame =
    (σ : ℕ → ℕ) (card card' : List ℕ) → WellFormed card → WellFormed card' → Renumbered σ (molecule_of card) (molecule_of card') → Same σ card card'

-- ---- Apart: "equal names mean that such a renumbering exists", whatever the allowances and rooms

abbrev pub AlwaysApart : Type 0
AlwaysApart =
    (card card' : List ℕ) (allowance room allowance' room' : ℕ)
    → (name_of card allowance room).refusal ≡ 0 → (name_of card' allowance' room').refusal ≡ 0
    → (name_of card allowance room).bytes ≡ (name_of card' allowance' room').bytes
    → (σ : ℕ → ℕ) × Renumbered σ (molecule_of card) (molecule_of card')

-- ---- Again: "a name read back and named again gives itself", "under the allowance and room that gave it"

pub record Again (card : List ℕ) (allowance room : ℕ) : Type 0 where
  pub back : List ℕ
  pub read : (room' : ℕ) → length back ≤ room' → card_of (name_of card allowance room).bytes room' ≡ accepted 0 back
  pub well_formed : WellFormed back
  pub named : name_of back allowance room ≡ name_of card allowance room

abbrev pub AlwaysAgain : Type 0
AlwaysAgain = (card : List ℕ) (allowance room : ℕ) → (name_of card allowance room).refusal ≡ 0 → Again card allowance room

-- ---- Read: a card that is written for a text is well formed ("Text is connected by its making")

abbrev pub AlwaysRead : Type 0
AlwaysRead = (text : List ℕ) (room : ℕ) → (card_of text room).refusal ≡ 0 → WellFormed (card_of text room).bytes

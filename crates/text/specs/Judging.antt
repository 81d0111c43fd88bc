-- An item judged, by the counts that a reader keeps.
use Rattle.std.specs.Prelude.{ℕ, ◌+◌, ◌≡◌, Bool, cond, not, ◌&&◌, ◌||◌, eqb, ltb, leb, ◌≤◌, take, Option, Result, IfOk}
use Rattle.std.specs.List.{list_any}
use Rattle.molecule.specs.Bonds.{joins}
use Rattle.molecule.specs.Limits.{most_atoms, most_hydrogens_on, most_hydrogens, most_bonds, most_bonds_on}
use Rattle.sling.specs.Items as rule
use Rattle.sling.specs.Reading as rules
use Rattle.sling.specs.Faults.{item_fault}
use Rattle.kinds.specs.Known.{kind_in}
use Rattle.refusal.specs.declared.Refusal.{Refusal}
use Rattle.refusal.specs.Numbers.{refusal_in}
use Rattle.text.specs.declared.item.Step.{Step}
use Rattle.text.specs.declared.item.Step.TheVariants.{Atom, Reference, Ring}
use Rattle.text.specs.declared.state.TextAtom.{TextAtom}
use Rattle.text.specs.declared.state.State.{State}
use Rattle.text.specs.Holding.{bond_of, bit, h_bit, h_bond}
use Rattle.text.specs.Changing.{raised, resolved}

-- the rules' value of a step
abbrev pub step_of : Step → rule.Item
step_of (Atom m k) = rule.atom m k
step_of (Reference p) = rule.reference (rule.at p.0)
step_of (Ring m p) = rule.ring m (rule.at p.0)

-- the H rule at an end of kind k of a new bond of code m to a kind j, where so many bonds to an H were there before
abbrev pub h_broken : (k j m before : ℕ) → Bool
h_broken k j m before = eqb k 0 && (eqb j 0 || ltb 1 m || ltb 0 before)

abbrev pub wrong_h : (from to : TextAtom) → ℕ → Bool
wrong_h from to m = h_broken from.kind to.kind m from.hydrogens || h_broken to.kind from.kind m to.hydrogens

abbrev pub over_on : TextAtom → Bool
over_on a = ltb most_hydrogens_on a.hydrogens || ltb most_bonds_on a.bonds

abbrev pub over : (atoms hydrogens bonds : ℕ) → (from to : TextAtom) → Bool
over a h b from to = ltb most_atoms a || ltb most_hydrogens h || ltb most_bonds b || over_on from || over_on to

-- with a bond more between two atoms
abbrev pub over_with : (atoms hydrogens bonds : ℕ) → (from to : TextAtom) → Bool
over_with a h b from to =
    over a h (b + bit (not (h_bond from.kind to.kind))) (raised (h_bond from.kind to.kind) from) (raised (h_bond from.kind to.kind) to)

-- one of the bonds drawn joins the cursor's atom and that at p
abbrev pub paired_in : State → ℕ → Bool
paired_in st p = list_any (λ b. joins st.cursor.0 p (bond_of b)) (take st.drawn st.links)

-- an atom can have a bond more
abbrev pub Few : TextAtom → Type 0
Few a = (a.hydrogens ≤ 6) × (a.bonds ≤ 6)

abbrev pub first_fault : (code kind : ℕ) → ℕ
first_fault m k = cond (ltb 1 m) 2 (cond (ltb 24 k) 3 0)

-- an item before any atom
abbrev pub opening_fault : rule.Item → ℕ
opening_fault (rule.atom m k) = first_fault m k
opening_fault (rule.reference t) = 2
opening_fault (rule.ring m t) = 2

-- what is counted, and where the cursor is
pub record Counts : Type 0 where
  pub n : ℕ
  pub atoms : ℕ
  pub total : ℕ
  pub bonds : ℕ
  pub cursor : ℕ

abbrev pub counts_of : State → Counts
counts_of st = record { n = st.n; atoms = st.atoms; total = st.total; bonds = st.bonds; cursor = st.cursor.0 }

-- the judgements: of a new atom behind a mark m, by the atom at the cursor and the counts
abbrev pub atom_fault : ℕ → (from new : TextAtom) → Counts → ℕ
atom_fault m e f t =
    cond (ltb 24 f.kind) 3
    (cond (wrong_h e f m) 7
    (cond (over_with (t.atoms + bit (not (h_bit f.kind))) (t.total + bit (h_bit f.kind)) t.bonds e f) 4 0))

-- of a ring bond to p, by its two atoms, the counts and whether they have a bond already
abbrev pub ring_fault : (m p : ℕ) → (from to : TextAtom) → Counts → Bool → ℕ
ring_fault m p e f t pair =
    cond (leb t.n p) 5
    (cond (wrong_h e f m) 7
    (cond (eqb t.cursor p || pair) 6
    (cond (over_with t.atoms t.total t.bonds e f) 4 0)))

-- of a reference to p
abbrev pub reference_fault : (places p : ℕ) → ℕ
reference_fault places p = cond (leb places p) 5 0

-- a symbol's kind, where it has one
pub record IsKnown (k : Option ℕ) (r : Result ℕ Refusal) : Type 0 where
  pub refusal : refusal_in r ≡ cond (ltb 24 (kind_in k)) 3 0
  pub kind : IfOk r (λ j. kind_in k ≡ j)

-- the first item judged: a refusal, or the step that it is
pub record Opens (i : rule.Item) (r : Result Step Refusal) : Type 0 where
  pub refusal : refusal_in r ≡ opening_fault i
  pub step : IfOk r (λ t. step_of t ≡ i)

-- an item judged: the rules' refusal, or the step that it is, its atom named by place
pub record Judges (s : rules.State) (i : rule.Item) (r : Result Step Refusal) : Type 0 where
  pub refusal : refusal_in r ≡ item_fault s i
  pub step : IfOk r (λ t. step_of t ≡ resolved s i)

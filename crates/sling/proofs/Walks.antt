-- Reading as a walk: items one by one, in which nothing is wrong but perhaps a limit. A walk whose limits are kept is what `run` accepts, and
-- the other way round.
use mathlib.Core.Path.{◌≡◌, refl}
use mathlib.Core.Bool.{Bool, false}
use mathlib.Core.List.{List, [], ◌∷◌, ◌++◌}
use Prim.Native.Nat.{ℕ, zero, suc, ◌+◌, ◌<◌, ◌≤◌}
use native.Mathlib.Omega.{arith}
use lib.ListN.{length}
use Rattle.lists.proofs.Booleans.{unless}
use Rattle.lists.proofs.All.{All}
use Rattle.sling.specs.Items.{Item}
use Rattle.sling.specs.Scanned.{Token, tok, bad}
use Rattle.sling.specs.Reading.{State, goal, after}
use Rattle.sling.specs.Faults.{misplaced, unknown, missing, code_of, broken_h, bad_bond, over, item_fault, stopped, finished, judged, run}
use Rattle.sling.specs.Printed.{item_bytes, ends_in_digit}
use Rattle.sling.proofs.Tokens.{tokens_of}

abbrev pub Marked : ℕ → Type 0
Marked m = (0 < m) × (m ≤ 4)

-- none of 2, 3, 5, 7, 6, and a mark that there is
pub record Clear (st : State) (i : Item) : Type 0 where
  pub two : misplaced st i ≡ false
  pub three : unknown i ≡ false
  pub five : missing st i ≡ false
  pub seven : broken_h st i ≡ false
  pub six : bad_bond st i ≡ false
  pub mark : Marked (code_of i)

pub data Walk : State → List Item → State → Type 0 where
  here : {st : State} → Walk st [] st
  step : {st sv : State} {i : Item} {is : List Item} → Clear st i → Walk (after st i) is sv → Walk st (i ∷ is) sv

pub walk_snoc : {st sv : State} {is : List Item} (i : Item) → Walk st is sv → Clear sv i → Walk st (is ++ (i ∷ [])) (after sv i)
walk_snoc i here c = step c here
walk_snoc i (step d w) c = step d (walk_snoc i w c)

-- no limit passed on the way
abbrev pub Kept : State → List Item → Type 0
Kept st [] = Unit {0}
Kept st (i ∷ is) = (over (after st i) st.cursor (goal st i) ≡ false) × Kept (after st i) is

clear-fault : (st : State) (i : Item) → Clear st i → over (after st i) st.cursor (goal st i) ≡ false → item_fault st i ≡ 0
unfolding item_fault
clear-fault st i c o = simp (c.two, c.three, c.five, c.seven, c.six, o)

pub walk_run : {st sv : State} {is : List Item} → Walk st is sv → Kept st is → (o : ℕ) (d : Bool) → run (tokens_of o d is) st ≡ finished sv
unfolding run tokens_of
walk_run here k o d = refl
walk_run (step {st = st} {i = i} c w) k o d =
    simp (clear-fault st i c k.0) (walk_run w k.1 (o + length (item_bytes d i)) (ends_in_digit i))

fault_clear : (st : State) (i : Item) → Marked (code_of i) → item_fault st i ≡ 0 → Clear st i × (over (after st i) st.cursor (goal st i) ≡ false)
unfolding item_fault
fault_clear st i k e =
    let a = unless (misplaced st i) 1 _ e in
    let b = unless (unknown i) 2 _ a.1 in
    let c = unless (missing st i) 4 _ b.1 in
    let d = unless (broken_h st i) 6 _ c.1 in
    let f = unless (bad_bond st i) 5 _ d.1 in
    (record { two = a.0; three = b.0; five = c.0; seven = d.0; six = f.0; mark = k }, (unless (over (after st i) st.cursor (goal st i)) 3 0 f.1).0)

abbrev pub MarkedToken : Token → Type 0
MarkedToken (tok o i) = Marked (code_of i)
MarkedToken (bad o) = Unit {0}

pub record Accepted (st sv : State) : Type 0 where
  pub items : List Item
  pub walk : Walk st items sv
  pub kept : Kept st items

pub stopped-not : {A : Type 0} (n o : ℕ) (sv : State) → stopped n o ≡ finished sv → A
stopped-not n o sv e = absurd (let z : ◌≡◌ {A = ℕ} 0 1 = cc in omega arith)

pub run-walk : (ts : List Token) (st sv : State) → All MarkedToken ts → run ts st ≡ finished sv → Accepted st sv
unfolding run
run-walk [] st sv h e = record { items = []; walk = let q : st ≡ sv = cc in rw (← q) here; kept = tt }
run-walk (bad o ∷ ts) st sv h e = stopped-not 2 o sv e
run-walk (tok o i ∷ ts) st sv h e = pick (item_fault st i) refl e (run-walk ts (after st i) sv h.1)
  where
    pick : (f : ℕ) → item_fault st i ≡ f → judged f o (after st i) (run ts) ≡ finished sv
        → (run ts (after st i) ≡ finished sv → Accepted (after st i) sv) → Accepted st sv
    pick zero q r f =
        let c = fault_clear st i h.0 q in
        let a = f r in
        record { items = i ∷ a.items; walk = step c.0 a.walk; kept = (c.1, a.kept) }
    pick (suc n) q r f = stopped-not (suc n) o sv r

-- What holds of every state that some items lead to: the reader is tidy, no limit is passed, and the arrays are long enough.
use Prim.Native.Nat.{ℕ, zero, suc, ◌≤◌, ◌<◌}
use mathlib.Core.Path.{◌≡◌, refl, ap, ◌∙◌}
use mathlib.Core.List.{List, [], ◌∷◌, ◌++◌, map, map-append}
use mathlib.Core.Bool.{Bool, true, false}
use native.Mathlib.Omega.{arith}
use lib.ListN.{length, get_or}
use lib.Dec.{eqb}
use borrow.Author.Tests.{eqb-true}
use Rattle.molecule.specs.Bonds.{Bond}
use Rattle.sling.specs.Items as rule
use Rattle.sling.specs.Scanned.{Token, tok, bad}
use Rattle.sling.specs.Reading.{State, start, after}
use Rattle.sling.specs.Faults.{finished, judged, run, item_fault, code_of}
use Rattle.sling.specs.Folded.{lone_h}
use Rattle.lists.proofs.All.{All}
use Rattle.lists.proofs.Booleans.{and_both}
use Rattle.lists.proofs.Passed.{count-not}
use Rattle.sling.proofs.Walks.{MarkedToken, Accepted, run-walk}
use Rattle.sling.proofs.Tidy.{Reader, reader_start, reader_walk, Proper}
use Rattle.sling.proofs.Limits.{Room, room-start, kept-room}
use Rattle.sling.proofs.Folds.{bonds-count}
use Rattle.text.specs.Holding.{Marked, Reached}

marked-tokens : (is : List rule.Item) → Marked is → All MarkedToken (map (tok 0) is)
marked-tokens [] m = tt
marked-tokens (i ∷ is) m = (m.0, marked-tokens is m.1)

marked_more : (is : List rule.Item) (i : rule.Item) → Marked is → (0 < code_of i) × (code_of i ≤ 4) → Marked (is ++ (i ∷ []))
marked_more [] i m h = (h, tt)
marked_more (j ∷ is) i m h = (m.0, marked_more is i m.1 h)

pub reached-start : Reached start
unfolding run
reached-start = record { items = []; marked = tt; is = refl }

-- one token more, after those that were all accepted
run_more : (ts : List Token) (t s : State) (i : rule.Item) → run ts t ≡ finished s → item_fault s i ≡ 0 → run (ts ++ (tok 0 i ∷ [])) t ≡ finished (after s i)
unfolding run
run_more [] t s i e f = let q : t ≡ s = cc in rw (q, f) refl
run_more (bad o ∷ ts) t s i e f = absurd (let z : ◌≡◌ {A = ℕ} 0 1 = cc in omega arith)
run_more (tok o j ∷ ts) t s i e f = pick (item_fault t j) refl e (run_more ts (after t j) s i)
  where
    pick : (n : ℕ) → item_fault t j ≡ n → judged n o (after t j) (run ts) ≡ finished s
        → (run ts (after t j) ≡ finished s → item_fault s i ≡ 0 → run (ts ++ (tok 0 i ∷ [])) (after t j) ≡ finished (after s i))
        → judged (item_fault t j) o (after t j) (run (ts ++ (tok 0 i ∷ []))) ≡ finished (after s i)
    pick zero q r g = simp q (g r f)
    pick (suc n) q r g = absurd (let z : ◌≡◌ {A = ℕ} 0 1 = cc in omega arith)

pub reached-after : (s : State) (i : rule.Item) → Reached s → (0 < code_of i) × (code_of i ≤ 4) → item_fault s i ≡ 0 → Reached (after s i)
reached-after s i r m f =
    record {
      items = r.items ++ (i ∷ []);
      marked = marked_more r.items i r.marked m;
      is = ap (λ (ts : List Token). run ts start) (map-append (tok 0) r.items (i ∷ [])) ∙ run_more (map (tok 0) r.items) start s i r.is f;
    }

accepted : (s : State) → Reached s → Accepted start s
accepted s r = run-walk (map (tok 0) r.items) start s (marked-tokens r.items r.marked) r.is

pub reached-reader : (s : State) → Reached s → Reader s
reached-reader s r = reader_walk (accepted s r).walk reader_start

pub reached-room : (s : State) → Reached s → Room s
reached-room s r = let a = accepted s r in kept-room a.walk a.kept reader_start room-start

-- 64 atoms and 128 hydrogens; 80 bonds, and one for each hydrogen
pub reached-places : (s : State) → Reached s → length s.kinds ≤ 192
reached-places s r = let m = reached-room s r in omega (arith, m.atoms, m.hydrogens, count-not (λ k. eqb k 0) s.kinds)

pub reached-bonds : (s : State) → Reached s → length s.bonds ≤ 208
reached-bonds s r = pick (lone_h s) refl
  where
    pick : (b : Bool) → lone_h s ≡ b → length s.bonds ≤ 208
    pick true e = let z : length s.bonds ≡ 0 = eqb-true _ _ (and_both (eqb (get_or s.kinds 0 0) 0) _ e).1 in omega arith
    pick false e = let m = reached-room s r in omega (arith, m.hydrogens, m.bonds, bonds-count s (reached-reader s r).tidy e)

pub no_places : (s : State) → Reader s → length s.kinds ≡ 0 → s.bonds ≡ []
no_places s r z = pick s.bonds r.tidy.proper
  where
    pick : (bs : List Bond) → All (Proper s.kinds) bs → bs ≡ []
    pick [] a = refl
    pick (b ∷ bs) a = absurd (omega (arith, a.0.one))

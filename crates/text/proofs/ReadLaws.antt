-- The reading loop, in the rules' terms: what is left of a text, read on from a state.
use Prim.Native.Nat.{ℕ, zero, suc, ◌+◌, ◌-◌, ◌≤◌, ◌<◌}
use mathlib.Core.Path.{◌≡◌, refl, sym, ap, ◌∙◌}
use mathlib.Core.List.{List, [], ◌∷◌}
use native.Mathlib.Nat.{add-zero}
use native.Mathlib.Omega.{arith}
use lib.ListN.{length, drop, drop_of_length-le}
use lib.Seq.{drop-cons, drop-drop}
use Rattle.sling.specs.Items.{Item}
use Rattle.sling.specs.Scanned.{Token, tok, got, broken, scan, token, tokens}
use Rattle.sling.specs.Reading.{State, after}
use Rattle.sling.specs.Faults.{stopped, finished, judged, run, item_fault}

-- passing over bytes
skip : (l : List ℕ) (k o : ℕ) → tokens l k o ≡ tokens (drop k l) 0 (o + k)
unfolding tokens
skip [] zero o = refl
skip [] (suc k) o = refl
skip (b ∷ bs) zero o = rw (add-zero o)
skip (b ∷ bs) (suc k) o = skip bs k (suc o) ∙ ap (tokens (drop k bs) 0) (omega arith)

module _ (s : List ℕ) (i : ℕ) (h : i < length s) where
  opened : tokens (drop i s) 0 i ≡ token (scan (drop i s)) i (λ k. tokens (drop (suc i) s) k (suc i))
  unfolding tokens
  opened = rw (drop-cons s i 0 h)

  pub run-broken : (S : State) → scan (drop i s) ≡ broken → stopped 2 i ≡ run (tokens (drop i s) 0 i) S
  unfolding run
  run-broken S e = sym (ap (λ (ts : List Token). run ts S) opened ∙ rw e)

  module _ (it : Item) (next : ℕ) (on : i < next) (e : scan (drop i s) ≡ got it (next - i)) where
    pub cut : tokens (drop i s) 0 i ≡ tok i it ∷ tokens (drop next s) 0 next
    cut =
        let f : suc i + (next - i - 1) ≡ next = omega arith in
        opened ∙ rw (e, skip (drop (suc i) s) (next - i - 1) (suc i), drop-drop (next - i - 1) (suc i) s, f)

    at_item : (S : State) → run (tokens (drop i s) 0 i) S ≡ judged (item_fault S it) i (after S it) (run (tokens (drop next s) 0 next))
    unfolding run
    at_item S = ap (λ (ts : List Token). run ts S) cut

    pub run-fault : (S : State) (f : ℕ) → f ≡ item_fault S it → 0 < f → stopped f i ≡ run (tokens (drop i s) 0 i) S
    run-fault S f q n = other f q n ∙ sym (at_item S)
      where
        other : (f : ℕ) → f ≡ item_fault S it → 0 < f → stopped f i ≡ judged (item_fault S it) i (after S it) (run (tokens (drop next s) 0 next))
        other zero q n = absurd (omega arith)
        other (suc f) q n = rw (← q)

    pub run-next : (S : State) → item_fault S it ≡ 0 → run (tokens (drop next s) 0 next) (after S it) ≡ run (tokens (drop i s) 0 i) S
    run-next S z = sym (at_item S ∙ rw z)

pub run_end : (s : List ℕ) (i : ℕ) (S : State) → length s ≤ i → finished S ≡ run (tokens (drop i s) 0 i) S
unfolding run tokens
run_end s i S h = rw (drop_of_length-le s h)

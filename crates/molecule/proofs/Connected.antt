-- The flood from atom 0 and `Linked` say the same. What the flood reaches lies in every set that has atom 0 and is closed; and after as many rounds
-- as there are atoms what is reached is closed itself, since a round that is not closed reaches one atom more.
use mathlib.Core.Bool.{Bool, true, false, not, ◌||◌, or-true, true≢false}
use mathlib.Core.List.{map}
use mathlib.Core.Logic.{◌⊎◌, inl, inr, ◌≢◌, ◌↔◌}
use mathlib.Core.Path.{◌≡◌, refl, sym, ◌∙◌, ap}
use Prim.Native.Nat.{ℕ, zero, suc, ◌<◌}
use native.Mathlib.Omega.{arith}
use lib.Dec.{eqb}
use lib.ListN.{get_or}
use borrow.Author.Tests.{eqb-true}
use Rattle.lists.specs.Upto.{each}
use Rattle.lists.specs.Tests.{count, every, some}
use Rattle.lists.proofs.Upto.{get_or-each, each-eq}
use Rattle.lists.proofs.Tested.{some-true, some-pass, every-true_below, every-false_below, every-pass_below}
use Rattle.lists.proofs.Counts.{count-lt, count-below, count-one, count-le}
use Rattle.molecule.specs.Molecule.{Molecule, neighbours, reached, connected}
use Rattle.molecule.proofs.Sound.{Linked}
use Rattle.molecule.proofs.Neighbours.{mem_neighbours, of_neighbours}

-- the code of two atoms does not depend on which comes first
abbrev pub Even : Molecule → Type 0
Even M = (a b : ℕ) → a < M.size → b < M.size → M.code a b ≡ M.code b a

-- a set that has with an atom its neighbours
abbrev pub Closed : Molecule → (ℕ → Bool) → Type 0
Closed M S = (a b : ℕ) → a < M.size → b < M.size → S a ≡ true → M.code a b ≢ 0 → S b ≡ true

module _ (M : Molecule) where
  abbrev at : ℕ → ℕ → Bool
  at k a = get_or (reached M k) a false

  at_first : (a : ℕ) → a < M.size → at 0 a ≡ eqb a 0
  unfolding reached
  at_first a h = get_or-each M.size (λ b. eqb b 0) a false h

  at_next : (k a : ℕ) → a < M.size → at (suc k) a ≡ (at k a || some (map (at k) (neighbours M a)))
  unfolding reached
  at_next k a h = get_or-each M.size (λ b. at k b || some (map (at k) (neighbours M b))) a false h

  reached-each : (k : ℕ) → reached M k ≡ each M.size (at k)
  unfolding reached
  reached-each zero = each-eq M.size (λ b. eqb b 0) (at 0) (λ a h. sym (at_first a h))
  reached-each (suc k) = each-eq M.size (λ b. at k b || some (map (at k) (neighbours M b))) (at (suc k)) (λ a h. sym (at_next k a h))

  connected-each : connected M ≡ every (each M.size (at M.size))
  unfolding connected
  connected-each = ap every (reached-each M.size)

  stays : (k a : ℕ) → a < M.size → at k a ≡ true → at (suc k) a ≡ true
  stays k a h e = at_next k a h ∙ rw e

  spreads : (k a b : ℕ) → a < M.size → b < M.size → M.code a b ≢ 0 → at k b ≡ true → at (suc k) a ≡ true
  spreads k a b h l c e = at_next k a h ∙ rw (some-pass (at k) (neighbours M a) b (mem_neighbours M a b l c) e, or-true)

  -- a was reached, or a neighbour was
  abbrev Came : ℕ → ℕ → Type 0
  Came k a = (at k a ≡ true) ⊎ ((b : ℕ) × (b < M.size) × (M.code a b ≢ 0) × (at k b ≡ true))

  came : (k a : ℕ) → a < M.size → at (suc k) a ≡ true → Came k a
  came k a h e = go (at k a) refl (sym (at_next k a h) ∙ e)
    where
      go : (s : Bool) → at k a ≡ s → (s || some (map (at k) (neighbours M a))) ≡ true → Came k a
      go true p f = inl p
      go false p f =
          let w = some-true (at k) (neighbours M a) f in
          let n = of_neighbours M a w.0 w.1 in
          inr (w.0, n.0, n.1, w.2)

  origin : 0 < M.size → (k : ℕ) → at k 0 ≡ true
  origin s zero = at_first 0 s
  origin s (suc k) = stays k 0 s (origin s k)

  -- the next round reaches nothing new
  abbrev Still : ℕ → Type 0
  Still k = (a : ℕ) → a < M.size → at (suc k) a ≡ true → at k a ≡ true

  still_next : (k : ℕ) → Still k → Still (suc k)
  still_next k s a h e = go (came (suc k) a h e)
    where
      go : Came (suc k) a → at (suc k) a ≡ true
      go (inl p) = p
      go (inr w) = spreads k a w.0 h w.1 w.2 (s w.0 w.1 w.3)

  -- a is not new in the round after k
  abbrev old : ℕ → ℕ → Bool
  old k a = not (at (suc k) a) || at k a

  grows : 0 < M.size → (k : ℕ) → Still k ⊎ (k < count (each M.size (at k)))
  grows s zero = inr (let c = count-le M.size (λ b. eqb b 0) (at 0) (λ a h e. at_first a h ∙ e) in omega (arith, c, count-one M.size 0 s))
  grows s (suc k) = go (grows s k) (every (each M.size (old k))) refl
    where
      still : every (each M.size (old k)) ≡ true → Still k
      still e a h f = sym (rw f) ∙ every-true_below M.size (old k) e a h

      fresh : (t u : Bool) → (not t || u) ≡ false → (t ≡ true) × (u ≡ false)
      fresh true u e = (refl, e)
      fresh false u e = absurd (true≢false e)

      go : Still k ⊎ (k < count (each M.size (at k))) → (b : Bool) → every (each M.size (old k)) ≡ b → Still (suc k) ⊎ (suc k < count (each M.size (at (suc k))))
      go (inl t) b e = inl (still_next k t)
      go (inr l) true e = inl (still_next k (still e))
      go (inr l) false e =
          let w = every-false_below M.size (old k) e in
          let f = fresh (at (suc k) w.0) (at k w.0) w.2 in
          inr (omega (arith, count-lt M.size (at k) (at (suc k)) (stays k) w.0 w.1 f.1 f.0))

  -- as many rounds as atoms suffice
  settled : 0 < M.size → Still M.size
  settled s = go (grows s M.size)
    where
      go : Still M.size ⊎ (M.size < count (each M.size (at M.size))) → Still M.size
      go (inl t) = t
      go (inr l) = absurd (omega (arith, count-below M.size (at M.size)))

  module _ (even : Even M) where
    -- what is reached lies in every closed set that has atom 0
    within : (S : ℕ → Bool) → S 0 ≡ true → Closed M S → (k a : ℕ) → a < M.size → at k a ≡ true → S a ≡ true
    within S z c zero a h e = ap S (eqb-true a 0 (sym (at_first a h) ∙ e)) ∙ z
    within S z c (suc k) a h e = go (within S z c k) (came k a h e)
      where
        go : ((b : ℕ) → b < M.size → at k b ≡ true → S b ≡ true) → Came k a → S a ≡ true
        go ih (inl p) = ih a h p
        go ih (inr w) = c w.0 a w.1 h (ih w.0 w.1 w.3) (λ q. w.2 (even a w.0 h w.1 ∙ q))

    pub connected-linked : connected M ≡ true → Linked M
    connected-linked e S z c a h = within S z c M.size a h (every-true_below M.size (at M.size) (sym connected-each ∙ e) a h)

    pub linked-connected : 0 < M.size → Linked M → connected M ≡ true
    linked-connected s L = connected-each ∙ every-pass_below M.size (at M.size) (L (at M.size) (origin s M.size) closed)
      where
        closed : Closed M (at M.size)
        closed a b h l e c = settled s b l (spreads M.size b a l h (λ q. c (even a b h l ∙ q)) e)

    pub connected-iff : 0 < M.size → (connected M ≡ true) ↔ Linked M
    connected-iff s = (connected-linked, linked-connected s)

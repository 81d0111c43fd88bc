-- What a list of bonds says of two atoms, how many of its bonds an atom has, and that every bond has two ends.
use mathlib.Core.Bool.{Bool, true, false, cond, not, ◌&&◌, ◌||◌, or_comm, and-false, true≢false}
use mathlib.Core.List.Memᴰ
use mathlib.Core.List.{List, [], ◌∷◌, map, Memᴰ}
use mathlib.Core.Logic.{◌⊎◌, inl, inr, ⊎_elim, ◌≢◌}
use mathlib.Core.Path.{◌≡◌, refl, sym, ◌∙◌, ap}
use Prim.Native.Nat.{ℕ, ◌+◌, ◌*◌, ◌<◌, ◌≤◌}
use native.Mathlib.Omega.{arith}
use lib.Dec.{eqb}
use lib.ListN.{length}
use borrow.Author.Tests.{eqb-true}
use Rattle.lists.specs.Upto.{upto, each, sum}
use Rattle.lists.specs.Tests.{keep, count}
use Rattle.lists.proofs.Booleans.{and_both, or_either}
use Rattle.lists.proofs.Sums.{sum-map_const, sum-swap}
use Rattle.lists.proofs.Members.{map-eq}
use Rattle.lists.proofs.Counts.{count_none, count-split, count-cover, count-pick, count-only}
use Rattle.molecule.specs.Bonds.{Bond, on, joins, code_in}

pub joins-swap : (p q : ℕ) (b : Bond) → joins p q b ≡ joins q p b
joins-swap p q b = or_comm (eqb b.one p && eqb b.two q) (eqb b.one q && eqb b.two p)

-- p and q are the ends of b, either way round
abbrev pub Between : ℕ → ℕ → Bond → Type 0
Between p q b = ((b.one ≡ p) × (b.two ≡ q)) ⊎ ((b.one ≡ q) × (b.two ≡ p))

pub joins-ends : (p q : ℕ) (b : Bond) → joins p q b ≡ true → Between p q b
joins-ends p q b e = go (or_either _ _ e)
  where
    go : ((eqb b.one p && eqb b.two q) ≡ true) ⊎ ((eqb b.one q && eqb b.two p) ≡ true) → Between p q b
    go (inl f) = let w = and_both _ _ f in inl (eqb-true _ _ w.0, eqb-true _ _ w.1)
    go (inr f) = let w = and_both _ _ f in inr (eqb-true _ _ w.0, eqb-true _ _ w.1)

pub code_in-swap : (bs : List Bond) (p q : ℕ) → code_in bs p q ≡ code_in bs q p
code_in-swap [] p q = refl
code_in-swap (b ∷ bs) p q = λ i. cond (joins-swap p q b i) b.code (code_in-swap bs p q i)

-- the code is that of a bond which joins the two, and is 0 if none does
abbrev pub Coded : List Bond → ℕ → ℕ → Type 0
Coded bs p q =
    ((b : Bond) × Memᴰ b bs × (joins p q b ≡ true) × (code_in bs p q ≡ b.code))
    ⊎ (((b : Bond) → Memᴰ b bs → joins p q b ≡ false) × (code_in bs p q ≡ 0))

pub code_in-coded : (bs : List Bond) (p q : ℕ) → Coded bs p q
code_in-coded [] p q = inr (λ b m. absurd (Memᴰ.not-nil m), refl)
code_in-coded (b ∷ bs) p q = go (joins p q b) refl (code_in-coded bs p q)
  where
    go : (s : Bool) → joins p q b ≡ s → Coded bs p q → Coded (b ∷ bs) p q
    go true e w = inl (b, Memᴰ.head refl, e, rw e)
    go false e (inl w) = inl (w.0, Memᴰ.tail w.1, w.2, rw e w.3)
    go false e (inr w) = inr (λ c m. ⊎_elim (λ (f : c ≡ b). ap (joins p q) f ∙ e) (w.0 c) (Memᴰ.cases_cons m), rw e w.1)

-- the code of two atoms is decided by the bonds that may join them
pub code_in-keep : (f : Bond → Bool) (p q : ℕ) (bs : List Bond) → ((b : Bond) → Memᴰ b bs → joins p q b ≡ true → f b ≡ true) → code_in bs p q ≡ code_in (keep f bs) p q
unfolding keep
code_in-keep f p q [] h = refl
code_in-keep f p q (b ∷ bs) h = go (f b) (joins p q b) refl refl (code_in-keep f p q bs (λ c m. h c (Memᴰ.tail m)))
  where
    go : (s t : Bool) → f b ≡ s → joins p q b ≡ t → code_in bs p q ≡ code_in (keep f bs) p q
        → cond (joins p q b) b.code (code_in bs p q) ≡ code_in (cond s (b ∷ keep f bs) (keep f bs)) p q
    go true t e j ih = ap (cond (joins p q b) b.code) ih
    go false true e j ih = absurd (true≢false (sym (h b (Memᴰ.head refl) j) ∙ e))
    go false false e j ih = rw j ih

-- a bound on every code
pub code_in-le : (bs : List Bond) (p q m : ℕ) → ((b : Bond) → Memᴰ b bs → b.code ≤ m) → code_in bs p q ≤ m
code_in-le bs p q m h = go (code_in-coded bs p q)
  where
    go : Coded bs p q → code_in bs p q ≤ m
    go (inl w) = omega (arith, w.3, h w.0 w.1)
    go (inr w) = omega (arith, w.1)

-- no atom has a bond to itself where every bond has two ends
pub code_in-self : (bs : List Bond) (p : ℕ) → ((b : Bond) → Memᴰ b bs → b.one ≢ b.two) → code_in bs p p ≡ 0
code_in-self bs p h = go (code_in-coded bs p p)
  where
    same : (b : Bond) → Between p p b → b.one ≡ b.two
    same b (inl w) = omega arith
    same b (inr w) = omega arith

    go : Coded bs p p → code_in bs p p ≡ 0
    go (inl w) = absurd (h w.0 w.1 (same w.0 (joins-ends p p w.0 w.2)))
    go (inr w) = w.1

-- p has in b at most one other atom, and none if it is no end
joins-few : (n p : ℕ) (b : Bond) → count (each n (λ q. joins p q b)) ≤ cond (on p b) 1 0
joins-few n p b = go (eqb b.one p) (eqb b.two p) refl refl
  where
    other : (q : ℕ) → joins p q b ≡ true → (b.one ≡ p → q ≡ b.two) × (b.two ≡ p → q ≡ b.one)
    other q e = pick (joins-ends p q b e)
      where
        pick : Between p q b → (b.one ≡ p → q ≡ b.two) × (b.two ≡ p → q ≡ b.one)
        pick (inl w) = omega arith
        pick (inr w) = omega arith

    go : (s t : Bool) → eqb b.one p ≡ s → eqb b.two p ≡ t → count (each n (λ q. joins p q b)) ≤ cond (s || t) 1 0
    go true t e f = count-only n b.two (λ q. joins p q b) (λ q l j. (other q j).0 (eqb-true _ _ e))
    go false true e f = count-only n b.one (λ q. joins p q b) (λ q l j. (other q j).1 (eqb-true _ _ f))
    go false false e f = omega (arith, count_none n (λ q. joins p q b) (λ q l. rw (e, f, and-false)))

-- an atom has no more neighbours than bonds
pub coded-few : (bs : List Bond) (n p : ℕ) → count (each n (λ q. not (eqb (code_in bs p q) 0))) ≤ count (map (on p) bs)
coded-few [] n p = omega (arith, count_none n (λ q. false) (λ q l. refl))
coded-few (b ∷ bs) n p =
    omega (
      arith,
      count-cover n (λ q. joins p q b) (λ q. not (eqb (code_in bs p q) 0)) (λ q. not (eqb (code_in (b ∷ bs) p q) 0)) (λ q l e. pick q (joins p q b) refl e),
      joins-few n p b,
      coded-few bs n p,
    )
  where
    pick : (q : ℕ) (s : Bool) → joins p q b ≡ s → not (eqb (cond s b.code (code_in bs p q)) 0) ≡ true → (joins p q b ≡ true) ⊎ (not (eqb (code_in bs p q) 0) ≡ true)
    pick q true j e = inl j
    pick q false j e = inr e

-- two atoms that are there, and are two
abbrev pub Ends : ℕ → Bond → Type 0
Ends n b = (b.one < n) × (b.two < n) × (b.one ≢ b.two)

-- the atoms that pass a test and are an end of a bond
pub ends-count : (n : ℕ) (f : ℕ → Bool) (b : Bond) → Ends n b → count (each n (λ p. f p && on p b)) ≡ cond (f b.one) 1 0 + cond (f b.two) 1 0
ends-count n f b h =
    count-split n (λ p. f p && eqb b.one p) (λ p. f p && eqb b.two p) (λ p. f p && on p b) (λ p l. go p (f p) (eqb b.one p) (eqb b.two p) refl refl)
    ∙ omega (arith, count-pick n b.one f h.0, count-pick n b.two f h.1)
  where
    go : (p : ℕ) (s t u : Bool) → eqb b.one p ≡ t → eqb b.two p ≡ u → cond {A = ℕ} (s && (t || u)) 1 0 ≡ cond (s && t) 1 0 + cond (s && u) 1 0
    go p true true true e f = absurd (h.2 (eqb-true _ _ e ∙ sym (eqb-true _ _ f)))
    go p true true false e f = refl
    go p true false u e f = omega arith
    go p false t u e f = refl

-- every bond is counted at both of its ends
pub sum-on : (n : ℕ) (bs : List Bond) → ((b : Bond) → Memᴰ b bs → Ends n b) → sum (each n (λ p. count (map (on p) bs))) ≡ 2 * length bs
unfolding each
sum-on n bs h =
    sum-swap on (upto n) bs
    ∙ ap sum (map-eq bs (λ b. count (map (λ p. on p b) (upto n))) (λ b. 2) (λ b m. ends-count n (λ p. true) b (h b m)))
    ∙ sum-map_const bs 2
    ∙ omega arith

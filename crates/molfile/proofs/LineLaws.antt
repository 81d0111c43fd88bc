-- A line by the place of its LF.
use Prim.Native.Nat.{ℕ, zero, suc, ◌+◌, ◌-◌, ◌≤◌, ◌<◌}
use mathlib.Core.Path.{◌≡◌, refl, sym, ap, ◌∙◌}
use mathlib.Core.List.{List, [], ◌∷◌}
use mathlib.Core.Bool.{Bool, true, false, cond, ◌&&◌}
use native.Mathlib.Numerals.{add-one}
use native.Mathlib.Omega.{arith}
use lib.ListN.{length, get_or, take, drop, length-drop, drop_of_length-le}
use lib.Seq.{drop-cons, drop-drop, get_or-drop, take_all}
use lib.Dec.{eqb}
use borrow.Author.Tests.{eq-eqb, ne_eqb, eqb-true}
use Rattle.lists.proofs.Booleans.{and_both}
use Rattle.ctfile.specs.Lines as rules
use Rattle.ctfile.specs.Lines.{starts_with, line_bytes, lines_from}
use Rattle.molfile.specs.Cutting.{line_feed, lines_at, line_of}

pub feed_here : (s : List ℕ) (i : ℕ) → i < length s → get_or s i 0 ≡ 10 → line_feed (drop i s) ≡ 0
feed_here s i h e = rw (drop-cons s i 0 h, eq-eqb _ _ e)

pub feed_on : (s : List ℕ) (i : ℕ) → i < length s → (get_or s i 0 ≡ 10 → ⊥) → line_feed (drop i s) ≡ suc (line_feed (drop (i + 1) s))
feed_on s i h n = rw (drop-cons s i 0 h, ne_eqb _ _ n, add-one i)

pub feed_out : (s : List ℕ) (i : ℕ) → length s ≤ i → line_feed (drop i s) ≡ 0
feed_out s i h = rw (drop_of_length-le s h)

starts : (c : ℕ) (cs : List ℕ) → starts_with 10 (c ∷ cs) ≡ eqb (line_feed (c ∷ cs)) 0
starts c cs = pick (eqb c 10)
  where
    pick : (b : Bool) → b ≡ eqb (cond b 0 (suc (line_feed cs))) 0
    pick true = refl
    pick false = sym (ne_eqb (suc (line_feed cs)) 0 (λ q. omega arith))

started : (l : List ℕ) → starts_with 10 l ≡ true → (line_feed l ≡ 0) × (0 < length l)
started [] e = absurd (let z : ◌≡◌ {A = ℕ} 0 1 = cc in omega arith)
started (c ∷ cs) e = (eqb-true _ _ (sym (starts c cs) ∙ e), omega arith)

-- no CR stands directly before the LF
abbrev Bare : List ℕ → Type 0
Bare l = (m : ℕ) → line_feed l ≡ suc m → suc m < length l → get_or l m 0 ≡ 13 → ⊥

bare-bytes : (l : List ℕ) → Bare l → line_bytes l ≡ take (line_feed l) l
unfolding line_bytes
bare-bytes [] h = refl
bare-bytes (b ∷ bs) h = pick (eqb b 10) refl (bare-bytes bs)
  where
    fed : eqb b 10 ≡ false → line_feed (b ∷ bs) ≡ suc (line_feed bs)
    fed e = simp e

    other : (c : Bool) → (eqb b 13 && starts_with 10 bs) ≡ c → eqb b 10 ≡ false → (Bare bs → line_bytes bs ≡ take (line_feed bs) bs) → line_bytes (b ∷ bs) ≡ take (line_feed (b ∷ bs)) (b ∷ bs)
    other true q e f =
        let w = and_both (eqb b 13) _ q in
        let z = started bs w.1 in
        absurd (h 0 (fed e ∙ ap suc z.0) (omega (arith, z.1)) (eqb-true _ _ w.0))
    other false q e f = simp (e, q) (ap (λ (r : List ℕ). b ∷ r) (f (λ m x y z. h (suc m) (fed e ∙ ap suc x) (omega arith) z)))

    pick : (c : Bool) → eqb b 10 ≡ c → (Bare bs → line_bytes bs ≡ take (line_feed bs) bs) → line_bytes (b ∷ bs) ≡ take (line_feed (b ∷ bs)) (b ∷ bs)
    pick true e f = simp e
    pick false e f = other (eqb b 13 && starts_with 10 bs) refl e f

returned-bytes : (l : List ℕ) (m : ℕ) → line_feed l ≡ suc m → suc m < length l → get_or l m 0 ≡ 13 → line_bytes l ≡ take m l
unfolding line_bytes
returned-bytes [] m f h g = absurd (omega arith)
returned-bytes (b ∷ []) m f h g = absurd (omega arith)
returned-bytes (b ∷ c ∷ cs) m f h g = pick (eqb b 10) refl m f h g (returned-bytes (c ∷ cs))
  where
    pick : (x : Bool) → eqb b 10 ≡ x → (m : ℕ) → line_feed (b ∷ c ∷ cs) ≡ suc m → suc m < length (b ∷ c ∷ cs) → get_or (b ∷ c ∷ cs) m 0 ≡ 13
        → ((k : ℕ) → line_feed (c ∷ cs) ≡ suc k → suc k < length (c ∷ cs) → get_or (c ∷ cs) k 0 ≡ 13 → line_bytes (c ∷ cs) ≡ take k (c ∷ cs))
        → line_bytes (b ∷ c ∷ cs) ≡ take m (b ∷ c ∷ cs)
    pick true e m f h g more = absurd (let z = simp e at f in omega arith)
    pick false e zero f h g more =
        let z : line_feed (c ∷ cs) ≡ 0 = let w = simp e at f in omega arith in
        let t : eqb c 10 ≡ true = starts c cs ∙ eq-eqb _ _ z in
        let u : eqb b 13 ≡ true = eq-eqb b 13 g in
        simp (e, u, t)
    pick false e (suc k) f h g more =
        let z : line_feed (c ∷ cs) ≡ suc k = let w = simp e at f in omega arith in
        let n : eqb c 10 ≡ false = starts c cs ∙ ne_eqb (line_feed (c ∷ cs)) 0 (λ q. omega arith) in
        let w : (eqb b 13 && eqb c 10) ≡ false = none (eqb b 13) (eqb c 10) n in
        simp (e, w) (ap (λ (r : List ℕ). b ∷ r) (more k z (omega arith) g))
      where
        none : (x y : Bool) → y ≡ false → (x && y) ≡ false
        none true y e = e
        none false y e = refl

-- what follows the LF is where the next line begins
after-feed : (l : List ℕ) (o : ℕ) → line_feed l < length l → lines_from l false o ≡ lines_from (drop (suc (line_feed l)) l) true (o + suc (line_feed l))
unfolding lines_from
after-feed [] o h = absurd (omega arith)
after-feed (b ∷ bs) o h = pick (eqb b 10) refl (after-feed bs (suc o))
  where
    pick : (c : Bool) → eqb b 10 ≡ c → (line_feed bs < length bs → lines_from bs false (suc o) ≡ lines_from (drop (suc (line_feed bs)) bs) true (suc o + suc (line_feed bs)))
        → lines_from (b ∷ bs) false o ≡ lines_from (drop (suc (line_feed (b ∷ bs))) (b ∷ bs)) true (o + suc (line_feed (b ∷ bs)))
    pick true e f = simp (e, add-one)
    pick false e f =
        let g : line_feed (b ∷ bs) ≡ suc (line_feed bs) = simp e in
        let k : line_feed bs < length bs = omega (arith, g) in
        let z : suc o + suc (line_feed bs) ≡ o + suc (suc (line_feed bs)) = omega arith in
        simp e (f k ∙ rw z)

no_feed : (l : List ℕ) (o : ℕ) → length l ≤ line_feed l → lines_from l false o ≡ []
unfolding lines_from
no_feed [] o h = refl
no_feed (b ∷ bs) o h = pick (eqb b 10) refl (no_feed bs (suc o))
  where
    pick : (c : Bool) → eqb b 10 ≡ c → (length bs ≤ line_feed bs → lines_from bs false (suc o) ≡ []) → lines_from (b ∷ bs) false o ≡ []
    pick true e f = absurd (let z : line_feed (b ∷ bs) ≡ 0 = simp e in omega (arith, z))
    pick false e f =
        let g : line_feed (b ∷ bs) ≡ suc (line_feed bs) = simp e in
        simp e (f (omega (arith, g)))

begun : (l : List ℕ) (o : ℕ) → 0 < length l → lines_from l true o ≡ record { offset = o; bytes = line_bytes l } ∷ lines_from l false o
unfolding lines_from
begun [] o h = absurd (omega arith)
begun (b ∷ bs) o h = refl

pub no_lines : (s : List ℕ) (at : ℕ) → length s ≤ at → lines_at s at ≡ []
unfolding lines_from
no_lines s at h = rw (drop_of_length-le s h)

module _ (s : List ℕ) (at : ℕ) (h : at < length s) where
  long : length (drop at s) ≡ length s - at
  long = length-drop at s

  first : lines_at s at ≡ line_of s at ∷ lines_from (drop at s) false at
  first = begun (drop at s) at (omega (arith, long))

  pub line_last : length s ≤ at + line_feed (drop at s) → line_bytes (drop at s) ≡ drop at s
  line_last k =
      let n : length (drop at s) ≤ line_feed (drop at s) = omega (arith, long) in
      bare-bytes (drop at s) (λ m x y z. omega arith) ∙ take_all (line_feed (drop at s)) (drop at s) n

  pub lines_last : length s ≤ at + line_feed (drop at s) → lines_at s at ≡ line_of s at ∷ lines_at s (length s)
  lines_last k =
      first ∙ ap (λ (r : List rules.Line). line_of s at ∷ r) (no_feed (drop at s) at (omega (arith, long)) ∙ sym (no_lines s (length s) (omega arith)))

  module _ (f : ℕ) (e : f ≡ at + line_feed (drop at s)) (k : f < length s) where
    pub lines_on : lines_at s at ≡ line_of s at ∷ lines_at s (f + 1)
    lines_on =
        let n : line_feed (drop at s) < length (drop at s) = omega (arith, long) in
        let g : at + suc (line_feed (drop at s)) ≡ f + 1 = omega arith in
        first ∙ ap (λ (r : List rules.Line). line_of s at ∷ r) (after-feed (drop at s) at n ∙ rw (drop-drop (suc (line_feed (drop at s))) at s, g))

    pub line_bare : (at < f → get_or s (f - 1) 0 ≡ 13 → ⊥) → take (f - at) (drop at s) ≡ line_bytes (drop at s)
    line_bare n =
        let x : f - at ≡ line_feed (drop at s) = omega arith in
        ap (λ (j : ℕ). take j (drop at s)) x ∙ sym (bare-bytes (drop at s) bare)
      where
        bare : (m : ℕ) → line_feed (drop at s) ≡ suc m → suc m < length (drop at s) → get_or (drop at s) m 0 ≡ 13 → ⊥
        bare m x y z =
            let w : at + m ≡ f - 1 = omega arith in
            n (omega arith) (ap (λ (j : ℕ). get_or s j 0) (sym w) ∙ sym (get_or-drop at s m 0) ∙ z)

    pub line_returned : at < f → get_or s (f - 1) 0 ≡ 13 → take (f - 1 - at) (drop at s) ≡ line_bytes (drop at s)
    line_returned l c =
        let x : line_feed (drop at s) ≡ suc (f - 1 - at) = omega arith in
        let w : at + (f - 1 - at) ≡ f - 1 = omega arith in
        sym (returned-bytes (drop at s) (f - 1 - at) x (omega (arith, long)) (get_or-drop at s (f - 1 - at) 0 ∙ ap (λ (j : ℕ). get_or s j 0) w ∙ c))

-- Every atom is written with its own hydrogens: an atom newly put has none, its H are put next, and no other stroke puts an H on it.
use mathlib.Core.Path.{◌≡◌, refl, sym, ap, ◌∙◌, subst}
use mathlib.Core.Bool.{Bool, true, false, cond, ◌&&◌, ◌||◌, and-false, and-true, or-false, or-true}
use mathlib.Core.List.{List, [], ◌∷◌, ◌++◌, map}
use mathlib.Core.Logic.{⊎_elim}
use Prim.Native.Nat.{ℕ, zero, suc, ◌+◌, ◌<◌}
use native.Mathlib.Nat.{not-suc-le-zero}
use native.Mathlib.Decide.{ℕ_discrete}
use native.Mathlib.Omega.{arith}
use lib.ListN.{length, get_or-append}
use lib.Seq.{get_or-append_seam}
use lib.Dec.{eqb}
use borrow.Author.Tests.{eq-eqb, ne_eqb}
use Rattle.lists.specs.Tests.{count}
use Rattle.lists.proofs.All.{All, all_snoc, map-all, count-all_none}
use Rattle.lists.proofs.Passed.{count-snoc}
use Rattle.molecule.specs.Bonds.{Bond, on}
use Rattle.molecule.specs.Molecule.{Molecule}
use Rattle.molecule.proofs.Sound.{Sound}
use Rattle.sling.specs.Reading.{hydrogens_on}
use Rattle.sling.specs.Walk.{hydrogens_at, code_at, Written, place_in, put_hs, first, written}
use Rattle.sling.proofs.Tidy.{bond, h_at, h_bond}
use Rattle.sling.proofs.Places.{On, place-more, on-more, place-new, on-new, on-cases, rank_at, places-differ}
use Rattle.sling.proofs.Strokes.{put_hs-suc, put_at, Rank, Near, with_hs, next_at, ring_at, Strokes, here, onward, back, put_hs-keeps, put_hs-old}
use Rattle.sling.proofs.Ready.{Within, Inside, inside-put, inside-keeps}
use Rattle.sling.proofs.Finished.{written-closed}
use Rattle.sling.proofs.Followed.{reader_of}
use Rattle.sling.proofs.Ranks.{written-ranked, reader_zero}

-- the bonds of a place to an H, which is a rank of 0
unfoldable pub h_on : List ℕ → List Bond → ℕ → ℕ
h_on l bs p = count (map (λ b. on p b && h_bond l b) bs)

h_on_snoc : (l : List ℕ) (bs : List Bond) (b : Bond) (p : ℕ) → h_on l (bs ++ (b ∷ [])) p ≡ h_on l bs p + cond (on p b && h_bond l b) 1 0
unfolding h_on
h_on_snoc l bs b p = count-snoc (λ c. on p c && h_bond l c) bs b

h_on_more : (l xs : List ℕ) (bs : List Bond) (p : ℕ) → All (Within (length l)) bs → h_on (l ++ xs) bs p ≡ h_on l bs p
unfolding h_on
h_on_more l xs bs p a =
    ap count (map-all (λ b. on p b && h_bond (l ++ xs) b) (λ b. on p b && h_bond l b)
    (λ b x. rw (get_or-append l xs 0 b.one x.0, get_or-append l xs 0 b.two x.1)) bs a)

h_on_none : (l : List ℕ) (bs : List Bond) → All (Within (length l)) bs → h_on l bs (length l) ≡ 0
unfolding h_on
h_on_none l bs a =
    count-all_none (λ b. on (length l) b && h_bond l b)
    (λ b x. rw (ne_eqb b.one (length l) (λ e. omega arith), ne_eqb b.two (length l) (λ e. omega arith))) bs a

-- an atom s put at c: seen from an older place, and from its own
h_on_put : (l : List ℕ) (bs : List Bond) (c s m p : ℕ) → All (Within (length l)) bs → c < length l → p < length l
    → h_on (l ++ (s ∷ [])) (bs ++ (bond c (length l) m ∷ [])) p ≡ h_on l bs p + cond (eqb c p && (h_at l c || eqb s 0)) 1 0
h_on_put l bs c s m p a hc hp =
    h_on_snoc (l ++ (s ∷ [])) bs (bond c (length l) m) p
    ∙ rw (h_on_more l (s ∷ []) bs p a, get_or-append l (s ∷ []) 0 c hc, get_or-append_seam l s [] 0, ne_eqb (length l) p (λ e. omega arith), or-false (eqb c p))

h_on_new : (l : List ℕ) (bs : List Bond) (c s m : ℕ) → All (Within (length l)) bs → c < length l → h_at l c ≡ false → eqb s 0 ≡ false
    → h_on (l ++ (s ∷ [])) (bs ++ (bond c (length l) m ∷ [])) (length l) ≡ 0
h_on_new l bs c s m a hc e f =
    h_on_snoc (l ++ (s ∷ [])) bs (bond c (length l) m) (length l)
    ∙ rw (h_on_more l (s ∷ []) bs (length l) a, h_on_none l bs a, get_or-append l (s ∷ []) 0 c hc, get_or-append_seam l s [] 0, e, f, and-false)

abbrev h_of : Written → ℕ → ℕ
h_of w x = h_on w.ranks w.bonds (place_in w.ranks x)

cond-suc : (b : Bool) (n : ℕ) → cond b 1 0 + cond b n 0 ≡ cond b (suc n) 0
cond-suc true n = omega arith
cond-suc false n = refl

cond-zero : (b : Bool) → cond {A = ℕ} b 0 0 ≡ 0
cond-zero true = refl
cond-zero false = refl

-- h hydrogens put on r
put_hs-adds : (h r x : ℕ) (w : Written) → Inside w → On w.ranks r → On w.ranks x
    → h_of (put_hs h r w) x ≡ h_of w x + cond (eqb (place_in w.ranks r) (place_in w.ranks x)) h 0
unfolding put_hs
put_hs-adds zero r x w i hr hx = omega (arith, cond-zero (eqb (place_in w.ranks r) (place_in w.ranks x)))
put_hs-adds (suc h) r x w i hr hx =
    let same = eqb (place_in w.ranks r) (place_in w.ranks x) in
    let w₁ = put_at r 0 0 1 w in
    let k = h_on_put w.ranks w.bonds (place_in w.ranks r) 0 1 (place_in w.ranks x) i hr hx in
    let j = rw (or-true (h_at w.ranks (place_in w.ranks r)), and-true same) at k in
    let e : h_of w₁ x ≡ h_of w x + cond same 1 0 = rw (place-more w.ranks (0 ∷ []) x hx) j in
    let c : cond (eqb (place_in w₁.ranks r) (place_in w₁.ranks x)) h 0 ≡ cond same h 0 =
    rw (place-more w.ranks (0 ∷ []) r hr, place-more w.ranks (0 ∷ []) x hx) in
    let f = put_hs-adds h r x w₁ (inside-put w.ranks w.bonds 0 (place_in w.ranks r) 1 i hr) (on-more w.ranks (0 ∷ []) r hr) (on-more w.ranks (0 ∷ []) x hx) in
    rw (put_hs-suc h r w) (f ∙ omega (arith, cond-suc same h))

pub record Hydrated (W : Molecule) (w : Written) : Type 0 where
  pub inside : Inside w
  pub hydrogens : (x : ℕ) → Rank W x → On w.ranks x → h_of w x ≡ hydrogens_at W x

-- a rank is no H
rank_heavy : (W : Molecule) (l : List ℕ) (r : ℕ) → Rank W r → On l r → h_at l (place_in l r) ≡ false
rank_heavy W l r q h = rw (rank_at l r h) (ne_eqb r 0 (λ e. omega (arith, q.low)))

-- an atom without hydrogens gets its own
with_hs_hydrated : (W : Molecule) (s : ℕ) (w : Written) → Rank W s → Inside w → On w.ranks s → h_of w s ≡ 0
    → ((x : ℕ) → Rank W x → (x ≡ s → ⊥) → On w.ranks x → h_of w x ≡ hydrogens_at W x) → Hydrated W (with_hs W s w)
with_hs_hydrated W s w q i h none others =
    record {
      inside = put_hs-keeps W Inside (inside-keeps W) (hydrogens_at W s) s w q h i;
      hydrogens = λ x p o. pick x p (put_hs-old (hydrogens_at W s) s w x p.low o) (ℕ_discrete x s);
    }
  where
    pick : (x : ℕ) → Rank W x → On w.ranks x → Dec (x ≡ s) → h_of (with_hs W s w) x ≡ hydrogens_at W x
    pick x p o (yes e) = subst (λ (y : ℕ). h_of (with_hs W s w) y ≡ hydrogens_at W y) (sym e)
        (put_hs-adds (hydrogens_at W s) s s w i h h ∙ rw (none, eq-eqb (place_in w.ranks s) (place_in w.ranks s) refl) (omega arith))
    pick x p o (no e) = put_hs-adds (hydrogens_at W s) s x w i h o ∙ rw (places-differ w.ranks s x h o (λ d. e (sym d))) (omega (arith, others x p e o))

-- a neighbour put: the others keep theirs
module _ (W : Molecule) (r s : ℕ) (w : Written) (n : Near W r s) (h : On w.ranks r) where
  onward_hydrated : (On w.ranks s → ⊥) → Hydrated W w → Hydrated W (with_hs W s (next_at W r s w))
  onward_hydrated k t =
      with_hs_hydrated W s (next_at W r s w) n.two (inside-put w.ranks w.bonds s (place_in w.ranks r) (code_at W r s) t.inside h) (on-new w.ranks s)
      (rw (place-new w.ranks s k)
      (h_on_new w.ranks w.bonds (place_in w.ranks r) s (code_at W r s) t.inside h (rank_heavy W w.ranks r n.one h) (ne_eqb s 0 (λ e. omega (arith, n.two.low)))))
      (λ x p ne o. ⊎_elim (λ j. old x p j) (λ e. absurd (ne e)) (on-cases w.ranks s x o))
    where
      old : (x : ℕ) → Rank W x → On w.ranks x → h_of (next_at W r s w) x ≡ hydrogens_at W x
      old x p o =
          let k = h_on_put w.ranks w.bonds (place_in w.ranks r) s (code_at W r s) (place_in w.ranks x) t.inside h o in
          let j = rw (rank_heavy W w.ranks r n.one h, ne_eqb s 0 (λ e. omega (arith, n.two.low)), and-false) at k in
          rw (place-more w.ranks (s ∷ []) x o) (omega (arith, j, t.hydrogens x p o))

  back-hydrated : On w.ranks s → Hydrated W w → Hydrated W (ring_at W r s w)
  back-hydrated k t =
      record {
        inside = all_snoc (Within (length w.ranks)) w.bonds _ t.inside (h, k);
        hydrogens = λ x p o.
            h_on_snoc w.ranks w.bonds _ (place_in w.ranks x)
            ∙ rw (rank_heavy W w.ranks r n.one h, rank_heavy W w.ranks s n.two k, and-false) (omega (arith, t.hydrogens x p o));
      }

strokes_hydrated : {W : Molecule} {w v : Written} → Strokes W w v → Hydrated W w → Hydrated W v
strokes_hydrated here t = t
strokes_hydrated {W} (onward {w = w} r s n h k q) t = strokes_hydrated q (onward_hydrated W r s w n h k t)
strokes_hydrated {W} (back {w = w} r s n h k u q) t = strokes_hydrated q (back-hydrated W r s w n h k t)

first-hydrated : (W : Molecule) → 0 < W.size → Hydrated W (with_hs W 1 (first W))
unfolding h_on
first-hydrated W some =
    with_hs_hydrated W 1 (first W) (record { low = omega arith; high = some }) tt (omega arith) refl
    (λ x p ne o. ⊎_elim (λ j. absurd (not-suc-le-zero j)) (λ e. absurd (ne e)) (on-cases [] 1 x o))

-- what the reader counts
pub hydrogens-are : (W : Molecule) → Sound W → (us : List ℕ) (x : ℕ) → Rank W x → On (written W).ranks x
    → hydrogens_on (reader_of W (written W) us) (place_in (written W).ranks x) ≡ hydrogens_at W x
unfolding h_on
hydrogens-are W S us x q h =
    let t = strokes_hydrated (written-closed W S.some).0.strokes (first-hydrated W S.some) in
    let high = (written-ranked W S.some).high in
    ap count (map-all _ (λ b. on (place_in (written W).ranks x) b && h_bond (written W).ranks b)
    (λ b i. rw (reader_zero W S (written W).ranks high b.one, reader_zero W S (written W).ranks high b.two))
    (written W).bonds t.inside)
    ∙ t.hydrogens x q h

-- When an atom can be finished to a depth: it is written, the bonds have places at their ends, and fewer atoms than the depth are not
-- written. Every stroke keeps that, and with a neighbour put it holds of the neighbour to a depth of one less.
use mathlib.Core.Path.{◌≡◌, refl, sym, ap, ◌∙◌}
use mathlib.Core.Bool.{Bool, true, false, not, true≢false}
use mathlib.Core.List.{List, [], ◌∷◌, ◌++◌, map}
use mathlib.Core.Logic.{⊎_elim}
use Prim.Native.Nat.{ℕ, zero, suc, ◌<◌, ◌≤◌}
use native.Mathlib.Nat.{not-suc-le-zero}
use native.Mathlib.Omega.{arith}
use lib.ListN.{length, length-append}
use lib.Dec.{ltb}
use borrow.Author.Tests.{lt-ltb, le-ltb, ltb-true, ltb-false}
use Rattle.lists.specs.Upto.{each}
use Rattle.lists.specs.Tests.{count, some}
use Rattle.lists.proofs.Tested.{some-true, some-snoc}
use Rattle.lists.proofs.Counts.{count-le, count-lt}
use Rattle.lists.proofs.All.{All, all_map, all_snoc, all_mem}
use Rattle.molecule.specs.Bonds.{Bond, joins}
use Rattle.molecule.specs.Molecule.{Molecule}
use Rattle.molecule.proofs.BondLists.{joins-ends}
use Rattle.sling.specs.Walk.{code_at, Written, place_in, is_written, is_traced}
use Rattle.sling.proofs.Tidy.{bond}
use Rattle.sling.proofs.Places.{On, place-more, on-more, on-new}
use Rattle.sling.proofs.Strokes.{Near, next_at, Keeps, keeps_put}

-- the ends of the bonds are places
abbrev pub Within : ℕ → Bond → Type 0
Within n b = (b.one < n) × (b.two < n)

abbrev pub Inside : Written → Type 0
Inside w = All (Within (length w.ranks)) w.bonds

pub inside-put : (l : List ℕ) (bs : List Bond) (s p m : ℕ) → All (Within (length l)) bs → p < length l
    → All (Within (length (l ++ (s ∷ [])))) (bs ++ (bond p (length l) m ∷ []))
inside-put l bs s p m h k =
    let e = length-append l (s ∷ []) in
    all_snoc (Within (length (l ++ (s ∷ [])))) bs (bond p (length l) m) (all_map (λ b x. omega arith) bs h) (omega arith)

pub inside-keeps : (W : Molecule) → Keeps W Inside
inside-keeps W =
    keeps_put W Inside (λ r s k m w h i. inside-put w.ranks w.bonds s (place_in w.ranks r) m i h)
    (λ r s w n h k u i. all_snoc (Within (length w.ranks)) w.bonds _ i (h, k))

-- the bond of two ranks is traced
abbrev pub Traced : Written → ℕ → ℕ → Type 0
Traced w r s = On w.ranks r × On w.ranks s × (is_traced w r s ≡ true)

traced-more : (l xs : List ℕ) (bs : List Bond) (b : Bond) (r s : ℕ) → On l r → On l s → some (map (joins (place_in l r) (place_in l s)) bs) ≡ true
    → some (map (joins (place_in (l ++ xs) r) (place_in (l ++ xs) s)) (bs ++ (b ∷ []))) ≡ true
traced-more l xs bs b r s hr hs e =
    rw (place-more l xs r hr, place-more l xs s hs) (some-snoc (joins (place_in l r) (place_in l s)) bs b ∙ rw e)

pub traced-keeps : (W : Molecule) (x y : ℕ) → Keeps W (λ w. Traced w x y)
traced-keeps W x y =
    keeps_put W (λ w. Traced w x y)
    (λ r s k m w h t.
    (on-more w.ranks (s ∷ []) x t.0, on-more w.ranks (s ∷ []) y t.1, traced-more w.ranks (s ∷ []) w.bonds _ x y t.0 t.1 t.2))
    (λ r s w n h k u t. (t.0, t.1, some-snoc (joins (place_in w.ranks x) (place_in w.ranks y)) w.bonds _ ∙ rw t.2))

-- how many atoms are not written
unfoldable pub unwritten : ℕ → List ℕ → ℕ
unwritten n l = count (each n (λ a. not (ltb (place_in l (suc a)) (length l))))

not_written : (l : List ℕ) (r : ℕ) → not (ltb (place_in l r) (length l)) ≡ true → On l r → ⊥
not_written l r e h = true≢false (sym (rw (lt-ltb _ _ h) at e))

still_not : (l xs : List ℕ) (r : ℕ) → not (ltb (place_in (l ++ xs) r) (length (l ++ xs))) ≡ true → not (ltb (place_in l r) (length l)) ≡ true
still_not l xs r e = pick (ltb (place_in l r) (length l)) refl
  where
    pick : (b : Bool) → ltb (place_in l r) (length l) ≡ b → not (ltb (place_in l r) (length l)) ≡ true
    pick true f = absurd (not_written (l ++ xs) r e (on-more l xs r (ltb-true _ _ f)))
    pick false f = ap not f

unwritten_more : (n : ℕ) (l xs : List ℕ) → unwritten n (l ++ xs) ≤ unwritten n l
unfolding unwritten
unwritten_more n l xs = count-le n _ _ (λ a h e. still_not l xs (suc a) e)

unwritten_put : (n s : ℕ) (l : List ℕ) → 0 < s → s ≤ n → (On l s → ⊥) → unwritten n (l ++ (s ∷ [])) < unwritten n l
unfolding unwritten
unwritten_put n zero l p q h = absurd (not-suc-le-zero p)
unwritten_put n (suc a) l p q h =
    count-lt n _ _ (λ b k e. still_not l (suc a ∷ []) (suc b) e) a q (ap not (lt-ltb _ _ (on-new l (suc a))))
    (let far : length l ≤ place_in l (suc a) = omega arith in ap not (le-ltb _ _ far))

-- the atom of rank r can be served to a depth d
pub record Ready (W : Molecule) (d r : ℕ) (w : Written) : Type 0 where
  pub on : On w.ranks r
  pub inside : Inside w
  pub few : unwritten W.size w.ranks < d

pub ready_keeps : (W : Molecule) (d x : ℕ) → Keeps W (Ready W d x)
ready_keeps W d x =
    keeps_put W (Ready W d x)
    (λ r s k m w h t.
    record {
      on = on-more w.ranks (s ∷ []) x t.on;
      inside = inside-put w.ranks w.bonds s (place_in w.ranks r) m t.inside h;
      few = omega (arith, t.few, unwritten_more W.size w.ranks (s ∷ []));
    })
    (λ r s w n h k u t. record { on = t.on; inside = (inside-keeps W).back r s w n h k u t.inside; few = t.few })

pub traced-on : (w : Written) (r s : ℕ) → Inside w → is_traced w r s ≡ true → On w.ranks s
traced-on w r s i e =
    let b = some-true (joins (place_in w.ranks r) (place_in w.ranks s)) w.bonds e in
    let x = all_mem (Within (length w.ranks)) w.bonds i b.0 b.1 in
    ⊎_elim (λ z. let y : b.0.two ≡ place_in w.ranks s = z.1 in omega arith) (λ z. let y : b.0.one ≡ place_in w.ranks s = z.0 in omega arith)
    (joins-ends _ _ b.0 b.2)

pub off : (w : Written) (s : ℕ) → is_written w s ≡ false → On w.ranks s → ⊥
off w s e h = let far : length w.ranks ≤ place_in w.ranks s = ltb-false _ _ e in omega arith

-- a neighbour put is ready to a depth of one less
pub next-ready : (W : Molecule) (d r s : ℕ) (w : Written) → Near W r s → Ready W (suc d) r w → (On w.ranks s → ⊥) → Ready W d s (next_at W r s w)
next-ready W d r s w n t k =
    record {
      on = on-new w.ranks s;
      inside = inside-put w.ranks w.bonds s (place_in w.ranks r) (code_at W r s) t.inside t.on;
      few = omega (arith, t.few, unwritten_put W.size s w.ranks n.two.low n.two.high k);
    }

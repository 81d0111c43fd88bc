-- Places and traced bonds, as the walk looks them up, after a hydrogen, a neighbour put, and a ring closed.
use mathlib.Core.Bool.{Bool, true, false, cond, ◌&&◌, ◌||◌, or-false, and-false}
use mathlib.Core.List.Memᴰ
use mathlib.Core.List.{List, [], ◌∷◌, ◌++◌, map, Memᴰ}
use mathlib.Core.Logic.{⊎_elim}
use mathlib.Core.Path.{◌≡◌, refl, sym, ap, ap₂, ◌∙◌, subst}
use Prim.Native.Nat.{ℕ, zero, suc, ◌+◌, ◌*◌, ◌<◌, ◌≤◌}
use native.Mathlib.Omega.{arith}
use lib.ListN.{length, get_or, set, length-append, length-set}
use lib.Seq.{get_or-set_same, get_or-set_other}
use lib.Dec.{eqb, ltb, eqb-suc-suc}
use borrow.Author.Tests.{lt-ltb, le-ltb, eq-eqb, ne_eqb, ltb-true, ltb-false, eqb-true, eqb-false}
use Rattle.lists.specs.Tests.{some}
use Rattle.lists.proofs.Members.{map-eq}
use Rattle.molecule.specs.Bonds.{Bond, joins}
use Rattle.sling.specs.Walk.{Written, place_in, is_traced, put_hs}
use Rattle.lists.proofs.Tested.{some-snoc}
use Rattle.sling.proofs.Places.{On, place-more, on-more, place-new, on-new, on-cases, places-differ}
use Rattle.sling.proofs.Strokes.{put_at, close_at, put-served}
use Rattle.std.specs.Prelude.{Option, Some, None}
use Rattle.writing.specs.Shown.{Noted, marked, held}

-- where a rank is not written, its place is past all that are
far : (l : List ℕ) (x : ℕ) → (On l x → ⊥) → length l ≤ place_in l x
far l x n = let k : On l x → ⊥ = n in omega arith

far_more : (l xs : List ℕ) (x : ℕ) → length l ≤ place_in l x → length l ≤ place_in (l ++ xs) x
far_more [] xs x h = omega arith
far_more (y ∷ l) xs x h = pick (eqb y x) refl (far_more l xs x)
  where
    pick : (b : Bool) → eqb y x ≡ b → (length l ≤ place_in l x → length l ≤ place_in (l ++ xs) x) → length (y ∷ l) ≤ place_in ((y ∷ l) ++ xs) x
    pick true e f = absurd (let z = simp e at h in omega arith)
    pick false e f = simp e (let g = f (let z = simp e at h in omega arith) in omega arith)

data Either (l : List ℕ) (x : ℕ) : Type 0 where
  yes : On l x → Either l x
  no : (On l x → ⊥) → length l ≤ place_in l x → Either l x

either : (l : List ℕ) (x : ℕ) → Either l x
either l x = pick (ltb (place_in l x) (length l)) refl
  where
    pick : (b : Bool) → ltb (place_in l x) (length l) ≡ b → Either l x
    pick true e = yes (ltb-true _ _ e)
    pick false e = let h : length l ≤ place_in l x = ltb-false _ _ e in no (λ o. omega arith) h

-- two ranks share a place only if they are one
pub place-eq : (l : List ℕ) (r x : ℕ) → On l r → eqb (place_in l r) (place_in l x) ≡ eqb r x
place-eq l r x o = pick (eqb r x) refl
  where
    apart : (r ≡ x → ⊥) → Either l x → eqb (place_in l r) (place_in l x) ≡ false
    apart n (yes k) = places-differ l r x o k n
    apart n (no k h) = ne_eqb _ _ (λ (e : place_in l r ≡ place_in l x). omega arith)

    pick : (b : Bool) → eqb r x ≡ b → eqb (place_in l r) (place_in l x) ≡ b
    pick true e = eq-eqb _ _ (ap (place_in l) (eqb-true r x e))
    pick false e = apart (eqb-false r x e) (either l x)

-- an end of an old bond is the place of a rank now if it was before
old_end : (l xs : List ℕ) (q x : ℕ) → q < length l → eqb q (place_in (l ++ xs) x) ≡ eqb q (place_in l x)
old_end l xs q x h = pick (either l x)
  where
    pick : Either l x → eqb q (place_in (l ++ xs) x) ≡ eqb q (place_in l x)
    pick (yes o) = ap (eqb q) (place-more l xs x o)
    pick (no n k) =
        let m = far_more l xs x k in
        ne_eqb q (place_in (l ++ xs) x) (λ e. omega arith) ∙ sym (ne_eqb q (place_in l x) (λ e. omega arith))

old_bond : (l xs : List ℕ) (x y : ℕ) (b : Bond) → (b.one < length l) × (b.two < length l)
    → joins (place_in (l ++ xs) x) (place_in (l ++ xs) y) b ≡ joins (place_in l x) (place_in l y) b
old_bond l xs x y b h =
    rw (old_end l xs b.one x h.0, old_end l xs b.two y h.1, old_end l xs b.one y h.0, old_end l xs b.two x h.1)

abbrev Inside : List ℕ → List Bond → Type 0
Inside l bs = (b : Bond) → Memᴰ b bs → (b.one < length l) × (b.two < length l)

old_bonds : (l xs : List ℕ) (bs : List Bond) (x y : ℕ) → Inside l bs
    → some (map (joins (place_in (l ++ xs) x) (place_in (l ++ xs) y)) bs) ≡ some (map (joins (place_in l x) (place_in l y)) bs)
old_bonds l xs bs x y i = ap some (map-eq bs _ _ (λ b m. old_bond l xs x y b (i b m)))

inside-more : (l xs : List ℕ) (bs : List Bond) (b : Bond) → Inside l bs → (b.one < length (l ++ xs)) × (b.two < length (l ++ xs)) → Inside (l ++ xs) (bs ++ (b ∷ []))
inside-more l xs bs b i h c m =
    ⊎_elim (λ k. let z = i c k in let e = length-append l xs in (omega arith, omega arith))
    (λ k. subst (λ (z : Bond). (z.one < length (l ++ xs)) × (z.two < length (l ++ xs))) (sym (Memᴰ.eq_of_singleton k)) h) (Memᴰ.append_cases bs m)

-- the bond of two ranks that are written, by ranks
joins-ranks : (l : List ℕ) (r s x y m : ℕ) → On l r → On l s
    → joins (place_in l x) (place_in l y) (record { one = place_in l r; two = place_in l s; code = m }) ≡ (eqb r x && eqb s y || eqb r y && eqb s x)
joins-ranks l r s x y m o k = rw (place-eq l r x o, place-eq l s y k, place-eq l r y o, place-eq l s x k)

held_on : (l : List ℕ) (x : ℕ) → On l x → held l x ≡ Some (place_in l x)
held_on l x o = rw (lt-ltb _ _ o)

held-off : (l : List ℕ) (x : ℕ) → length l ≤ place_in l x → held l x ≡ None
held-off l x h = rw (le-ltb _ _ h)

held-other : (l : List ℕ) (s x : ℕ) → (x ≡ s → ⊥) → held (l ++ (s ∷ [])) x ≡ held l x
held-other l s x n = pick (either l x)
  where
    pick : Either l x → held (l ++ (s ∷ [])) x ≡ held l x
    pick (yes o) = held_on (l ++ (s ∷ [])) x (on-more l (s ∷ []) x o) ∙ ap Some (place-more l (s ∷ []) x o) ∙ sym (held_on l x o)
    pick (no k h) =
        held-off (l ++ (s ∷ [])) x (far (l ++ (s ∷ [])) x (λ o. ⊎_elim k n (on-cases l s x o))) ∙ sym (held-off l x h)

held_new : (l : List ℕ) (s : ℕ) → (On l s → ⊥) → held (l ++ (s ∷ [])) s ≡ Some (length l)
held_new l s n = held_on (l ++ (s ∷ [])) s (on-new l s) ∙ ap Some (place-new l s n)

-- the two cells of a pair of atoms
cell_eq : (a b c e : ℕ) → b < 64 → e < 64 → eqb (64 * a + b) (64 * c + e) ≡ (eqb a c && eqb b e)
cell_eq a b c e h k = pick (eqb a c) refl (eqb b e) refl
  where
    pick : (p : Bool) → eqb a c ≡ p → (q : Bool) → eqb b e ≡ q → eqb (64 * a + b) (64 * c + e) ≡ (eqb a c && eqb b e)
    pick true f true g = rw (f, g) (let x = eqb-true a c f in let y = eqb-true b e g in let z : 64 * a + b ≡ 64 * c + e = omega arith in eq-eqb _ _ z)
    pick true f false g = rw (f, g) (ne_eqb _ _ (λ (z : 64 * a + b ≡ 64 * c + e). eqb-false b e g (let x = eqb-true a c f in omega arith)))
    pick false f q g = rw f (ne_eqb _ _ (λ (z : 64 * a + b ≡ 64 * c + e). eqb-false a c f (omega arith)))

set_at : (l : List Bool) (i k : ℕ) (x : Bool) → i < length l → get_or (set l i x) k false ≡ cond (eqb i k) x (get_or l k false)
set_at l i k x h = pick (eqb i k) refl
  where
    pick : (b : Bool) → eqb i k ≡ b → get_or (set l i x) k false ≡ cond (eqb i k) x (get_or l k false)
    pick true e = rw (e, ← (eqb-true i k e)) (get_or-set_same l i x false h)
    pick false e = rw e (get_or-set_other l i k x false (λ z. eqb-false i k e (sym z)))

flag : (p q t : Bool) → cond q true (cond p true t) ≡ (t || (p || q))
flag true true true = refl
flag true true false = refl
flag true false true = refl
flag true false false = refl
flag false true true = refl
flag false true false = refl
flag false false true = refl
flag false false false = refl

both_ways : (a b c e : Bool) → (a && b || c && e) ≡ (a && b || e && c)
both_ways true true c e = refl
both_ways true false true true = refl
both_ways true false true false = refl
both_ways true false false true = refl
both_ways true false false false = refl
both_ways false b true true = refl
both_ways false b true false = refl
both_ways false b false true = refl
both_ways false b false false = refl

pub marked-long : (tr : List Bool) (a b : ℕ) → length tr ≡ 4096 → length (marked tr a b) ≡ 4096
marked-long tr a b e = length-set {A = Bool} (set tr (64 * a + b) true) (64 * b + a) true ∙ length-set {A = Bool} tr (64 * a + b) true ∙ e

pub marked-at : (tr : List Bool) (a b c e : ℕ) (t : Bool) → length tr ≡ 4096 → a < 64 → b < 64 → c < 64 → e < 64 → get_or tr (64 * c + e) false ≡ t
    → get_or (marked tr a b) (64 * c + e) false ≡ (t || (eqb (suc a) (suc c) && eqb (suc b) (suc e) || eqb (suc a) (suc e) && eqb (suc b) (suc c)))
marked-at tr a b c e t long ha hb hc he g =
    set_at (set tr (64 * a + b) true) (64 * b + a) (64 * c + e) true (rw (length-set tr (64 * a + b) true) (omega arith))
    ∙ ap (cond (eqb (64 * b + a) (64 * c + e)) true) (set_at tr (64 * a + b) (64 * c + e) true (omega arith))
    ∙ ap (λ (z : Bool). cond (eqb (64 * b + a) (64 * c + e)) true (cond (eqb (64 * a + b) (64 * c + e)) true z)) g
    ∙ rw (cell_eq a b c e hb he, cell_eq b a c e ha he, eqb-suc-suc a c, eqb-suc-suc b e, eqb-suc-suc a e, eqb-suc-suc b c)
    (flag (eqb a c && eqb b e) (eqb b c && eqb a e) t ∙ ap (λ (z : Bool). t || z) (both_ways (eqb a c) (eqb b e) (eqb b c) (eqb a e)))

module _ (n : ℕ) (small : n ≤ 64) (pl : List (Option ℕ)) (tr : List Bool) (w : Written) (N : Noted n pl tr w) where
  -- a hydrogen is no rank
  pub noted_hydrogen : (r : ℕ) → On w.ranks r → Noted n pl tr (put_at r 0 0 1 w)
  noted_hydrogen r o =
      let l = w.ranks in
      record {
        places_long = N.places_long;
        traced_long = N.traced_long;
        place = λ a h. N.place a h ∙ sym (held-other l 0 (suc a) (λ e. omega arith));
        bond = λ a b h k. N.bond a b h k ∙ sym (apart a b);
        inside = inside-more l (0 ∷ []) w.bonds _ N.inside (let e = length-append l (0 ∷ []) in (omega arith, omega arith));
      }
    where
      past : (x : ℕ) → eqb (length w.ranks) (place_in (w.ranks ++ (0 ∷ [])) (suc x)) ≡ false
      past x = pick (either w.ranks (suc x))
        where
          pick : Either w.ranks (suc x) → eqb (length w.ranks) (place_in (w.ranks ++ (0 ∷ [])) (suc x)) ≡ false
          pick (yes y) = ne_eqb _ _ (λ (e : length w.ranks ≡ place_in (w.ranks ++ (0 ∷ [])) (suc x)). let z = place-more w.ranks (0 ∷ []) (suc x) y in omega arith)
          pick (no y h) =
              ne_eqb _ _ (λ (e : length w.ranks ≡ place_in (w.ranks ++ (0 ∷ [])) (suc x)).
              let z : length (w.ranks ++ (0 ∷ [])) ≤ place_in (w.ranks ++ (0 ∷ [])) (suc x) = far (w.ranks ++ (0 ∷ [])) (suc x) (λ q. ⊎_elim y (λ (f : suc x ≡ 0). omega arith) (on-cases w.ranks 0 (suc x) q)) in
              let g = length-append w.ranks (0 ∷ []) in omega arith)

      apart : (a b : ℕ) → is_traced (put_at r 0 0 1 w) (suc a) (suc b) ≡ is_traced w (suc a) (suc b)
      apart a b =
          some-snoc (joins (place_in (w.ranks ++ (0 ∷ [])) (suc a)) (place_in (w.ranks ++ (0 ∷ [])) (suc b))) w.bonds _
          ∙ rw (past a, past b, and-false, and-false, or-false) (old_bonds w.ranks (0 ∷ []) w.bonds (suc a) (suc b) N.inside)

  -- a neighbour put
  pub noted_put : (a b k m : ℕ) → a < n → b < n → On w.ranks (suc a) → (On w.ranks (suc b) → ⊥)
      → Noted n (set pl b (Some (length w.ranks))) (marked tr a b) (put_at (suc a) (suc b) k m w)
  noted_put a b k m ha hb o u =
      let l = w.ranks in
      let e = length-append l (suc b ∷ []) in
      record {
        places_long = length-set pl b (Some (length l)) ∙ N.places_long;
        traced_long = marked-long tr a b N.traced_long;
        place = λ c h. put-place c h;
        bond = λ c d h j.
            marked-at tr a b c d (is_traced w (suc c) (suc d)) N.traced_long (omega arith) (omega arith) (omega arith) (omega arith) (N.bond c d h j)
            ∙ sym (put-bond c d);
        inside = inside-more l (suc b ∷ []) w.bonds _ N.inside (omega arith, omega arith);
      }
    where
      put-bond : (c d : ℕ) → is_traced (put_at (suc a) (suc b) k m w) (suc c) (suc d)
          ≡ (is_traced w (suc c) (suc d) || (eqb (suc a) (suc c) && eqb (suc b) (suc d) || eqb (suc a) (suc d) && eqb (suc b) (suc c)))
      put-bond c d =
          some-snoc (joins (place_in (w.ranks ++ (suc b ∷ [])) (suc c)) (place_in (w.ranks ++ (suc b ∷ [])) (suc d))) w.bonds _
          ∙ ap₂ ◌||◌ (old_bonds w.ranks (suc b ∷ []) w.bonds (suc c) (suc d) N.inside)
          (rw (← (place-new w.ranks (suc b) u), ← (place-more w.ranks (suc b ∷ []) (suc a) o))
          (joins-ranks (w.ranks ++ (suc b ∷ [])) (suc a) (suc b) (suc c) (suc d) m (on-more w.ranks (suc b ∷ []) (suc a) o) (on-new w.ranks (suc b))))

      put-place : (c : ℕ) → c < n → get_or (set pl b (Some (length w.ranks))) c None ≡ held (w.ranks ++ (suc b ∷ [])) (suc c)
      put-place c h = pick (eqb b c) refl
        where
          pick : (z : Bool) → eqb b c ≡ z → get_or (set pl b (Some (length w.ranks))) c None ≡ held (w.ranks ++ (suc b ∷ [])) (suc c)
          pick true z =
              rw (← (eqb-true b c z))
              (get_or-set_same pl b (Some (length w.ranks)) None (omega (arith, N.places_long)) ∙ sym (held_new w.ranks (suc b) u))
          pick false z =
              get_or-set_other pl b c (Some (length w.ranks)) None (λ y. eqb-false b c z (sym y)) ∙ N.place c h
              ∙ sym (held-other w.ranks (suc b) (suc c) (λ y. eqb-false b c z (omega arith)))

  -- a ring closed
  pub noted_close : (a b m : ℕ) → a < n → b < n → On w.ranks (suc a) → On w.ranks (suc b) → Noted n pl (marked tr a b) (close_at (suc a) (suc b) m w)
  noted_close a b m ha hb o u =
      record {
        places_long = N.places_long;
        traced_long = marked-long tr a b N.traced_long;
        place = N.place;
        bond = λ c d h j.
            marked-at tr a b c d (is_traced w (suc c) (suc d)) N.traced_long (omega arith) (omega arith) (omega arith) (omega arith) (N.bond c d h j)
            ∙ sym (close-bond c d);
        inside = λ c i.
            ⊎_elim (λ q. N.inside c q) (λ q. subst (λ (z : Bond). (z.one < length w.ranks) × (z.two < length w.ranks)) (sym (Memᴰ.eq_of_singleton q)) (o, u)) (Memᴰ.append_cases w.bonds i);
      }
    where
      close-bond : (c d : ℕ) → is_traced (close_at (suc a) (suc b) m w) (suc c) (suc d)
          ≡ (is_traced w (suc c) (suc d) || (eqb (suc a) (suc c) && eqb (suc b) (suc d) || eqb (suc a) (suc d) && eqb (suc b) (suc c)))
      close-bond c d =
          some-snoc (joins (place_in w.ranks (suc c)) (place_in w.ranks (suc d))) w.bonds _
          ∙ ap (λ (t : Bool). is_traced w (suc c) (suc d) || t) (joins-ranks w.ranks (suc a) (suc b) (suc c) (suc d) m o u)

-- an atom's hydrogens
pub noted_hs : (n : ℕ) → n ≤ 64 → (pl : List (Option ℕ)) (tr : List Bool) (h r : ℕ) (w : Written) → On w.ranks r → Noted n pl tr w → Noted n pl tr (put_hs h r w)
unfolding put_hs
noted_hs n small pl tr zero r w o N = N
noted_hs n small pl tr (suc h) r w o N =
    rw (put-served r 0 0 1 w)
    (noted_hs n small pl tr h r (put_at r 0 0 1 w) (on-more w.ranks (0 ∷ []) r o) (noted_hydrogen n small pl tr w N r o))

-- The place of a rank among those written: it stays where it is when more are written, and a rank newly written has the last place.
use mathlib.Core.Path.{◌≡◌, refl, sym, ap, ◌∙◌, subst}
use mathlib.Core.Bool.{true, false, or-true}
use mathlib.Core.List.{List, [], ◌∷◌, ◌++◌, map, Memᴰ}
use mathlib.Core.Logic.{◌⊎◌, inl, inr, ⊎_elim}
use Prim.Native.Nat.{ℕ, ◌<◌}
use native.Mathlib.Omega.{arith}
use lib.ListN.{length, get_or, length-append}
use lib.Dec.{eqb}
use borrow.Author.Tests.{eq-eqb, lt-ltb, ltb-true, eqb-true, ne_eqb}
use Rattle.lists.specs.Tests.{some}
use Rattle.lists.proofs.Tested.{some-pass, some-snoc}
use Rattle.lists.proofs.Booleans.{or_either}
use Rattle.lists.proofs.Members.{get_or-mem}
use Rattle.lists.proofs.Found.{find-passes, find-append, find-snoc, find-some}
use Rattle.sling.specs.Walk.{place_in}

-- a rank is written
abbrev pub On : List ℕ → ℕ → Type 0
On l r = place_in l r < length l

pub place-more : (l xs : List ℕ) (r : ℕ) → On l r → place_in (l ++ xs) r ≡ place_in l r
place-more l xs r h = find-append (λ x. eqb x r) l xs h

pub on-more : (l xs : List ℕ) (r : ℕ) → On l r → On (l ++ xs) r
on-more l xs r h = rw (place-more l xs r h, length-append l xs) (omega arith)

pub place-new : (l : List ℕ) (s : ℕ) → (On l s → ⊥) → place_in (l ++ (s ∷ [])) s ≡ length l
place-new l s n = find-snoc (λ x. eqb x s) l s (let k : On l s → ⊥ = n in omega arith) (eq-eqb s s refl)

on_some : (l : List ℕ) (r : ℕ) → On l r → some (map (λ x. eqb x r) l) ≡ true
on_some l r h = sym (find-some (λ x. eqb x r) l) ∙ lt-ltb _ _ h

some-on : (l : List ℕ) (r : ℕ) → some (map (λ x. eqb x r) l) ≡ true → On l r
some-on l r e = ltb-true _ _ (find-some (λ x. eqb x r) l ∙ e)

pub on-new : (l : List ℕ) (s : ℕ) → On (l ++ (s ∷ [])) s
on-new l s = some-on (l ++ (s ∷ [])) s (some-snoc (λ x. eqb x s) l s ∙ rw (eq-eqb s s refl, or-true))

pub on-cases : (l : List ℕ) (s x : ℕ) → On (l ++ (s ∷ [])) x → On l x ⊎ (x ≡ s)
on-cases l s x h =
    ⊎_elim (λ e. inl (some-on l x e)) (λ e. inr (sym (eqb-true s x e)))
    (or_either _ _ (sym (some-snoc (λ y. eqb y x) l s) ∙ on_some (l ++ (s ∷ [])) x h))

-- what stands at the place of a rank is the rank, so that two ranks do not share a place
pub rank_at : (l : List ℕ) (r : ℕ) → On l r → get_or l (place_in l r) 0 ≡ r
rank_at l r h = eqb-true _ r (find-passes (λ x. eqb x r) l 0 h)

pub places-apart : (l : List ℕ) (r s : ℕ) → On l r → On l s → place_in l r ≡ place_in l s → r ≡ s
places-apart l r s hr hs e = sym (rank_at l r hr) ∙ ap (λ (p : ℕ). get_or l p 0) e ∙ rank_at l s hs

pub places-differ : (l : List ℕ) (r s : ℕ) → On l r → On l s → (r ≡ s → ⊥) → eqb (place_in l r) (place_in l s) ≡ false
places-differ l r s hr hs ne = ne_eqb _ _ (λ e. ne (places-apart l r s hr hs e))

pub mem_on : (l : List ℕ) (r : ℕ) → Memᴰ r l → On l r
mem_on l r m = some-on l r (some-pass (λ x. eqb x r) l r m (eq-eqb r r refl))

pub on-mem : (l : List ℕ) (r : ℕ) → On l r → Memᴰ r l
on-mem l r h = subst (λ (x : ℕ). Memᴰ x l) (rank_at l r h) (get_or-mem l (place_in l r) 0 h)

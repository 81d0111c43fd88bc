-- The place of the first element that passes a test: what stands there passes, there is one exactly if some passes, and it stays where it is
-- when the list grows.
use mathlib.Core.Path.{◌≡◌, refl, ap, ◌∙◌}
use mathlib.Core.Bool.{Bool, true, false, cond}
use mathlib.Core.List.{List, [], ◌∷◌, ◌++◌, map}
use Prim.Native.Nat.{suc, ◌<◌, ◌≤◌}
use native.Mathlib.Nat.{not-suc-le-zero}
use native.Mathlib.Omega.{arith}
use lib.ListN.{length, get_or}
use lib.Dec.{ltb, leb-suc-suc}
use borrow.Author.Tests.{lt-ltb}
use Rattle.lists.specs.Tests.{some, find}

pub find-passes : {A : Type 0} (p : A → Bool) (l : List A) (d : A) → find p l < length l → p (get_or l (find p l) d) ≡ true
find-passes p [] d h = absurd (not-suc-le-zero h)
find-passes p (x ∷ l) d h = go (p x) refl h (find-passes p l d)
  where
    go : (b : Bool) → p x ≡ b → cond b 0 (suc (find p l)) < suc (length l) → (find p l < length l → p (get_or l (find p l) d) ≡ true)
        → p (get_or (x ∷ l) (cond b 0 (suc (find p l))) d) ≡ true
    go true e h ih = e
    go false e h ih = ih (omega arith)

pub find-some : {A : Type 0} (p : A → Bool) (l : List A) → ltb (find p l) (length l) ≡ some (map p l)
unfolding some
find-some p [] = refl
find-some p (x ∷ l) = go (p x) refl (find-some p l)
  where
    go : (b : Bool) → p x ≡ b → ltb (find p l) (length l) ≡ some (map p l) → ltb (find p (x ∷ l)) (length (x ∷ l)) ≡ some (map p (x ∷ l))
    go true e ih = simp e (lt-ltb 0 (suc (length l)) (omega arith))
    go false e ih = simp e (leb-suc-suc (suc (find p l)) (length l) ∙ ih)

pub find-append : {A : Type 0} (p : A → Bool) (l m : List A) → find p l < length l → find p (l ++ m) ≡ find p l
find-append p [] m h = absurd (not-suc-le-zero h)
find-append p (x ∷ l) m h = go (p x) refl (find-append p l m)
  where
    go : (b : Bool) → p x ≡ b → (find p l < length l → find p (l ++ m) ≡ find p l) → find p ((x ∷ l) ++ m) ≡ find p (x ∷ l)
    go true e ih = simp e
    go false e ih = simp e (ap suc (ih (let g = simp e at h in omega arith)))

-- the first to pass is put at the end
pub find-snoc : {A : Type 0} (p : A → Bool) (l : List A) (x : A) → length l ≤ find p l → p x ≡ true → find p (l ++ (x ∷ [])) ≡ length l
find-snoc p [] x h t = simp t
find-snoc p (y ∷ l) x h t = go (p y) refl (find-snoc p l x)
  where
    go : (b : Bool) → p y ≡ b → (length l ≤ find p l → p x ≡ true → find p (l ++ (x ∷ [])) ≡ length l) → find p ((y ∷ l) ++ (x ∷ [])) ≡ length (y ∷ l)
    go true e ih = absurd (let g = simp e at h in omega arith)
    go false e ih = simp e (ap suc (ih (let g = simp e at h in omega arith) t))

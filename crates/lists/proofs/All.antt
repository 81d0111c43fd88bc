-- A property of each element of a list, as a pair of the first's and the others'; it is the same as the property of each that is in the list.
use mathlib.Core.Path.{◌≡◌, refl, sym, subst}
use mathlib.Core.Bool.{Bool, false}
use mathlib.Core.List.Memᴰ
use mathlib.Core.List.{List, [], ◌∷◌, ◌++◌, map, Memᴰ}
use mathlib.Core.Logic.{⊎_elim}
use Prim.Native.Nat.{ℕ, zero, suc}
use lib.ListN.{get_or}
use Rattle.lists.specs.Tests.{count}
use Rattle.lists.proofs.Members.{map-eq}
use Rattle.lists.proofs.Passed.{count-map_none}

abbrev pub All : {A : Type 0} → (A → Type 0) → List A → Type 0
All P [] = Unit {0}
All P (x ∷ l) = P x × All P l

pub all_map : {A : Type 0} {P Q : A → Type 0} → ((x : A) → P x → Q x) → (l : List A) → All P l → All Q l
all_map f [] h = tt
all_map f (x ∷ l) h = (f x h.0, all_map f l h.1)

pub all_snoc : {A : Type 0} (P : A → Type 0) (l : List A) (x : A) → All P l → P x → All P (l ++ (x ∷ []))
all_snoc P [] x h p = (p, tt)
all_snoc P (y ∷ l) x h p = (h.0, all_snoc P l x h.1 p)

pub mem_all : {A : Type 0} {P : A → Type 0} (l : List A) → ((x : A) → Memᴰ x l → P x) → All P l
mem_all [] h = tt
mem_all (x ∷ l) h = (h x (Memᴰ.head refl), mem_all l (λ y m. h y (Memᴰ.tail m)))

pub all_mem : {A : Type 0} (P : A → Type 0) (l : List A) → All P l → (x : A) → Memᴰ x l → P x
all_mem P [] h x m = absurd (Memᴰ.not-nil m)
all_mem P (y ∷ l) h x m = ⊎_elim (λ e. subst P (sym e) h.0) (λ k. all_mem P l h.1 x k) (Memᴰ.cases_cons m)

pub all_get_d : {A : Type 0} (P : A → Type 0) (l : List A) (d : A) → All P l → P d → (i : ℕ) → P (get_or l i d)
all_get_d P [] d h p i = p
all_get_d P (x ∷ l) d h p zero = h.0
all_get_d P (x ∷ l) d h p (suc i) = all_get_d P l d h.1 p i

-- functions that agree on what has the property
pub map-all : {A B : Type 0} {P : A → Type 0} (f g : A → B) → ((x : A) → P x → f x ≡ g x) → (l : List A) → All P l → map f l ≡ map g l
map-all {P = P} f g e l h = map-eq l f g (λ x m. e x (all_mem P l h x m))

-- a test that what has the property does not pass
pub count-all_none : {A : Type 0} {P : A → Type 0} (p : A → Bool) → ((x : A) → P x → p x ≡ false) → (l : List A) → All P l → count (map p l) ≡ 0
count-all_none {P = P} p e l h = count-map_none l p (λ x m. e x (all_mem P l h x m))

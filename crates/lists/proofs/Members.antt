-- What is in a list: the elements at its places, and no others; so two functions that agree on them give the same list.
use mathlib.Core.Path.{◌≡◌, refl, sym}
use mathlib.Core.List.Memᴰ
use mathlib.Core.List.{List, [], ◌∷◌, map, head_d, Memᴰ}
use mathlib.Core.Logic.{⊎_elim}
use Prim.Native.Nat.{ℕ, zero, suc, ◌<◌}
use native.Mathlib.Nat.{not-suc-le-zero}
use native.Mathlib.Omega.{arith}
use lib.ListN.{length, get_or}

pub head_d-mem : {A : Type 0} (l : List A) (d x : A) → Memᴰ x l → Memᴰ (head_d l d) l
unfolding head_d
head_d-mem [] d x m = absurd (Memᴰ.not-nil m)
head_d-mem (y ∷ l) d x m = Memᴰ.head refl

pub get_or-mem : {A : Type 0} (l : List A) (i : ℕ) (d : A) → i < length l → Memᴰ (get_or l i d) l
get_or-mem [] i d h = absurd (not-suc-le-zero h)
get_or-mem (x ∷ l) zero d h = Memᴰ.head refl
get_or-mem (x ∷ l) (suc i) d h = Memᴰ.tail (get_or-mem l i d (omega arith))

-- what stands at a place that is there does not hang on what would stand for nothing
pub get_or-there : {A : Type 0} (l : List A) (i : ℕ) (d e : A) → i < length l → get_or l i d ≡ get_or l i e
get_or-there [] i d e h = absurd (not-suc-le-zero h)
get_or-there (x ∷ l) zero d e h = refl
get_or-there (x ∷ l) (suc i) d e h = get_or-there l i d e (omega arith)

-- what is in a list stands at a place
pub mem_place : {A : Type 0} (l : List A) (x d : A) → Memᴰ x l → (i : ℕ) × (i < length l) × (get_or l i d ≡ x)
mem_place [] x d m = absurd (Memᴰ.not-nil m)
mem_place (y ∷ l) x d m =
    ⊎_elim (λ e. (0, omega arith, sym e)) (λ k. let w = mem_place l x d k in (suc w.0, omega arith, w.2)) (Memᴰ.cases_cons m)

pub map-eq : {A B : Type 0} (l : List A) (f g : A → B) → ((a : A) → Memᴰ a l → f a ≡ g a) → map f l ≡ map g l
map-eq [] f g h = refl
map-eq (x ∷ l) f g h = λ i. h x (Memᴰ.head refl) i ∷ map-eq l f g (λ a m. h a (Memᴰ.tail m)) i

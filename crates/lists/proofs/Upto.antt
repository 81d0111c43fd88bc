-- The numbers below a bound, and the list of something of each: what stands at a place, what is in it, and how long it is; and every list is that of
-- what stands at its places. A law on the numbers below a bound is first one on those from k on, by induction on how many there are.
use mathlib.Core.Path.{◌≡◌, refl, sym, ◌∙◌, ap}
use mathlib.Core.List.Memᴰ
use mathlib.Core.List.{List, [], ◌∷◌, ◌++◌, map, map-id, map-map, Memᴰ}
use mathlib.Core.Logic.{◌⊎◌, inl, inr}
use Prim.Native.Nat.{ℕ, zero, suc, ◌+◌, ◌≤◌, ◌<◌}
use native.Mathlib.Nat.{add-zero, zero-add, not-suc-le-zero}
use native.Mathlib.Decide.{ℕ_discrete}
use native.Mathlib.Omega.{arith}
use lib.ListN.{length, get_or, take, length-map}
use lib.Seq.{take-suc, take-length}
use Rattle.lists.specs.Upto.{from, upto, each}
use Rattle.lists.proofs.Steps.{each-zero, each_next}

get_or-from : {A : Type 0} (f : ℕ → A) (k n i : ℕ) (d : A) → i < n → get_or (map f (from k n)) i d ≡ f (k + i)
unfolding from
get_or-from f k zero i d h = absurd (not-suc-le-zero h)
get_or-from f k (suc n) zero d h = rw add-zero
get_or-from f k (suc n) (suc i) d h = get_or-from f (suc k) n i d (omega arith) ∙ ap f (omega arith)

pub get_or-each : {A : Type 0} (n : ℕ) (f : ℕ → A) (i : ℕ) (d : A) → i < n → get_or (each n f) i d ≡ f i
unfolding each
get_or-each n f i d h = get_or-from f 0 n i d h ∙ ap f (zero-add i)

pub get_or-upto : (n i d : ℕ) → i < n → get_or (upto n) i d ≡ i
unfolding each
get_or-upto n i d h = ap (λ l. get_or l i d) (sym (map-id (upto n))) ∙ get_or-each n (λ a. a) i d h

-- two such lists that are equal are so place by place
pub each_at : {A : Type 0} (d : A) {n n' : ℕ} (f f' : ℕ → A) → each n f ≡ each n' f' → (i : ℕ) → i < n → i < n' → f i ≡ f' i
each_at d {n} {n'} f f' e i h h' = sym (get_or-each n f i d h) ∙ ap (λ l. get_or l i d) e ∙ get_or-each n' f' i d h'

from-eq : {A : Type 0} (f g : ℕ → A) (k n : ℕ) → ((a : ℕ) → a < k + n → f a ≡ g a) → map f (from k n) ≡ map g (from k n)
unfolding from
from-eq f g k zero h = refl
from-eq f g k (suc n) h = λ i. h k (omega arith) i ∷ from-eq f g (suc k) n (λ a l. h a (omega arith)) i

pub each-eq : {A : Type 0} (n : ℕ) (f g : ℕ → A) → ((a : ℕ) → a < n → f a ≡ g a) → each n f ≡ each n g
unfolding each
each-eq n f g h = from-eq f g 0 n (λ a l. h a (omega arith))

pub map_each : {A B : Type 0} (g : A → B) (n : ℕ) (f : ℕ → A) → map g (each n f) ≡ each n (λ a. g (f a))
unfolding each
map_each g n f = map-map g f (upto n)

length_from : (k n : ℕ) → length (from k n) ≡ n
unfolding from
length_from k zero = refl
length_from k (suc n) = ap suc (length_from (suc k) n)

pub length-upto : (n : ℕ) → length (upto n) ≡ n
length-upto n = length_from 0 n

pub length-each : {A : Type 0} (n : ℕ) (f : ℕ → A) → length (each n f) ≡ n
unfolding each
length-each n f = length-map (upto n) f ∙ length-upto n

-- a list by its places, up to k and to its end
pub each_take : {A : Type 0} (l : List A) (k : ℕ) (d : A) → k ≤ length l → each k (λ i. get_or l i d) ≡ take k l
each_take l zero d h = each-zero (λ i. get_or l i d)
each_take l (suc k) d h =
    each_next k (λ i. get_or l i d) ∙ ap (λ r. r ++ (get_or l k d ∷ [])) (each_take l k d (omega arith)) ∙ sym (take-suc l k d h)

pub each-get_or : {A B : Type 0} (f : A → B) (l : List A) (d : A) → each (length l) (λ i. f (get_or l i d)) ≡ map f l
each-get_or f l d =
    sym (map_each f (length l) (λ i. get_or l i d)) ∙ ap (map f) (each_take l (length l) d (omega arith) ∙ take-length l)

mem_from : (k n a : ℕ) → k ≤ a → a < k + n → Memᴰ a (from k n)
unfolding from
mem_from k zero a h l = absurd (omega arith)
mem_from k (suc n) a h l = go (mem_from (suc k) n a) (ℕ_discrete a k)
  where
    go : (suc k ≤ a → a < suc k + n → Memᴰ a (from (suc k) n)) → Dec (a ≡ k) → Memᴰ a (k ∷ from (suc k) n)
    go ih (yes e) = Memᴰ.head e
    go ih (no e) = Memᴰ.tail (ih (omega arith) (omega arith))

pub of_from : (k n a : ℕ) → Memᴰ a (from k n) → (k ≤ a) × (a < k + n)
unfolding from
of_from k zero a m = absurd (Memᴰ.not-nil m)
of_from k (suc n) a m = go (of_from (suc k) n a) (Memᴰ.cases_cons m)
  where
    go : (Memᴰ a (from (suc k) n) → (suc k ≤ a) × (a < suc k + n)) → (a ≡ k) ⊎ Memᴰ a (from (suc k) n) → (k ≤ a) × (a < k + suc n)
    go ih (inl e) = omega arith
    go ih (inr m) = let h = ih m in omega arith

pub mem_upto : (n a : ℕ) → a < n → Memᴰ a (upto n)
mem_upto n a h = mem_from 0 n a (omega arith) (omega arith)

pub of_upto : (n a : ℕ) → Memᴰ a (upto n) → a < n
of_upto n a m = let h = of_from 0 n a m in omega arith

pub mem_each : {A : Type 0} (n : ℕ) (f : ℕ → A) (a : ℕ) → a < n → Memᴰ (f a) (each n f)
unfolding each
mem_each n f a h = Memᴰ.map f (mem_upto n a h)

pub of_each : {A : Type 0} (n : ℕ) (f : ℕ → A) (x : A) → Memᴰ x (each n f) → (a : ℕ) × (a < n) × (f a ≡ x)
unfolding each
of_each n f x m = let w = Memᴰ.of_map f (upto n) m in (w.0, of_upto n w.0 w.1, w.2)

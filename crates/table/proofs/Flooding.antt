-- The flood decides connectedness: what is seen lies in every closed set that has atom 0, and when the queue is done it is closed itself.
use mathlib.Core.Bool.{Bool, true, false, cond, true≢false}
use mathlib.Core.List.Memᴰ
use mathlib.Core.List.{List, [], ◌∷◌, Memᴰ}
use mathlib.Core.Logic.{◌≢◌, ◌⊎◌, inl, inr}
use mathlib.Core.Path.{◌≡◌, refl, sym, ◌∙◌, ap, subst}
use Prim.Native.Nat.{ℕ, zero, suc, ◌+◌, ◌*◌, ◌<◌, ◌≤◌}
use native.Mathlib.Decide.{ℕ_discrete}
use native.Mathlib.Nat.{not-suc-le-zero}
use native.Mathlib.Omega.{arith}
use lib.Dec.{eqb}
use lib.ListN.{get_or, set, replicate}
use lib.Seq.{get_or-set_same, get_or-set_other}
use borrow.Author.Tests.{eq-eqb, ne_eqb}
use Rattle.lists.specs.Upto.{each}
use Rattle.lists.specs.Tests.{count}
use Rattle.lists.proofs.Steps.{count_next}
use Rattle.lists.proofs.Counts.{count-eq, count_none, count-one, count-below, count-fewer}
use Rattle.molecule.specs.Molecule.{Molecule, connected}
use Rattle.molecule.proofs.Neighbours.{mem_neighbours, of_neighbours}
use Rattle.molecule.proofs.Connected.{Even, Closed, connected-linked, linked-connected}
use Rattle.molecule.proofs.Sound.{Linked}
use Rattle.table.specs.Arrays.{Arrays, Tidy, HasRow, row_in, as_molecule}
use Rattle.table.specs.Flood.{is_seen, see, see_all, Counted}
use Rattle.table.specs.declared.flood.Flood.{Flood}
use Rattle.table.proofs.Views.{neighbours-row}
use Rattle.table.proofs.FloodLaws.{counted-room, added, see-cases, added-counted}

-- nothing at or above n is counted
count_cut : (m n : ℕ) (p : ℕ → Bool) → n ≤ m → ((x : ℕ) → n ≤ x → p x ≡ false) → count (each m p) ≡ count (each n p)
count_cut zero n p h f = let e : 0 ≡ n = omega arith in ap (λ (k : ℕ). count (each k p)) e
count_cut (suc m) n p h f = go (ℕ_discrete (suc m) n) (count_cut m n p)
  where
    go : Dec (suc m ≡ n) → (n ≤ m → ((x : ℕ) → n ≤ x → p x ≡ false) → count (each m p) ≡ count (each n p)) → count (each (suc m) p) ≡ count (each n p)
    go (yes e) ih = ap (λ (k : ℕ). count (each k p)) e
    go (no e) ih =
        let l : n ≤ m = omega arith in
        count_next m p ∙ ap (λ (s : Bool). count (each m p) + cond s 1 0) (f m l) ∙ omega (arith, ih l f)

count-all : (n : ℕ) (p : ℕ → Bool) → ((x : ℕ) → x < n → p x ≡ true) → count (each n p) ≡ n
count-all zero p h = count_none 0 p (λ x l. absurd (not-suc-le-zero l))
count-all (suc n) p h =
    count_next n p ∙ ap (λ (s : Bool). count (each n p) + cond s 1 0) (h n (omega arith)) ∙ omega (arith, count-all n p (λ x l. h x (omega arith)))

-- what the one knows the other knows too
pub record Grows (f g : Flood) : Type 0 where
  pub seen : (x : ℕ) → is_seen f x ≡ true → is_seen g x ≡ true
  pub queue : (i : ℕ) → i < f.end → get_or g.queue i 0 ≡ get_or f.queue i 0
  pub end : f.end ≤ g.end

grows_trans : (f g h : Flood) → Grows f g → Grows g h → Grows f h
grows_trans f g h G H = record {
  seen = λ x e. H.seen x (G.seen x e);
  queue = λ i l. H.queue i (omega (arith, G.end)) ∙ G.queue i l;
  end = omega (arith, G.end, H.end);
}

module _ (t : Arrays) where
  abbrev M : Molecule
  M = as_molecule t

  abbrev row : ℕ → List ℕ
  row a = row_in t.degrees t.near a

  -- every closed set that has atom 0 has it
  abbrev Forced : ℕ → Type 0
  Forced b = (S : ℕ → Bool) → S 0 ≡ true → Closed M S → S b ≡ true

  pub record Flooded (f : Flood) : Type 0 where
    pub counted : Counted f
    pub origin : is_seen f 0 ≡ true
    pub inside : (x : ℕ) → is_seen f x ≡ true → x < t.n
    pub forced : (x : ℕ) → is_seen f x ≡ true → Forced x
    pub there : (i : ℕ) → i < f.end → is_seen f (get_or f.queue i 0) ≡ true
    pub queued : (x : ℕ) → is_seen f x ≡ true → (i : ℕ) × (i < f.end) × (get_or f.queue i 0 ≡ x)

  -- the neighbours of the first atoms of the queue were seen
  abbrev pub Done : Flood → ℕ → Type 0
  Done f head = (i b : ℕ) → i < head → Memᴰ b (row (get_or f.queue i 0)) → is_seen f b ≡ true

  -- the queue is done up to its head
  abbrev pub Going : Flood → ℕ → Type 0
  Going f head = (head ≤ f.end) × Flooded f × Done f head

  module _ (T : Tidy t) where
    module _ (f : Flood) (F : Flooded f) (b : ℕ) (h : b < t.n) (forced : Forced b) where
      abbrev g : Flood
      g = added f b

      low : b < 64
      low = omega (arith, T.atoms)

      new_seen : is_seen g b ≡ true
      new_seen = get_or-set_same f.seen b true false (omega (arith, low, F.counted.seen_long))

      old_seen : (x : ℕ) → x ≢ b → is_seen g x ≡ is_seen f x
      old_seen x e = get_or-set_other f.seen b x true false e

      of_seen : (P : ℕ → Type 0) → P b → ((x : ℕ) → is_seen f x ≡ true → P x) → (x : ℕ) → is_seen g x ≡ true → P x
      of_seen P p q x e = go (ℕ_discrete x b)
        where
          go : Dec (x ≡ b) → P x
          go (yes k) = subst P (sym k) p
          go (no k) = q x (sym (old_seen x k) ∙ e)

      stays : (x : ℕ) → is_seen f x ≡ true → is_seen g x ≡ true
      stays x e = go (ℕ_discrete x b)
        where
          go : Dec (x ≡ b) → is_seen g x ≡ true
          go (yes k) = ap (is_seen g) k ∙ new_seen
          go (no k) = old_seen x k ∙ e

      module _ (e : is_seen f b ≡ false) where
        room : f.end < 64
        room = counted-room f b F.counted low e

        last : get_or g.queue f.end 0 ≡ b
        last = get_or-set_same f.queue f.end b 0 (omega (arith, room, F.counted.queue_long))

        before : (i : ℕ) → i < f.end → get_or g.queue i 0 ≡ get_or f.queue i 0
        before i l = get_or-set_other f.queue f.end i b 0 (λ k. omega arith)

        there : (i : ℕ) → i < f.end + 1 → is_seen g (get_or g.queue i 0) ≡ true
        there i l = go (ℕ_discrete i f.end)
          where
            go : Dec (i ≡ f.end) → is_seen g (get_or g.queue i 0) ≡ true
            go (yes k) = ap (λ (j : ℕ). is_seen g (get_or g.queue j 0)) k ∙ ap (is_seen g) last ∙ new_seen
            go (no k) = let m : i < f.end = omega arith in ap (is_seen g) (before i m) ∙ stays _ (F.there i m)

        added-flooded : Flooded g
        added-flooded = record {
          counted = added-counted f b F.counted low e;
          origin = stays 0 F.origin;
          inside = of_seen (λ x. x < t.n) h F.inside;
          forced = of_seen Forced forced F.forced;
          there = there;
          queued =
              of_seen (λ x. (i : ℕ) × (i < f.end + 1) × (get_or g.queue i 0 ≡ x)) (f.end, omega arith, last)
              (λ x k. let w = F.queued x k in (w.0, omega (arith, w.1), before w.0 w.1 ∙ w.2));
        }

        added-grows : Grows f g
        added-grows = record { seen = stays; queue = before; end = omega arith }

      abbrev Sees : Flood → Type 0
      Sees k = Flooded k × Grows f k × (is_seen k b ≡ true)

      see-flooded : Sees (see f b)
      see-flooded =
          see-cases Sees f b (λ e. (F, record { seen = λ x k. k; queue = λ i l. refl; end = omega arith }, e))
          (λ e. (added-flooded e, added-grows e, new_seen))

    see_all-flooded : (l : List ℕ) (f : Flood) → Flooded f → ((b : ℕ) → Memᴰ b l → (b < t.n) × Forced b)
        → Flooded (see_all f l) × Grows f (see_all f l) × ((b : ℕ) → Memᴰ b l → is_seen (see_all f l) b ≡ true)
    unfolding see_all
    see_all-flooded [] f F h = (F, record { seen = λ x k. k; queue = λ i l. refl; end = omega arith }, λ b m. absurd (Memᴰ.not-nil m))
    see_all-flooded (b ∷ l) f F h =
        let w = see-flooded f F b (h b (Memᴰ.head refl)).0 (h b (Memᴰ.head refl)).1 in
        let r = see_all-flooded l (see f b) w.0 (λ x m. h x (Memᴰ.tail m)) in
        (r.0, grows_trans f (see f b) (see_all (see f b) l) w.1 r.1, λ x m. go x r w (Memᴰ.cases_cons m))
      where
        go : (x : ℕ) → Flooded (see_all (see f b) l) × Grows (see f b) (see_all (see f b) l) × ((x : ℕ) → Memᴰ x l → is_seen (see_all (see f b) l) x ≡ true)
            → Flooded (see f b) × Grows f (see f b) × (is_seen (see f b) b ≡ true) → (x ≡ b) ⊎ Memᴰ x l → is_seen (see_all (see f b) l) x ≡ true
        go x r w (inl e) = ap (is_seen (see_all (see f b) l)) e ∙ r.1.seen b w.2
        go x r w (inr m) = r.2 x m

    -- a neighbour of an atom that was seen
    neighbour : (f : Flood) → Flooded f → (a b : ℕ) → is_seen f a ≡ true → Memᴰ b (row a) → (b < t.n) × (M.code a b ≢ 0)
    unfolding as_molecule
    neighbour f F a b e m = of_neighbours M a b (subst (λ (l : List ℕ). Memᴰ b l) (sym (neighbours-row t T a (F.inside a e))) m)

    pub flood_low : (f : Flood) → Flooded f → f.end ≤ 64
    flood_low f F = omega (arith, F.counted.end, count-below 64 (is_seen f))

    pub flood_row : (f : Flood) (head : ℕ) → Flooded f → head < f.end → HasRow t.degrees t.near (get_or f.queue head 0)
        × ((p : ℕ) → p < get_or t.degrees (get_or f.queue head 0) 0 → get_or t.near (6 * get_or f.queue head 0 + p) 0 < 64)
    flood_row f head F h =
        let l = F.inside (get_or f.queue head 0) (F.there head h) in (
          record { atom = omega (arith, T.atoms); few = T.few _ l; long = T.near_long },
          λ p m. omega (arith, T.atoms, T.inside (get_or f.queue head 0) p l m),
        )

    pub flood_step : (f : Flood) (head : ℕ) → Going f head → head < f.end → Going (see_all f (row (get_or f.queue head 0))) (head + 1)
    unfolding as_molecule
    flood_step f head G h =
        let F = G.1 in
        let a = get_or f.queue head 0 in
        let e = F.there head h in
        let w =
        see_all-flooded (row a) f F
        (λ b m. let n = neighbour f F a b e m in (n.0, λ S z c. c a b (F.inside a e) n.0 (F.forced a e S z c) n.1)) in
        (omega (arith, w.1.end), w.0, λ i b l m. go i b w.1 w.2 (omega arith) (ℕ_discrete i head) m)
      where
        go : (i b : ℕ) → Grows f (see_all f (row (get_or f.queue head 0)))
            → ((b : ℕ) → Memᴰ b (row (get_or f.queue head 0)) → is_seen (see_all f (row (get_or f.queue head 0))) b ≡ true)
            → i ≤ head → Dec (i ≡ head) → Memᴰ b (row (get_or (see_all f (row (get_or f.queue head 0))).queue i 0))
            → is_seen (see_all f (row (get_or f.queue head 0))) b ≡ true
        go i b H s l d m = pick d (subst (λ (q : ℕ). Memᴰ b (row q)) (H.queue i (omega arith)) m)
          where
            pick : Dec (i ≡ head) → Memᴰ b (row (get_or f.queue i 0)) → is_seen (see_all f (row (get_or f.queue head 0))) b ≡ true
            pick (yes k) m = s b (subst (λ (q : ℕ). Memᴰ b (row (get_or f.queue q 0))) k m)
            pick (no k) m = H.seen b (G.2 i b (omega arith) m)

    module _ (even : Even M) (f : Flood) (head : ℕ) (G : Going f head) (e : f.end ≤ head) where
      abbrev F : Flooded f
      F = G.1

      below : f.end ≡ count (each t.n (is_seen f))
      below = F.counted.end ∙ count_cut 64 t.n (is_seen f) T.atoms (λ x l. above x l (is_seen f x) refl)
        where
          above : (x : ℕ) → t.n ≤ x → (s : Bool) → is_seen f x ≡ s → s ≡ false
          above x l true e = absurd (omega (arith, F.inside x e))
          above x l false e = refl

      closed : Closed M (is_seen f)
      unfolding as_molecule
      closed a b h k s c =
          let w = F.queued a s in
          G.2 w.0 b (omega (arith, w.1, e))
          (subst (λ (q : ℕ). Memᴰ b (row q)) (sym w.2) (subst (λ (l : List ℕ). Memᴰ b l) (neighbours-row t T a h) (mem_neighbours M a b k c)))

      pub flood_end : eqb f.end t.n ≡ connected M
      unfolding as_molecule
      flood_end = go (ℕ_discrete f.end t.n)
        where
          all : f.end ≡ t.n → (x : ℕ) → x < t.n → (s : Bool) → is_seen f x ≡ s → s ≡ true
          all q x l true e = refl
          all q x l false e = absurd (omega (arith, below, count-fewer t.n (is_seen f) x l e))

          linked : f.end ≡ t.n → Linked M
          linked q S z c x h = F.forced x (all q x h (is_seen f x) refl) S z c

          not_all : (f.end ≡ t.n → ⊥) → (s : Bool) → connected M ≡ s → s ≡ false
          not_all q false e = refl
          not_all q true e = absurd (q (below ∙ count-all t.n (is_seen f) (connected-linked M even e (is_seen f) F.origin closed)))

          go : Dec (f.end ≡ t.n) → eqb f.end t.n ≡ connected M
          go (yes q) = eq-eqb f.end t.n q ∙ sym (linked-connected M even (F.inside 0 F.origin) (linked q))
          go (no q) = ne_eqb f.end t.n q ∙ sym (not_all q (connected M) refl)

-- at the start atom 0 alone was seen
abbrev pub first : Flood
first = record { seen = set (replicate 64 false) 0 true; queue = replicate 64 0; end = 1 }

nobody : (n x : ℕ) → get_or (replicate n false) x false ≡ false
nobody zero x = refl
nobody (suc n) zero = refl
nobody (suc n) (suc x) = nobody n x

first-seen : (x : ℕ) → is_seen first x ≡ eqb x 0
first-seen x = go (ℕ_discrete x 0)
  where
    go : Dec (x ≡ 0) → is_seen first x ≡ eqb x 0
    go (yes e) = ap (is_seen first) e ∙ sym (eq-eqb x 0 e)
    go (no e) = get_or-set_other (replicate 64 false) 0 x true false e ∙ nobody 64 x ∙ sym (ne_eqb x 0 e)

first-flooded : (t : Arrays) → 0 < t.n → Flooded t first
first-flooded t h = record {
  counted = record { seen_long = refl; queue_long = refl; end = sym (count-eq 64 (is_seen first) (λ x. eqb x 0) (λ x l. first-seen x) ∙ count-one 64 0 (omega arith)) };
  origin = refl;
  inside = only (λ x. x < t.n) h;
  forced = only (λ x. (S : ℕ → Bool) → S 0 ≡ true → Closed (as_molecule t) S → S x ≡ true) (λ S z c. z);
  there = λ i l. let e : i ≡ 0 = omega arith in ap (λ (j : ℕ). is_seen first (get_or (replicate 64 0) j 0)) e;
  queued = only (λ x. (i : ℕ) × (i < 1) × (get_or (replicate 64 0) i 0 ≡ x)) (0, omega arith, refl);
}
  where
    only : (P : ℕ → Type 0) → P 0 → (x : ℕ) → is_seen first x ≡ true → P x
    only P p x e = go (ℕ_discrete x 0)
      where
        go : Dec (x ≡ 0) → P x
        go (yes k) = subst P (sym k) p
        go (no k) = absurd (true≢false (sym e ∙ first-seen x ∙ ne_eqb x 0 k))

pub flood_start : (t : Arrays) → 0 < t.n → Going t first 0
flood_start t h = (omega arith, first-flooded t h, λ i b l m. absurd (not-suc-le-zero l))

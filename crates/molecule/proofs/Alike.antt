-- What a renumbering keeps: one that moves no atom keeps the neighbours and the card written, and every one keeps a sound molecule sound.
use mathlib.Core.Bool.{Bool, true, false, not, true≢false}
use mathlib.Core.List.{[], ◌∷◌, map, flatten}
use mathlib.Core.Path.{◌≡◌, refl, sym, ◌∙◌, ap, subst}
use Prim.Native.Nat.{ℕ, ◌<◌, ◌≤◌}
use native.Mathlib.Omega.{arith}
use lib.Dec.{eqb, ltb}
use lib.ListN.{length, get_or}
use Rattle.lists.specs.Upto.{upto, each, sum}
use Rattle.lists.specs.Tests.{keep, count}
use Rattle.lists.proofs.Upto.{each-eq, of_upto}
use Rattle.lists.proofs.Members.{map-eq}
use Rattle.lists.proofs.Kept.{keep-eq, of_keep}
use Rattle.lists.proofs.Permutation.{count-perm, sum-perm}
use Rattle.lists.proofs.Shuffled.{shuffle-onto, each-perm}
use Rattle.molecule.specs.Kinds.{number_of}
use Rattle.molecule.specs.Molecule.{Molecule, kind, hydrogens, bonded, neighbours}
use Rattle.molecule.specs.Renumbering.{Renumbered}
use Rattle.molecule.specs.Written.{atom_bytes, bond_bytes, card_bytes}
use Rattle.molecule.proofs.Sound.{Sound, Linked}
use Rattle.molecule.proofs.Neighbours.{of_neighbours, length-neighbours}
use Rattle.molecule.proofs.Connected.{Even, Closed}

module _ {M M' : Molecule} (E : Renumbered (λ a. a) M M') where
  pub neighbours-alike : (a : ℕ) → a < M.size → neighbours M a ≡ neighbours M' a
  unfolding neighbours
  neighbours-alike a h =
      keep-eq (upto M.size) (bonded M a) (bonded M' a) (λ b m. ap (λ c. not (eqb c 0)) (sym (E.code a b h (of_upto M.size b m))))
      ∙ ap (λ n. keep (bonded M' a) (upto n)) (sym E.size)

  atom_bytes-alike : (a : ℕ) → a < M.size → atom_bytes M a ≡ atom_bytes M' a
  unfolding atom_bytes
  atom_bytes-alike a h = ap (λ l. number_of (get_or l 0 0) ∷ get_or l 1 0 ∷ []) (sym (E.label a h))

  bond_bytes-alike : (a : ℕ) → a < M.size → bond_bytes M a ≡ bond_bytes M' a
  unfolding bond_bytes
  bond_bytes-alike a h =
      ap flatten
      (map-eq (keep (ltb a) (neighbours M a)) (λ b. a ∷ b ∷ M.code a b ∷ []) (λ b. a ∷ b ∷ M'.code a b ∷ [])
      (λ b m. ap (λ c. a ∷ b ∷ c ∷ []) (sym (E.code a b h (of_neighbours M a b (of_keep (ltb a) (neighbours M a) b m).0).0)))
      ∙ ap (λ l. map (λ b. a ∷ b ∷ M'.code a b ∷ []) (keep (ltb a) l)) (neighbours-alike a h))

  each-alike : {A : Type 0} (f f' : ℕ → A) → ((a : ℕ) → a < M.size → f a ≡ f' a) → each M.size f ≡ each M'.size f'
  each-alike f f' h = each-eq M.size f f' h ∙ ap (λ n. each n f') (sym E.size)

  pub card_bytes-alike : card_bytes M ≡ card_bytes M'
  unfolding card_bytes
  card_bytes-alike =
      rw (each-alike (atom_bytes M) (atom_bytes M') atom_bytes-alike, each-alike (bond_bytes M) (bond_bytes M') bond_bytes-alike)

-- a closed set that has any atom has atom 0, since else the others would be a closed set that has it
any_atom : (M : Molecule) → Even M → Linked M → (S : ℕ → Bool) → Closed M S → (a : ℕ) → a < M.size → S a ≡ true → S 0 ≡ true
any_atom M even L S c a h e = go (S 0) refl
  where
    others : Closed M (λ b. not (S b))
    others b d k l f q = pick (S d) refl
      where
        pick : (t : Bool) → S d ≡ t → not t ≡ true
        pick true g = absurd (true≢false (sym f ∙ ap not (c d b l k g (λ z. q (even b d k l ∙ z)))))
        pick false g = refl

    go : (t : Bool) → S 0 ≡ t → S 0 ≡ true
    go true z = z
    go false z = absurd (true≢false (sym (L (λ b. not (S b)) (ap not z) others a h) ∙ ap not e))

module _ {σ : ℕ → ℕ} {M M' : Molecule} (E : Renumbered σ M M') where
  -- what holds of each atom renumbered holds of all
  pub over : (P : ℕ → Type 0) → ((a : ℕ) → a < M.size → P (σ a)) → (b : ℕ) → b < M'.size → P b
  over P h b k = let w = shuffle-onto E.shuffle b (omega (arith, E.size)) in subst P w.2 (h w.0 w.1)

  over-two : (P : ℕ → ℕ → Type 0) → ((a b : ℕ) → a < M.size → b < M.size → P (σ a) (σ b)) → (a b : ℕ) → a < M'.size → b < M'.size → P a b
  over-two P h a b k l = over (λ c. P c b) (λ c m. over (P (σ c)) (λ d n. h c d m n) b l) a k

  kind-along : (a : ℕ) → a < M.size → kind M' (σ a) ≡ kind M a
  kind-along a h = ap (λ l. get_or l 0 0) (E.label a h)

  pub hydrogens-along : (a : ℕ) → a < M.size → hydrogens M' (σ a) ≡ hydrogens M a
  hydrogens-along a h = ap (λ l. get_or l 1 0) (E.label a h)

  pub degree-along : (a : ℕ) → a < M.size → length (neighbours M' (σ a)) ≡ length (neighbours M a)
  degree-along a h =
      length-neighbours M' (σ a) ∙ ap (λ n. count (each n (bonded M' (σ a)))) E.size
      ∙ count-perm (each-perm E.shuffle (bonded M a) (bonded M' (σ a)) (λ b k. ap (λ c. not (eqb c 0)) (E.code a b h k)))
      ∙ sym (length-neighbours M a)

  pub sum-along : (f f' : ℕ → ℕ) → ((a : ℕ) → a < M.size → f' (σ a) ≡ f a) → sum (each M'.size f') ≡ sum (each M.size f)
  sum-along f f' h = ap (λ n. sum (each n f')) E.size ∙ sum-perm (each-perm E.shuffle f f' h)

  linked-along : Even M → 0 < M.size → Linked M → Linked M'
  linked-along even s L S z c =
      over (λ b. S b ≡ true) (L (λ a. S (σ a)) (any_atom M even L (λ a. S (σ a)) closed w.0 w.1 (ap S w.2 ∙ z)) closed)
    where
      w : (a : ℕ) × (a < M.size) × (σ a ≡ 0)
      w = shuffle-onto E.shuffle 0 s

      there : (a : ℕ) → a < M.size → σ a < M'.size
      there a h = omega (arith, E.size, E.shuffle.within a h)

      closed : Closed M (λ a. S (σ a))
      closed a b h k e q = c (σ a) (σ b) (there a h) (there b k) e (λ y. q (sym (E.code a b h k) ∙ y))

  pub sound-along : Sound M → Sound M'
  sound-along S =
      record {
        some = omega (arith, E.size, S.some);
        atoms = omega (arith, E.size, S.atoms);
        labels =
            over (λ a. M'.label a ≡ kind M' a ∷ hydrogens M' a ∷ [])
            (λ a h. E.label a h ∙ S.labels a h ∙ (λ i. sym (kind-along a h) i ∷ sym (hydrogens-along a h) i ∷ []));
        low = over (λ a. 0 < kind M' a) (λ a h. omega (arith, kind-along a h, S.low a h));
        known = over (λ a. kind M' a ≤ 24) (λ a h. omega (arith, kind-along a h, S.known a h));
        few = over (λ a. hydrogens M' a ≤ 4) (λ a h. omega (arith, hydrogens-along a h, S.few a h));
        hydrogens = omega (arith, sum-along (hydrogens M) (hydrogens M') hydrogens-along, S.hydrogens);
        codes = over-two (λ a b. M'.code a b ≤ 4) (λ a b h k. omega (arith, E.code a b h k, S.codes a b h k));
        apart = over (λ a. M'.code a a ≡ 0) (λ a h. E.code a a h h ∙ S.apart a h);
        even = over-two (λ a b. M'.code a b ≡ M'.code b a) (λ a b h k. E.code a b h k ∙ S.even a b h k ∙ sym (E.code b a k h));
        degrees = over (λ a. length (neighbours M' a) ≤ 6) (λ a h. omega (arith, degree-along a h, S.degrees a h));
        bonds = omega (arith, sum-along (λ a. length (neighbours M a)) (λ a. length (neighbours M' a)) degree-along, S.bonds);
        linked = linked-along S.even S.some S.linked;
      }

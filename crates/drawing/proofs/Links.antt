-- The bonds of a drawing that have no H end, with the numbers of their atoms in the table.
use mathlib.Core.Bool.{Bool, true, false, cond, not, ◌||◌, true≢false}
use mathlib.Core.List.{List, [], ◌∷◌, ◌++◌, map, map-append, append-nil}
use mathlib.Core.Logic.{inl, inr}
use mathlib.Core.Path.{◌≡◌, refl, sym, ◌∙◌, ap, ap₂}
use Prim.Native.Nat.{ℕ, ◌+◌, ◌<◌}
use lib.Dec.{eqb}
use lib.ListN.{length, get_or}
use borrow.Author.Tests.{eq-eqb, ne_eqb, eqb-true, eqb-false, lt-leb, not-true}
use Rattle.lists.specs.Tests.{keep, count, some}
use Rattle.lists.proofs.All.{All}
use Rattle.lists.proofs.Booleans.{or_neither}
use Rattle.lists.proofs.Steps.{keep_append}
use Rattle.lists.proofs.KeptBelow.{kept_at, kept_of}
use Rattle.molecule.specs.Bonds.{Bond, on, joins, code_in}
use Rattle.molecule.specs.Judged.{bond_judged}
use Rattle.molecule.proofs.BondLists.{joins-ends, Between}
use Rattle.table.specs.Changes.{bond_of}
use Rattle.ctfile.specs.Filed.{Drawing}
use Rattle.ctfile.specs.Drawings.{is_h, to_h}
use Rattle.drawing.specs.Folding.{heavies_to}
use Rattle.lists.proofs.Members.{get_or-there}
use Rattle.drawing.proofs.Bared.{heavy}

module _ (d : Drawing) where
  -- how many atoms are no H, the place of such an atom, and the number of the atom at a place
  abbrev pub size : ℕ
  size = length (heavies_to d.kinds (length d.kinds))

  abbrev pub place : ℕ → ℕ
  place a = get_or (heavies_to d.kinds (length d.kinds)) a 0

  abbrev pub number : ℕ → ℕ
  number x = length (heavies_to d.kinds x)

  abbrev pub Inside : Bond → Type 0
  Inside b = (b.one < length d.kinds) × (b.two < length d.kinds)

  -- an atom that is there and no H
  pub record Heavy (x : ℕ) : Type 0 where
    pub there : x < length d.kinds
    pub other : is_h d x ≡ false

  pub is_h-there : (x : ℕ) → x < length d.kinds → is_h d x ≡ eqb (get_or d.kinds x 0) 0
  is_h-there x h = ap (λ (k : ℕ). eqb k 0) (get_or-there d.kinds x 25 0 h)

  pub place-number : (x : ℕ) → Heavy x → (number x < size) × (place (number x) ≡ x)
  place-number x X = kept_at (heavy d.kinds) (length d.kinds) x X.there (ap not (sym (is_h-there x X.there) ∙ X.other))

  pub number-place : (a : ℕ) → a < size → Heavy (place a) × (number (place a) ≡ a)
  number-place a h =
      let K = kept_of (heavy d.kinds) (length d.kinds) a h in
      (record { there = K.below; other = is_h-there (place a) K.below ∙ not-true _ K.passes }, K.order)

  pub same_number : (x y : ℕ) → Heavy x → Heavy y → eqb (number x) (number y) ≡ eqb x y
  same_number x y X Y = go (eqb x y) refl
    where
      go : (p : Bool) → eqb x y ≡ p → eqb (number x) (number y) ≡ p
      go true e = eq-eqb _ _ (ap number (eqb-true x y e))
      go false e = ne_eqb _ _ (λ q. eqb-false x y e (sym (place-number x X).1 ∙ ap place q ∙ (place-number y Y).1))

  abbrev pub renumbered : Bond → Bond
  renumbered b = bond_of (number b.one) (number b.two) b.code

  abbrev pub heavies : List Bond → List Bond
  heavies bs = keep (λ b. not (to_h d b)) bs

  abbrev pub linked : List Bond → List Bond
  linked bs = map renumbered (heavies bs)

  pub ends-heavy : (b : Bond) → Inside b → to_h d b ≡ false → Heavy b.one × Heavy b.two
  ends-heavy b I e =
      let w = or_neither (is_h d b.one) (is_h d b.two) e in
      (record { there = I.0; other = w.0 }, record { there = I.1; other = w.1 })

  pub linked-hit : (bs : List Bond) (b : Bond) → to_h d b ≡ false → linked (bs ++ (b ∷ [])) ≡ linked bs ++ (renumbered b ∷ [])
  unfolding keep
  linked-hit bs b e =
      ap (map renumbered) (keep_append (λ x. not (to_h d x)) bs (b ∷ []) ∙ ap (λ (p : Bool). heavies bs ++ cond (not p) (b ∷ []) []) e)
      ∙ map-append renumbered (heavies bs) (b ∷ [])

  pub linked-miss : (bs : List Bond) (b : Bond) → to_h d b ≡ true → linked (bs ++ (b ∷ [])) ≡ linked bs
  unfolding keep
  linked-miss bs b e =
      ap (map renumbered) (keep_append (λ x. not (to_h d x)) bs (b ∷ []) ∙ ap (λ (p : Bool). heavies bs ++ cond (not p) (b ∷ []) []) e ∙ append-nil (heavies bs))

  module _ (x : ℕ) (X : Heavy x) where
    same_on : (b : Bond) → Heavy b.one × Heavy b.two → on (number x) (renumbered b) ≡ on x b
    same_on b E = ap₂ ◌||◌ (same_number b.one x E.0 X) (same_number b.two x E.1 X)

    pub linked-count : (bs : List Bond) → All Inside bs → count (map (on (number x)) (linked bs)) ≡ count (map (on x) (heavies bs))
    unfolding keep
    linked-count [] I = refl
    linked-count (b ∷ bs) I = go (to_h d b) refl (linked-count bs I.1)
      where
        go : (p : Bool) → to_h d b ≡ p → count (map (on (number x)) (linked bs)) ≡ count (map (on x) (heavies bs))
            → count (map (on (number x)) (map renumbered (cond (not p) (b ∷ heavies bs) (heavies bs)))) ≡ count (map (on x) (cond (not p) (b ∷ heavies bs) (heavies bs)))
        go true e ih = ih
        go false e ih = ap₂ (λ (q : Bool) (c : ℕ). cond {A = ℕ} q 1 0 + c) (same_on b (ends-heavy b I.0 e)) ih

    module _ (y : ℕ) (Y : Heavy y) where
      same_joins : (b : Bond) → Heavy b.one × Heavy b.two → joins (number x) (number y) (renumbered b) ≡ joins x y b
      same_joins b E =
          rw (same_number b.one x E.0 X, same_number b.two y E.1 Y, same_number b.one y E.0 Y, same_number b.two x E.1 X)

      -- a bond to an H joins no two other atoms
      not_joins : (b : Bond) → to_h d b ≡ true → joins x y b ≡ false
      not_joins b e = go (joins x y b) refl
        where
          ends : Between x y b → to_h d b ≡ false
          ends (inl w) = rw (w.0, w.1, X.other, Y.other)
          ends (inr w) = rw (w.0, w.1, X.other, Y.other)

          go : (p : Bool) → joins x y b ≡ p → joins x y b ≡ false
          go true q = absurd (true≢false (sym e ∙ ends (joins-ends x y b q)))
          go false q = q

      pub linked-some : (bs : List Bond) → All Inside bs → some (map (joins (number x) (number y)) (linked bs)) ≡ some (map (joins x y) (heavies bs))
      unfolding keep some
      linked-some [] I = refl
      linked-some (b ∷ bs) I = go (to_h d b) refl (linked-some bs I.1)
        where
          go : (p : Bool) → to_h d b ≡ p → some (map (joins (number x) (number y)) (linked bs)) ≡ some (map (joins x y) (heavies bs))
              → some (map (joins (number x) (number y)) (map renumbered (cond (not p) (b ∷ heavies bs) (heavies bs)))) ≡ some (map (joins x y) (cond (not p) (b ∷ heavies bs) (heavies bs)))
          go true e ih = ih
          go false e ih = ap₂ ◌||◌ (same_joins b (ends-heavy b I.0 e)) ih

      pub linked-code : (bs : List Bond) → All Inside bs → code_in (linked bs) (number x) (number y) ≡ code_in bs x y
      unfolding keep
      linked-code [] I = refl
      linked-code (b ∷ bs) I = go (to_h d b) refl (linked-code bs I.1)
        where
          go : (p : Bool) → to_h d b ≡ p → code_in (linked bs) (number x) (number y) ≡ code_in bs x y
              → code_in (map renumbered (cond (not p) (b ∷ heavies bs) (heavies bs))) (number x) (number y) ≡ cond (joins x y b) b.code (code_in bs x y)
          go true e ih = ih ∙ sym (ap (λ (q : Bool). cond q b.code (code_in bs x y)) (not_joins b e))
          go false e ih = ap₂ (λ (q : Bool) (c : ℕ). cond q b.code c) (same_joins b (ends-heavy b I.0 e)) ih

  -- a bond is judged alike by its places and by its numbers
  pub linked-judged : (bs : List Bond) (b : Bond) → All Inside bs → Inside b → to_h d b ≡ false → bond_judged size (linked bs) (renumbered b) ≡ bond_judged (length d.kinds) (heavies bs) b
  linked-judged bs b A I e =
      let E = ends-heavy b I e in
      rw (
        lt-leb size (number b.one) (place-number b.one E.0).0,
        lt-leb size (number b.two) (place-number b.two E.1).0,
        lt-leb (length d.kinds) b.one I.0,
        lt-leb (length d.kinds) b.two I.1,
        same_number b.one b.two E.0 E.1,
        linked-some b.one E.0 b.two E.1 bs A,
        linked-count b.one E.0 bs A,
        linked-count b.two E.1 bs A,
      )

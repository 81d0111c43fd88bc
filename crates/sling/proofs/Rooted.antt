-- "Text is connected by its making": every atom but the first has a bond to an older one, and an H is passed by since it has no second bond.
use mathlib.Core.Path.{◌≡◌, refl, sym, ap, ◌∙◌}
use mathlib.Core.Bool.{Bool, true, false, not, and-true}
use mathlib.Core.Logic.{◌⊎◌, inl, inr, ⊎_elim, ◌≢◌}
use Prim.Native.Nat.{ℕ, zero, suc, ◌<◌}
use native.Mathlib.Nat.{not-suc-le-zero}
use native.Mathlib.Omega.{arith}
use lib.ListN.{length, get_or}
use borrow.Author.Tests.{eqb-false, not-true}
use Rattle.lists.specs.Upto.{from, upto}
use Rattle.lists.specs.Tests.{keep, some}
use Rattle.lists.proofs.Kept.{of_keep}
use Rattle.lists.proofs.Tested.{some-true, some-true_count}
use Rattle.lists.proofs.Upto.{of_from, of_upto}
use Rattle.lists.proofs.All.{all_mem}
use Rattle.lists.proofs.Passed.{count-map_apart}
use Rattle.lists.proofs.Members.{get_or-mem}
use Rattle.molecule.specs.Bonds.{Bond, on, joins, code_in}
use Rattle.molecule.proofs.Sound.{Linked}
use Rattle.molecule.proofs.BondLists.{Between, joins-ends}
use Rattle.sling.specs.Reading.{State, is_h}
use Rattle.sling.specs.Folded.{heavy_places, folded}
use Rattle.sling.proofs.Tidy.{Proper, Tidy, joined-swap, first-joined, Joined}
use Rattle.sling.proofs.Folds.{code-joined, end_of, place-heavy}
use Rattle.sling.proofs.Fits.{atom-at}

-- the first number that is kept stands at the head
head_kept : (h : ℕ → Bool) (k n : ℕ) → h k ≡ true → (a : ℕ) → a < length (keep h (from k (suc n))) → get_or (keep h (from k (suc n))) a 0 ≡ k → a ≡ 0
unfolding keep from
head_kept h k n e zero l q = refl
head_kept h k n e (suc a) l q =
    let l₁ = simp e at l in
    let q₁ = simp e at q in
    let w = of_keep h (from (suc k) n) _ (get_or-mem (keep h (from (suc k) n)) a 0 (omega arith)) in
    absurd (omega (arith, of_from (suc k) n _ w.0))

head_kept_below : (h : ℕ → Bool) (n p : ℕ) → p < n → h p ≡ true → (p ≡ 0) ⊎ ((p ≡ 1) × (h 0 ≡ false))
    → (a : ℕ) → a < length (keep h (upto n)) → get_or (keep h (upto n)) a 0 ≡ p → a ≡ 0
unfolding keep from
head_kept_below h zero p k e c a l q = absurd (not-suc-le-zero k)
head_kept_below h (suc n) p k e (inl z) a l q = head_kept h 0 n (rw z at e) a l (q ∙ z)
head_kept_below h (suc zero) p k e (inr z) a l q = absurd (let y : p ≡ 1 = z.0 in omega arith)
head_kept_below h (suc (suc n)) p k e (inr z) a l q = head_kept h 1 n (rw z.0 at e) a (simp z.1 at l) ((simp z.1 at q) ∙ z.0)

-- a bond that joins c and p does not join c and q
ends-apart : (c p q : ℕ) (b : Bond) → (p ≡ q → ⊥) → Between c p b → Between c q b → ⊥
ends-apart c p q b ne (inl u) (inl v) = ne (sym u.1 ∙ v.1)
ends-apart c p q b ne (inl u) (inr v) = ne (sym u.1 ∙ v.1 ∙ sym u.0 ∙ v.0)
ends-apart c p q b ne (inr u) (inl v) = ne (sym u.0 ∙ v.0 ∙ sym u.1 ∙ v.1)
ends-apart c p q b ne (inr u) (inr v) = ne (sym u.0 ∙ v.0)

-- the first heavy place, and a place that is bonded to an older heavy one
abbrev First : State → ℕ → Type 0
First st p = (p ≡ 0) ⊎ ((p ≡ 1) × (is_h st 0 ≡ true))

abbrev Later : State → ℕ → Type 0
Later st p = (c : ℕ) × (c < p) × (is_h st c ≡ false) × Joined st.bonds c p

module _ (st : State) (t : Tidy st.kinds st.bonds) where
  -- two bonds on one place are too many for an H
  not_two : (c p q : ℕ) → is_h st c ≡ true → (p ≡ q → ⊥) → Joined st.bonds c p → Joined st.bonds c q → ⊥
  not_two c p q h ne e f =
      omega (
        arith,
        some-true_count _ e,
        some-true_count _ f,
        t.leaf c h,
        count-map_apart st.bonds (joins c p) (joins c q) (on c) (λ b m z. ((end_of c p b z).0, apart b z (joins c q b) refl)) (λ b m z. (end_of c q b z).0),
      )
    where
      apart : (b : Bond) → joins c p b ≡ true → (x : Bool) → joins c q b ≡ x → joins c q b ≡ false
      apart b z false y = y
      apart b z true y = absurd (ends-apart c p q b ne (joins-ends c p b z) (joins-ends c q b y))

  -- the ends of a bond are not both H
  pub joined-heavy : (c p : ℕ) → Joined st.bonds c p → is_h st c ≡ true → is_h st p ≡ false
  joined-heavy c p e h =
      let w = some-true (joins c p) st.bonds e in
      let g = all_mem (Proper st.kinds) st.bonds t.proper w.0 w.1 in
      ⊎_elim
      (λ (z : (w.0.one ≡ c) × (w.0.two ≡ p)). let a = rw (z.0, z.1) at g.heavy in simp h at a)
      (λ (z : (w.0.one ≡ p) × (w.0.two ≡ c)). let a = rw (z.0, z.1) at g.heavy in simp (h, and-true) at a)
      (joins-ends c p w.0 w.2)

  joined-code : (c p : ℕ) → Joined st.bonds c p → code_in st.bonds c p ≢ 0
  joined-code c p e = eqb-false _ 0 (not-true _ (code-joined st.kinds c p st.bonds t.proper ∙ e))

  -- an atom put on an H is the second, since the H has no other bond
  on-h : (c p : ℕ) → is_h st c ≡ true → c < suc p → suc p < length st.kinds → Joined st.bonds c (suc p) → (suc p ≡ 1) × (is_h st 0 ≡ true)
  on-h (suc c) p f l h j =
      let r = t.rooted (suc c) (omega arith) (omega arith) in
      absurd (not_two (suc c) r.0 (suc p) f (λ z. omega (arith, r.1)) (ap some (joined-swap (suc c) r.0 st.bonds) ∙ r.2) j)
  on-h zero zero f l h j = (refl, f)
  on-h zero (suc p) f l h j = absurd (not_two 0 1 (suc (suc p)) f (λ q. omega arith) (first-joined t (omega arith)) j)

  first-or_later : (p : ℕ) → p < length st.kinds → First st p ⊎ Later st p
  first-or_later zero h = inl (inl refl)
  first-or_later (suc p) h = let r = t.rooted (suc p) (omega arith) h in pick r.0 (is_h st r.0) refl r.1 r.2
    where
      pick : (c : ℕ) (b : Bool) → is_h st c ≡ b → c < suc p → Joined st.bonds c (suc p) → First st (suc p) ⊎ Later st (suc p)
      pick c false f l j = inr (c, l, f, j)
      pick c true f l j = inl (inr (on-h c p f l h j))

  -- S has the atom at p
  Holds : (ℕ → Bool) → ℕ → Type 0
  Holds S p = is_h st p ≡ false → p < length st.kinds → (a : ℕ) → a < (folded st).size → get_or (heavy_places st) a 0 ≡ p → S a ≡ true

  module _ (S : ℕ → Bool) (s0 : S 0 ≡ true)
      (closed : (a b : ℕ) → a < (folded st).size → b < (folded st).size → S a ≡ true → (folded st).code a b ≢ 0 → S b ≡ true) where
    reach_one : (p : ℕ) → ((c : ℕ) → c < p → Holds S c) → Holds S p
    unfolding folded heavy_places Holds
    reach_one p before e n a h q = ⊎_elim first next (first-or_later p n)
      where
        first : First st p → S a ≡ true
        first c =
            let way : (p ≡ 0) ⊎ ((p ≡ 1) × (not (is_h st 0) ≡ false)) = ⊎_elim (λ x. inl x) (λ x. inr (x.0, ap not x.1)) c in
            ap S (head_kept_below (λ x. not (is_h st x)) (length st.kinds) p n (ap not e) way a h q) ∙ s0

        next : Later st p → S a ≡ true
        next w =
            let b = atom-at st w.0 w.2 in
            closed b.0 a b.1 h (before w.0 w.1 w.2 (omega (arith, w.1)) b.0 b.1 b.2) (rw (b.2, q) (joined-code w.0 p w.3))

    reach : (k p : ℕ) → p < k → Holds S p
    reach zero p l = absurd (not-suc-le-zero l)
    reach (suc k) p l = reach_one p (λ c h. reach k c (omega arith))

  pub folded-linked : Linked (folded st)
  unfolding folded heavy_places Holds
  folded-linked S s0 closed a h =
      let p = get_or (heavy_places st) a 0 in
      reach S s0 closed (suc p) p (omega arith) (place-heavy st t a h)
      (of_upto _ p (of_keep (λ q. not (is_h st q)) (upto (length st.kinds)) p (get_or-mem (heavy_places st) a 0 h)).0) a h refl

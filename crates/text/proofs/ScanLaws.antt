-- What stands at an offset of a text, by the bytes there: one law for each answer of the code.
use Prim.Native.Nat.{ℕ, suc, ◌+◌, ◌-◌, ◌≤◌, ◌<◌}
use mathlib.Core.Path.{◌≡◌, refl, ap, ◌∙◌}
use mathlib.Core.List.{List, [], ◌∷◌}
use mathlib.Core.Bool.{true, false, not, ◌&&◌}
use native.Mathlib.Numerals.{add-one}
use native.Mathlib.Omega.{arith}
use lib.ListN.{length, get_or, drop, length-drop, drop_of_length-le}
use lib.Seq.{drop-cons}
use lib.Dec.{eqb}
use borrow.Author.Tests.{lt-ltb, le-ltb, eq-eqb, ne_eqb}
use Rattle.std.specs.Prelude.{Option, Some, None}
use Rattle.molecule.specs.Kinds.{kind_of_symbol}
use Rattle.kinds.specs.Known.{kind_in}
use Rattle.sling.specs.Items as rule
use Rattle.sling.specs.Scanned as rules
use Rattle.sling.specs.Scanned.{is_capital, is_small, mark_of, small_first, number_at, target, bracketed, body, scan}
use Rattle.text.specs.declared.item.Item.TheVariants.{Atom}
use Rattle.text.specs.declared.item.Scanned.{Scanned}
use Rattle.text.specs.declared.target.Aim.{Aim}
use Rattle.text.specs.Scanning.{target_of, item_of, aimed_of, behind, scanned_of, Ahead, Sane, Placed, Stepped, Aims, starts_target, reference_of, ring_of, Brackets, Bodies, Scans}

-- the byte at an offset, and what follows it
here : (s : List ℕ) (at : ℕ) → at < length s → drop at s ≡ get_or s at 0 ∷ drop (at + 1) s
here s at h = drop-cons s at 0 h ∙ rw (add-one at)

module _ (s : List ℕ) (at : ℕ) where
  pub target-out : length s ≤ at → Aims s at None
  unfolding target
  target-out h = record { is = λ k f. rw (drop_of_length-le s h); ahead = tt }

-- one byte of the item more stands before
aimed_later : (at k : ℕ) (f : rule.Target → rule.Item) (r : Option Aim) → Ahead (at + 1) r → aimed_of at k f r ≡ aimed_of (at + 1) (suc k) f r
aimed_later at k f (Some a) h = ap (λ (x : ℕ). rules.got (f (target_of a.target)) x) (omega arith)
aimed_later at k f None h = refl

ahead-later : (at : ℕ) (r : Option Aim) → Ahead (at + 1) r → Ahead at r
ahead-later at (Some a) h = omega arith
ahead-later at None h = tt

module _ (s : List ℕ) (at : ℕ) (h : at < length s) where
  pub target-steps : (r : Option Aim) → get_or s at 0 ≡ 45 → Stepped s (at + 1) r → Aims s at r
  unfolding target
  target-steps r e d =
      record {
        is = λ k f. aimed_later at k f r d.ahead ∙ d.is (suc k) f ∙ rw (here s at h, eq-eqb _ _ e);
        ahead = ahead-later at r d.ahead;
      }

  pub target-place : (r : Option Aim) → (get_or s at 0 ≡ 45 → ⊥) → Placed s at r → Aims s at r
  unfolding target
  target-place r n d =
      record { is = λ k f. d.is k f ∙ rw (here s at h, ne_eqb _ _ n); ahead = d.ahead }

pub small-out : (s : List ℕ) (at : ℕ) → length s ≤ at → false ≡ small_first (drop at s)
small-out s at h = rw (drop_of_length-le s h)

pub small-in : (s : List ℕ) (at : ℕ) → at < length s → is_small (get_or s at 0) ≡ small_first (drop at s)
small-in s at h = rw (here s at h)

-- an aim, if there is one, made into an item
abbrev pub reference_in : Option Aim → Option Scanned
reference_in (Some a) = Some (reference_of a)
reference_in None = None

abbrev pub ring_in : ℕ → Option Aim → Option Scanned
ring_in m (Some a) = Some (ring_of m a)
ring_in m None = None

ring-behind : (at k m : ℕ) (a : Option Aim) → behind at k (ring_in m a) ≡ aimed_of at k (rule.ring m) a
ring-behind at k m (Some a) = refl
ring-behind at k m None = refl

ring-sane : (at m : ℕ) (a : Option Aim) → 0 < m → m ≤ 4 → Ahead (at + 1) a → Sane at (ring_in m a)
ring-sane at m (Some a) p q h = (omega arith, p, q)
ring-sane at m None p q h = tt

reference-scanned : (at : ℕ) (a : Option Aim) → scanned_of at (reference_in a) ≡ aimed_of at 0 rule.reference a
reference-scanned at (Some a) = ap (λ (x : ℕ). rules.got (rule.reference (target_of a.target)) x) (omega arith)
reference-scanned at None = refl

reference-sane : (at : ℕ) (a : Option Aim) → Ahead at a → Sane at (reference_in a)
reference-sane at (Some a) h = (h, omega arith, omega arith)
reference-sane at None h = tt

module _ (s : List ℕ) (at m : ℕ) (p : 0 < m) (q : m ≤ 4) where
  pub bracket_short : at < length s → length s - at ≤ 3 → Brackets s at m None
  unfolding bracketed
  bracket_short h k = record { is = λ j. pick (drop (at + 1) s) j few; sane = tt }
    where
      few : length (drop (at + 1) s) ≤ 2
      few = omega (arith, length-drop (at + 1) s)

      pick : (l : List ℕ) (j : ℕ) → length l ≤ 2 → rules.broken ≡ bracketed l j m
      pick [] j k = refl
      pick (a ∷ []) j k = refl
      pick (a ∷ b ∷ []) j k = refl
      pick (a ∷ b ∷ c ∷ l) j k = absurd (omega arith)

  module _ (h : at + 3 < length s) where
    three : drop (at + 1) s ≡ get_or s (at + 1) 0 ∷ get_or s (at + 2) 0 ∷ get_or s (at + 3) 0 ∷ drop (at + 4) s
    three =
        let a = here s (at + 1) (omega arith) in
        let b = here s (at + 2) (omega arith) in
        let c = here s (at + 3) (omega arith) in
        let e : at + 1 + 1 ≡ at + 2 = omega arith in
        let f : at + 2 + 1 ≡ at + 3 = omega arith in
        let g : at + 3 + 1 ≡ at + 4 = omega arith in
        a ∙ rw (e, b, f, c, g)

    pub bracket_bad : (is_capital (get_or s (at + 1) 0) && is_small (get_or s (at + 2) 0) && eqb (get_or s (at + 3) 0) 41) ≡ false → Brackets s at m None
    unfolding bracketed
    bracket_bad e = record { is = λ k. rw (three, e); sane = tt }

    pub bracket_good : (kind : Option ℕ) → kind_in kind ≡ kind_of_symbol (get_or s (at + 1) 0 ∷ get_or s (at + 2) 0 ∷ [])
        → (is_capital (get_or s (at + 1) 0) && is_small (get_or s (at + 2) 0) && eqb (get_or s (at + 3) 0) 41) ≡ true → Brackets s at m (Some (record { item = Atom m kind; next = at + 4 }))
    unfolding bracketed
    bracket_good kind w e =
        record {
          is = λ k. let x : k + (at + 4 - at) ≡ k + 4 = omega arith in rw (three, e, ← w, x);
          sane = (omega arith, p, q);
        }

  pub body-out : length s ≤ at → Bodies s at m None
  unfolding body
  body-out h = record { is = λ k. rw (drop_of_length-le s h); sane = tt }

  module _ (h : at < length s) where
    pub body-ring : (a : Option Aim) → get_or s at 0 ≡ 47 → Aims s (at + 1) a → Bodies s at m (ring_in m a)
    unfolding body
    body-ring a e d =
        record {
          is = λ k. ring-behind at k m a ∙ aimed_later at k (rule.ring m) a d.ahead ∙ d.is (suc k) (rule.ring m) ∙ rw (here s at h, eq-eqb _ _ e);
          sane = ring-sane at m a p q d.ahead;
        }

    pub body-bracket : (r : Option Scanned) → (get_or s at 0 ≡ 47 → ⊥) → get_or s at 0 ≡ 40 → Brackets s at m r → Bodies s at m r
    unfolding body
    body-bracket r n e d = record { is = λ k. d.is k ∙ rw (here s at h, ne_eqb _ _ n, eq-eqb _ _ e); sane = d.sane }

    pub body-bad : (get_or s at 0 ≡ 47 → ⊥) → (get_or s at 0 ≡ 40 → ⊥) → (is_capital (get_or s at 0) && not (small_first (drop (at + 1) s))) ≡ false → Bodies s at m None
    unfolding body
    body-bad n o e = record { is = λ k. rw (here s at h, ne_eqb _ _ n, ne_eqb _ _ o, e); sane = tt }

    pub body-letter : (kind : Option ℕ) → (get_or s at 0 ≡ 47 → ⊥) → (get_or s at 0 ≡ 40 → ⊥) → (is_capital (get_or s at 0) && not (small_first (drop (at + 1) s))) ≡ true
        → kind_in kind ≡ kind_of_symbol (get_or s at 0 ∷ []) → Bodies s at m (Some (record { item = Atom m kind; next = at + 1 }))
    unfolding body
    body-letter kind n o e w =
        record {
          is = λ k. let x : k + (at + 1 - at) ≡ suc k = omega arith in rw (here s at h, ne_eqb _ _ n, ne_eqb _ _ o, e, ← w, x);
          sane = (omega arith, p, q);
        }

behind-later : (at : ℕ) (r : Option Scanned) → Sane (at + 1) r → scanned_of at r ≡ behind (at + 1) 1 r
behind-later at (Some a) h = ap (λ (x : ℕ). rules.got (item_of a.item) x) (omega (arith, h.0))
behind-later at None h = refl

behind-none : (at : ℕ) (r : Option Scanned) → scanned_of at r ≡ behind at 0 r
behind-none at (Some a) = ap (λ (x : ℕ). rules.got (item_of a.item) x) (omega arith)
behind-none at None = refl

sane-later : (at : ℕ) (r : Option Scanned) → Sane (at + 1) r → Sane at r
sane-later at (Some a) h = (omega (arith, h.0), h.1, h.2)
sane-later at None h = tt

scanned_later : (at : ℕ) (a : Option Aim) → Ahead (at + 1) a → scanned_of at (reference_in a) ≡ aimed_of (at + 1) 1 rule.reference a
scanned_later at a h = reference-scanned at a ∙ aimed_later at 0 rule.reference a h

module _ (s : List ℕ) (at : ℕ) (h : at < length s) where
  pub scan-marked : (m : ℕ) (r : Option Scanned) → m ≡ mark_of (get_or s at 0) → 1 < m → Bodies s (at + 1) m r → Scans s at r
  unfolding scan
  scan-marked m r e l d =
      record {
        is = behind-later at r d.sane ∙ d.is 1 ∙ rw (here s at h, ← e, lt-ltb _ _ l);
        sane = sane-later at r d.sane;
      }

  module _ (plain : mark_of (get_or s at 0) ≤ 1) where
    pub scan-plus : (a : Option Aim) → get_or s at 0 ≡ 43 → Placed s (at + 1) a → Scans s at (reference_in a)
    unfolding scan
    scan-plus a e d =
        record {
          is = scanned_later at a d.ahead ∙ d.is 1 rule.reference ∙ rw (here s at h, le-ltb _ _ plain, eq-eqb _ _ e);
          sane = reference-sane at a (ahead-later at a d.ahead);
        }

    pub scan-target : (a : Option Aim) → (get_or s at 0 ≡ 43 → ⊥) → starts_target (get_or s at 0) ≡ true → Aims s at a → Scans s at (reference_in a)
    unfolding scan
    scan-target a n e d =
        record {
          is = reference-scanned at a ∙ d.is 0 rule.reference ∙ rw (here s at h, le-ltb _ _ plain, ne_eqb _ _ n, e);
          sane = reference-sane at a d.ahead;
        }

    pub scan-body : (r : Option Scanned) → (get_or s at 0 ≡ 43 → ⊥) → starts_target (get_or s at 0) ≡ false → Bodies s at 1 r → Scans s at r
    unfolding scan
    scan-body r n e d =
        record {
          is = behind-none at r ∙ d.is 0 ∙ rw (here s at h, le-ltb _ _ plain, ne_eqb _ _ n, e);
          sane = d.sane;
        }

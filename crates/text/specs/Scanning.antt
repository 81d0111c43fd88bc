-- What is scanned, as the rules have it.
use Rattle.std.specs.Prelude.{ℕ, ◌+◌, ◌-◌, ◌≤◌, ◌<◌, ◌≡◌, List, Bool, cond, ◌&&◌, ◌||◌, length, get_or, drop, eqb, ltb, Option, Some, None}
use Rattle.sling.specs.Items as rule
use Rattle.sling.specs.Scanned as rules
use Rattle.sling.specs.Scanned.{is_digit, mark_of, number_at, placed, stepped, target, bracketed, body, scan}
use Rattle.sling.specs.Faults.{code_of}
use Rattle.kinds.specs.Known.{kind_in}
use Rattle.text.specs.declared.item.Target.{Target}
use Rattle.text.specs.declared.item.Target.TheVariants.{At, Up}
use Rattle.text.specs.declared.item.Item.{Item}
use Rattle.text.specs.declared.item.Item.TheVariants.{Atom, Reference, Ring}
use Rattle.text.specs.declared.item.Scanned.{Scanned}
use Rattle.text.specs.declared.number.Number.{Number}
use Rattle.text.specs.declared.target.Aim.{Aim}

-- the rules' value of each answer
abbrev pub target_of : Target → rule.Target
target_of (At p) = rule.at p.0
target_of (Up k) = rule.up k

abbrev pub item_of : Item → rule.Item
item_of (Atom m k) = rule.atom m (kind_in k)
item_of (Reference t) = rule.reference (target_of t)
item_of (Ring m t) = rule.ring m (target_of t)

-- of what was scanned at an offset, the number of its bytes
abbrev pub scanned_of : ℕ → Option Scanned → rules.Scanned
scanned_of at (Some s) = rules.got (item_of s.item) (s.next - at)
scanned_of at None = rules.broken

abbrev pub number_of : Option Number → rules.Number
number_of (Some n) = rules.number n.value n.bytes
number_of None = rules.none

-- what stands at an offset, after k bytes of its item
abbrev pub aimed_of : (at k : ℕ) → (rule.Target → rule.Item) → Option Aim → rules.Scanned
aimed_of at k f (Some a) = rules.got (f (target_of a.target)) (k + (a.next - at))
aimed_of at k f None = rules.broken

abbrev pub behind : (at k : ℕ) → Option Scanned → rules.Scanned
behind at k (Some s) = rules.got (item_of s.item) (k + (s.next - at))
behind at k None = rules.broken

-- the offset given is behind the one begun at, and a code is one that a mark has
abbrev pub Ahead : ℕ → Option Aim → Type 0
Ahead at (Some a) = at < a.next
Ahead at None = Unit {0}

abbrev pub Sane : ℕ → Option Scanned → Type 0
Sane at (Some s) = (at < s.next) × (0 < code_of (item_of s.item)) × (code_of (item_of s.item) ≤ 4)
Sane at None = Unit {0}

abbrev pub Small : Option Number → Type 0
Small (Some n) = (0 < n.bytes) × (n.bytes ≤ 3)
Small None = Unit {0}

-- the digit at an offset
unfoldable pub digit_at : List ℕ → ℕ → Option ℕ
digit_at s at = cond (ltb at (length s) && is_digit (get_or s at 0)) (Some (get_or s at 0 - 48)) None

abbrev pub DigitSmall : Option ℕ → Type 0
DigitSmall (Some d) = d ≤ 9
DigitSmall None = Unit {0}

pub record Digit (s : List ℕ) (at : ℕ) (r : Option ℕ) : Type 0 where
  pub is : r ≡ digit_at s at
  pub small : DigitSmall r

pub record NumberRead (s : List ℕ) (at : ℕ) (r : Option Number) : Type 0 where
  pub is : number_of r ≡ number_at (drop at s)
  pub small : Small r

pub record Placed (s : List ℕ) (at : ℕ) (r : Option Aim) : Type 0 where
  pub is : (k : ℕ) (f : rule.Target → rule.Item) → aimed_of at k f r ≡ placed (number_at (drop at s)) k f
  pub ahead : Ahead at r

pub record Stepped (s : List ℕ) (at : ℕ) (r : Option Aim) : Type 0 where
  pub is : (k : ℕ) (f : rule.Target → rule.Item) → aimed_of at k f r ≡ stepped (number_at (drop at s)) k f
  pub ahead : Ahead at r

pub record Aims (s : List ℕ) (at : ℕ) (r : Option Aim) : Type 0 where
  pub is : (k : ℕ) (f : rule.Target → rule.Item) → aimed_of at k f r ≡ target (drop at s) k f
  pub ahead : Ahead at r

pub record Marks (b r : ℕ) : Type 0 where
  pub is : r ≡ mark_of b
  pub some : 0 < r
  pub most : r ≤ 4

abbrev pub starts_target : ℕ → Bool
starts_target b = is_digit b || eqb b 45

abbrev pub reference_of : Aim → Scanned
reference_of a = record { item = Reference a.target; next = a.next }

abbrev pub ring_of : ℕ → Aim → Scanned
ring_of m a = record { item = Ring m a.target; next = a.next }

pub record Brackets (s : List ℕ) (at m : ℕ) (r : Option Scanned) : Type 0 where
  pub is : (k : ℕ) → behind at k r ≡ bracketed (drop (at + 1) s) k m
  pub sane : Sane at r

pub record Bodies (s : List ℕ) (at m : ℕ) (r : Option Scanned) : Type 0 where
  pub is : (k : ℕ) → behind at k r ≡ body (drop at s) k m
  pub sane : Sane at r

pub record Scans (s : List ℕ) (at : ℕ) (r : Option Scanned) : Type 0 where
  pub is : scanned_of at r ≡ scan (drop at s)
  pub sane : Sane at r

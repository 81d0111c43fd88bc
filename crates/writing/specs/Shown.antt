-- What the code keeps of the rules' walk: the bytes of the items, and of ranks and bonds what the walk looks up.
use Rattle.std.specs.Prelude.{Bool, true, false, cond, ◌≡◌, ℕ, suc, ◌+◌, ◌*◌, ◌<◌, ◌≤◌, length, get_or, set, ltb, Option, Some, None}
use mathlib.Core.List.{List, [], ◌∷◌, Memᴰ}
use Rattle.molecule.specs.Bonds.{Bond}
use Rattle.sling.specs.Items.{Item, atom}
use Rattle.sling.specs.Walk.{Written, place_in, is_written, is_traced}
use Rattle.sling.specs.Printed.{bytes, ends_in_digit}
use Rattle.writing.specs.declared.strokes.Pen.{Pen}

-- whether a digit stands behind the items, where d says whether one stands before them
abbrev pub digit_after : Bool → List Item → Bool
digit_after d [] = d
digit_after d (i ∷ is) = digit_after (ends_in_digit i) is

-- how many bytes are written
abbrev pub size : Written → ℕ
size w = length (bytes false w.items)

-- the walk's beginning at an atom of kind k: `first` of a molecule with that kind at rank 1
abbrev pub begun : ℕ → Written
begun k = record { ranks = 1 ∷ []; bonds = []; cursor = 0; items = atom 1 k ∷ [] }

-- the atom of rank r is written, at place p
abbrev pub At : Written → ℕ → ℕ → Type 0
At w r p = (is_written w r ≡ true) × (p ≡ place_in w.ranks r)

-- The pen has the bytes of the items, and what the next item depends on. A place takes a byte at least.
pub record Lettered (p : Pen) (w : Written) : Type 0 where
  pub room : length p.name ≤ 2048
  pub text : p.name ≡ bytes false w.items
  pub digit : p.digit ≡ digit_after false w.items
  pub next : p.next ≡ length w.ranks
  pub cursor : p.cursor ≡ w.cursor
  pub few : length w.ranks ≤ length p.name

-- What a stroke f from the atom at place q asks: the pen shows a walk that has the atom there, and the stroke's bytes fit.
abbrev pub Asks : (ℕ → Written → Written) → ℕ → Pen → Type 0
Asks f q p = (r : ℕ) × (w : Written) × Lettered p w × At w r q × (size (f r w) ≤ 2048)

-- What it gives: of each such walk, the pen shows it with the stroke drawn.
abbrev pub Draws : (ℕ → Written → Written) → ℕ → (pen moved : Pen) → Type 0
Draws f q p p' = (r : ℕ) (w : Written) → Lettered p w → At w r q → size (f r w) ≤ 2048 → Lettered p' (f r w)

-- the pair of atoms a and b marked, either way round, in a square of 64 by 64
abbrev pub marked : List Bool → ℕ → ℕ → List Bool
marked traced a b = set (set traced (64 * a + b) true) (64 * b + a) true

-- the place of a rank that is written
abbrev pub held : List ℕ → ℕ → Option ℕ
held l x = cond (ltb (place_in l x) (length l)) (Some (place_in l x)) None

-- Of n atoms, which stand in rank order: the place of each that is written, and of each two whether their bond is traced.
pub record Noted (n : ℕ) (places : List (Option ℕ)) (traced : List Bool) (w : Written) : Type 0 where
  pub places_long : length places ≡ 64
  pub traced_long : length traced ≡ 4096
  pub place : (a : ℕ) → a < n → get_or places a None ≡ held w.ranks (suc a)
  pub bond : (a b : ℕ) → a < n → b < n → get_or traced (64 * a + b) false ≡ is_traced w (suc a) (suc b)
  pub inside : (b : Bond) → Memᴰ b w.bonds → (b.one < length w.ranks) × (b.two < length w.ranks)

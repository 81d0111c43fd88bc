-- The counts line, an atom line and a bond line by their fields.
use Prim.Native.Nat.{ℕ, zero, suc, ◌-◌, ◌≤◌, ◌<◌, compare}
use mathlib.Core.Path.{◌≡◌, refl, sym, ap, ◌∙◌}
use mathlib.Core.List.{List, [], ◌∷◌}
use mathlib.Core.Bool.{true, false}
use native.Mathlib.Decide.{dec_lt}
use native.Mathlib.Omega.{arith}
use lib.ListN.{length, get_or}
use lib.Dec.{eqb, leb, compare_is_eq}
use borrow.Author.Tests.{lt-ltb, le-ltb, lt-leb, le-leb, ne_eqb, leb-true}
use Rattle.std.specs.Option.{option_eq}
use Rattle.std.specs.Prelude.{Option, Some, None}
use Rattle.lists.specs.Upto.{each, from}
use Rattle.lists.specs.Tests.{every}
use Rattle.lists.specs.Order.{lex}
use Rattle.lists.proofs.Tested.{every-true_below}
use Rattle.molecule.specs.Kinds.{Kind, kinds, symbol_of, kind_of_symbol}
use Rattle.molecule.proofs.KindsTable.{symbol_of-kind_of_symbol}
use Rattle.table.proofs.ListLaws.{find-le}
use Rattle.ctfile.specs.Fields.{are_blank, columns, is_text, unled, untrailed, size_in}
use Rattle.ctfile.specs.Forms as rules
use Rattle.ctfile.specs.Forms.{number_at, from_one, is_bond_line, atom_count_in, bond_count_in, is_version, is_counts_line, kind_in, is_atom_line}
use Rattle.molfile.specs.Numbers.{IsNumber}
use Rattle.molfile.specs.Taking.{Counted, IsBond}

-- a number that may be none is 0
pub is-zero : (n : ℕ) (r : Option ℕ) → IsNumber n r → option_eq eqb r (Some 0) ≡ eqb n 0
is-zero n (Some v) N = ap (λ (x : ℕ). eqb x 0) N.0
is-zero n None N = sym (ne_eqb n 0 (λ e. omega arith))

-- ---- The counts line

module _ (l : List ℕ) where
  pub version_before : is_text " V2000" (columns 33 6 l) ≡ true → true ≡ is_version l
  unfolding is_version
  version_before e = simp e

  pub version_behind : is_text " V2000" (columns 33 6 l) ≡ false → is_text "V2000 " (columns 33 6 l) ≡ is_version l
  unfolding is_version
  version_behind e = simp e

  pub counts_version : is_version l ≡ false → is_counts_line l ≡ false
  unfolding is_counts_line
  counts_version e = simp e

  module _ (e : is_version l ≡ true) where
    pub counts_atoms : number_at 0 l ≡ 1000 → is_counts_line l ≡ false
    unfolding is_counts_line
    counts_atoms n = let k : 1000 ≤ number_at 0 l = omega arith in simp (e, le-ltb _ _ k)

    module _ (a : ℕ) (A : (a ≡ number_at 0 l) × (a < 1000)) where
      some : number_at 0 l < 1000
      some = omega (arith, A.0, A.1)

      pub counts_bonds : number_at 3 l ≡ 1000 → is_counts_line l ≡ false
      unfolding is_counts_line
      counts_bonds n = let k : 1000 ≤ number_at 3 l = omega arith in simp (e, lt-ltb _ _ some, le-ltb _ _ k)

      pub counts_right : (b : ℕ) → (b ≡ number_at 3 l) × (b < 1000) → Counted l (record { atoms = a; bonds = b })
      unfolding is_counts_line atom_count_in bond_count_in
      counts_right b B =
          let k : number_at 3 l < 1000 = omega (arith, B.0, B.1) in
          record { sound = simp (e, lt-ltb _ _ some, lt-ltb _ _ k); atoms = A.0; bonds = B.0; few_atoms = omega (arith, A.1); few_bonds = omega (arith, B.1) }

  -- ---- An atom line

  pub atom-blank : are_blank (columns 31 3 l) ≡ true → false ≡ is_atom_line l
  unfolding is_atom_line
  atom-blank e = simp e

  module _ (e : are_blank (columns 31 3 l) ≡ false) where
    pub atom-mass : eqb (size_in (columns 34 2 l)) 0 ≡ false → false ≡ is_atom_line l
    unfolding is_atom_line
    atom-mass n = simp (e, n)

    pub atom-charge : eqb (size_in (columns 34 2 l)) 0 ≡ true → eqb (number_at 36 l) 0 ≡ is_atom_line l
    unfolding is_atom_line
    atom-charge n = simp (e, n)

-- ---- A bond line

pub less : (a : ℕ) → (a ≡ 0 → ⊥) → a - 1 ≡ from_one a
less zero n = absurd (n refl)
less (suc a) n = omega arith

module _ (l : List ℕ) where
  pub bond_short : length l < 9 → is_bond_line l ≡ false
  unfolding is_bond_line
  bond_short h = simp (lt-leb _ _ h)

  -- what is no bond line where it is long enough is none
  pub bond_none : (9 ≤ length l → is_bond_line l ≡ false) → is_bond_line l ≡ false
  bond_none f = go (dec_lt (length l) 9)
    where
      go : Dec (length l < 9) → is_bond_line l ≡ false
      go (yes h) = bond_short h
      go (no n) = f (omega arith)

  module _ (h : 9 ≤ length l) where
    pub bond_first : number_at 0 l ≡ 1000 → is_bond_line l ≡ false
    unfolding is_bond_line
    bond_first n = let k : 1000 ≤ number_at 0 l = omega arith in simp (le-leb _ _ h, le-ltb _ _ k)

    module _ (a : ℕ) (A : (a ≡ number_at 0 l) × (a < 1000)) where
      one_some : number_at 0 l < 1000
      one_some = omega (arith, A.0, A.1)

      pub bond_second : number_at 3 l ≡ 1000 → is_bond_line l ≡ false
      unfolding is_bond_line
      bond_second n = let k : 1000 ≤ number_at 3 l = omega arith in simp (le-leb _ _ h, lt-ltb _ _ one_some, le-ltb _ _ k)

      module _ (b : ℕ) (B : (b ≡ number_at 3 l) × (b < 1000)) where
        two_some : number_at 3 l < 1000
        two_some = omega (arith, B.0, B.1)

        pub bond_third : number_at 6 l ≡ 1000 → is_bond_line l ≡ false
        unfolding is_bond_line
        bond_third n = let k : 1000 ≤ number_at 6 l = omega arith in simp (le-leb _ _ h, lt-ltb _ _ one_some, lt-ltb _ _ two_some, le-ltb _ _ k)

        pub bond_right : (x y c : ℕ) → x ≡ from_one a → y ≡ from_one b → (c ≡ number_at 6 l) × (c < 1000) → IsBond l (Some (record { one = x; two = y; code = c }))
        unfolding is_bond_line rules.bond_in
        bond_right x y c X Y C =
            let k : number_at 6 l < 1000 = omega (arith, C.0, C.1) in
            (simp (le-leb _ _ h, lt-ltb _ _ one_some, lt-ltb _ _ two_some, lt-ltb _ _ k), λ i. record { one = (X ∙ ap from_one A.0) i; two = (Y ∙ ap from_one B.0) i; code = C.0 i })

-- ---- Symbols

no_letter : kind_of_symbol [] ≡ 25
unfolding kind_of_symbol kinds lex
no_letter = refl

-- no symbol has three letters
short-symbols : every (each 25 (λ k. leb (length (symbol_of k)) 2)) ≡ true
unfolding every each from kinds symbol_of
short-symbols = refl

pub more_letters : (s : List ℕ) → 2 < length s → 25 ≡ kind_of_symbol s
unfolding kind_of_symbol kinds
more_letters s h = omega (arith, none, find-le (λ (e : Kind). compare_is_eq (lex compare e.symbol s)) (record { symbol = []; number = 0 }) kinds)
  where
    none : 24 < kind_of_symbol s
    none = go (dec_lt (kind_of_symbol s) 25)
      where
        go : Dec (kind_of_symbol s < 25) → 24 < kind_of_symbol s
        go (yes l) =
            let e = symbol_of-kind_of_symbol s (omega arith) in
            let k = leb-true (length (symbol_of (kind_of_symbol s))) 2 (every-true_below 25 (λ k. leb (length (symbol_of k)) 2) short-symbols (kind_of_symbol s) l) in
            omega (arith, k, ap length e)
        go (no l) = omega arith

one_letter : (s : List ℕ) → length s ≡ 1 → get_or s 0 0 ∷ [] ≡ s
one_letter [] h = absurd (omega arith)
one_letter (x ∷ []) h = refl
one_letter (x ∷ y ∷ s) h = absurd (omega arith)

two-letters : (s : List ℕ) → length s ≡ 2 → get_or s 0 0 ∷ get_or s 1 0 ∷ [] ≡ s
two-letters [] h = absurd (omega arith)
two-letters (x ∷ []) h = absurd (omega arith)
two-letters (x ∷ y ∷ []) h = refl
two-letters (x ∷ y ∷ z ∷ s) h = absurd (omega arith)

other_letters : (s : List ℕ) → (length s ≡ 1 → ⊥) → (length s ≡ 2 → ⊥) → 25 ≡ kind_of_symbol s
other_letters [] n m = sym no_letter
other_letters (x ∷ []) n m = absurd (n refl)
other_letters (x ∷ y ∷ []) n m = absurd (m refl)
other_letters (x ∷ y ∷ z ∷ s) n m = more_letters (x ∷ y ∷ z ∷ s) (omega arith)

module _ (l s : List ℕ) (S : s ≡ untrailed (unled (columns 31 3 l))) where
  symbol-is : kind_of_symbol s ≡ kind_in l
  unfolding kind_in
  symbol-is = ap kind_of_symbol S

  pub kind-one : length s ≡ 1 → kind_of_symbol (get_or s 0 0 ∷ []) ≡ kind_in l
  kind-one h = ap kind_of_symbol (one_letter s h) ∙ symbol-is

  pub kind-two : length s ≡ 2 → kind_of_symbol (get_or s 0 0 ∷ get_or s 1 0 ∷ []) ≡ kind_in l
  kind-two h = ap kind_of_symbol (two-letters s h) ∙ symbol-is

  pub kind-none : (length s ≡ 1 → ⊥) → (length s ≡ 2 → ⊥) → 25 ≡ kind_in l
  kind-none n m = other_letters s n m ∙ symbol-is

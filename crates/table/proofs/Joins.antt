-- A bond is two halves: each of its atoms in the row of the other.
use mathlib.Core.Bool.{Bool, true, false, cond, ◌&&◌, ◌||◌}
use mathlib.Core.Logic.{◌≢◌}
use mathlib.Core.Path.{◌≡◌, refl, sym, ◌∙◌, ap}
use Prim.Native.Nat.{ℕ, ◌+◌, ◌<◌, ◌≤◌}
use native.Mathlib.Omega.{arith}
use lib.Dec.{eqb}
use lib.ListN.{length}
use borrow.Author.Tests.{ne_eqb, eqb-true}
use Rattle.molecule.specs.Bonds.{Bond, on, joins}
use Rattle.molecule.specs.Molecule.{Molecule, neighbours}
use Rattle.table.specs.declared.Table.{Table}
use Rattle.table.specs.Arrays.{Arrays, Tidy, as_molecule}
use Rattle.table.specs.Changes.{bond_of, RoomFor, BondPut}
use Rattle.table.specs.declared.rows.Rows.{Rows}
use Rattle.table.proofs.Halves.{rows_of, with_rows, HalfJoinable, HalfJoined, half_roomy, half}

-- the bond b can be added: its atoms are there, are two, have no bond yet with each other and fewer than six with others, and its code is one
pub record Joinable (M : Molecule) (b : Bond) : Type 0 where
  pub one : b.one < M.size
  pub two : b.two < M.size
  pub apart : b.one ≢ b.two
  pub first : M.code b.one b.two ≡ 0
  pub back : M.code b.two b.one ≡ 0
  pub room-one : length (neighbours M b.one) < 6
  pub room-two : length (neighbours M b.two) < 6
  pub some : 0 < b.code
  pub known : b.code ≤ 4

-- the bond b more
pub record Joined (M : Molecule) (b : Bond) (M' : Molecule) : Type 0 where
  pub size : M'.size ≡ M.size
  pub label : (a : ℕ) → M'.label a ≡ M.label a
  pub code : (x y : ℕ) → x < M.size → y < M.size → M'.code x y ≡ cond (joins x y b) b.code (M.code x y)
  pub degree : (x : ℕ) → x < M.size → length (neighbours M' x) ≡ length (neighbours M x) + cond (on x b) 1 0

module _ (M : Molecule) (a b c : ℕ) (J : Joinable M (bond_of a b c)) where
  first-half : HalfJoinable M a b c
  first-half = record { one = J.one; two = J.two; first = J.first; room = J.room-one; some = J.some; known = J.known }

  module _ (M' : Molecule) (H : HalfJoined M a b c M') where
    other : eqb a b ≡ false
    other = ne_eqb a b J.apart

    second_half : HalfJoinable M' b a c
    second_half = record {
      one = omega (arith, H.size, J.two);
      two = omega (arith, H.size, J.one);
      first = H.code b a J.two J.one ∙ rw other J.back;
      room = omega (arith, H.degree b J.two, ap (λ (s : Bool). cond {A = ℕ} s 1 0) other, J.room-two);
      some = J.some;
      known = J.known;
    }

    module _ (M'' : Molecule) (G : HalfJoined M' b a c M'') where
      tests : (p q r s : Bool) (x : ℕ) → cond (r && s) c (cond (p && q) c x) ≡ cond (p && q || s && r) c x
      tests true true true true x = refl
      tests true true true false x = refl
      tests true true false s x = refl
      tests true false true true x = refl
      tests true false true false x = refl
      tests true false false true x = refl
      tests true false false false x = refl
      tests false q true true x = refl
      tests false q true false x = refl
      tests false q false true x = refl
      tests false q false false x = refl

      ends : (p q : Bool) → (p ≡ true → q ≡ true → ⊥) → cond {A = ℕ} p 1 0 + cond q 1 0 ≡ cond (p || q) 1 0
      ends true true h = absurd (h refl refl)
      ends true false h = refl
      ends false true h = refl
      ends false false h = refl

      both_halves : Joined M (bond_of a b c) M''
      both_halves = record {
        size = G.size ∙ H.size;
        label = λ x. G.label x ∙ H.label x;
        code = λ x y l m.
            G.code x y (omega (arith, H.size)) (omega (arith, H.size)) ∙ ap (cond (eqb b x && eqb a y) c) (H.code x y l m)
            ∙ tests (eqb a x) (eqb b y) (eqb b x) (eqb a y) (M.code x y);
        degree = λ x l.
            omega (
              arith,
              G.degree x (omega (arith, H.size)),
              H.degree x l,
              ends (eqb a x) (eqb b x) (λ e f. J.apart (eqb-true a x e ∙ sym (eqb-true b x f))),
            );
      }

-- the same table with other rows
abbrev pub rowed : Table → Rows → Table
rowed t R = record { n = t.n; kinds = t.kinds; hydrogens = t.hydrogens; rows = R }

module _ (t : Arrays) (T : Tidy t) (a b c : ℕ) (J : Joinable (as_molecule t) (bond_of a b c)) where
  back : Joinable (as_molecule t) (bond_of b a c)
  back = record {
    one = J.two;
    two = J.one;
    apart = λ e. J.apart (sym e);
    first = J.back;
    back = J.first;
    room-one = J.room-two;
    room-two = J.room-one;
    some = J.some;
    known = J.known;
  }

  pub bond-roomy : RoomFor (rows_of t) a × RoomFor (rows_of t) b × (a ≢ b)
  bond-roomy = (half_roomy t T a b c (first-half (as_molecule t) a b c J), half_roomy t T b a c (first-half (as_molecule t) b a c back), J.apart)

  pub bond-joins : (R : Rows) → BondPut (rows_of t) a b c R → Tidy (with_rows t R) × Joined (as_molecule t) (bond_of a b c) (as_molecule (with_rows t R))
  bond-joins R B =
      let one = half t T a b c (first-half (as_molecule t) a b c J) B.between B.one in
      let M = as_molecule (with_rows t B.between) in
      let two = half (with_rows t B.between) one.0 b a c (second_half (as_molecule t) a b c J M one.1) R B.two in
      (two.0, both_halves (as_molecule t) a b c J M one.1 (as_molecule (with_rows t R)) two.1)

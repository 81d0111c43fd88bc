-- The bytes written from the table's arrays are those of the rules' card.
use mathlib.Core.Bool.{Bool, true, false, cond}
use mathlib.Core.List.{List, [], ◌∷◌, ◌++◌, map, flatten, map-append, append_assoc}
use mathlib.Core.Path.{◌≡◌, refl, sym, ◌∙◌, ap, ap₂, subst}
use Prim.Native.Nat.{ℕ, zero, suc, ◌+◌, ◌*◌, ◌/◌, ◌%◌, ◌<◌, ◌≤◌}
use native.Mathlib.Omega.{arith}
use lib.Dec.{ltb}
use lib.ListN.{length, get_or, take, drop, length-append}
use lib.Seq.{sets, sets-eq, take-suc, take-length}
use Rattle.lists.specs.Upto.{upto, each, sum}
use Rattle.lists.specs.Tests.{keep}
use Rattle.lists.proofs.Upto.{each-eq}
use Rattle.lists.proofs.Sums.{sum-eq, sum-le, sum-const}
use Rattle.lists.proofs.Steps.{each-zero, keep_append, flatten_append, flatten_next}
use Rattle.molecule.specs.Written.{field, atom_bytes, bond_bytes, card_bytes}
use Rattle.lists.proofs.Upto.{length-upto}
use Rattle.lists.proofs.Flattened.{length-pieces}
use Rattle.table.specs.Arrays.{Arrays, Tidy, row_in, as_molecule}
use Rattle.table.proofs.RowLaws.{row_at}
use Rattle.table.proofs.Views.{near-long, code-slot, neighbours-row, tidy-row}
use Rattle.std.specs.Prelude.{Ok, Err}
use Rattle.refusal.specs.declared.Refusal.TheVariants.{NoRoom}
use Rattle.lent.specs.Written.{Written}
use Rattle.lent.proofs.Outcomes.{too_short, written}
use Rattle.card.specs.declared.writing.Writer.{Writer}
use Rattle.card.specs.Writing.{atom_piece, bond_piece, slot_piece, row_bytes, row_length, PutIn}
use Rattle.card.proofs.Written.{put_more, pieces_length}
use Rattle.card.proofs.Lengths.{row_low, row-length}

module _ (t : Arrays) (T : Tidy t) where
  abbrev atoms_in : List ℕ
  atoms_in = flatten (each t.n (atom_piece t.kinds t.hydrogens))

  abbrev bonds_in : List ℕ
  bonds_in = flatten (each t.n (row_bytes t.degrees t.near t.codes))

  module _ (a : ℕ) (h : a < t.n) where
    abbrev row : List ℕ
    row = row_in t.degrees t.near a

    -- the bytes of the bond to b
    abbrev bytes : ℕ → List ℕ
    bytes b = a ∷ b ∷ (as_molecule t).code a b ∷ []

    one : (x : ℕ) → flatten (map bytes (keep (ltb a) (x ∷ []))) ≡ bond_piece a x ((as_molecule t).code a x)
    unfolding keep flatten
    one x = go (ltb a x)
      where
        go : (s : Bool) → flatten (map bytes (cond s (x ∷ []) [])) ≡ cond s (a ∷ x ∷ (as_molecule t).code a x ∷ []) []
        go true = refl
        go false = refl

    so_far : (p : ℕ) → p ≤ get_or t.degrees a 0 → flatten (map bytes (keep (ltb a) (take p row))) ≡ flatten (each p (slot_piece t.near t.codes a))
    unfolding keep flatten
    so_far zero l = sym (ap flatten (each-zero (slot_piece t.near t.codes a)))
    so_far (suc p) l =
        ap (λ (r : List ℕ). flatten (map bytes (keep (ltb a) r))) (take-suc row p 0 (omega (arith, near-long t T a h)))
        ∙ ap (λ (r : List ℕ). flatten (map bytes r)) (keep_append (ltb a) (take p row) (get_or row p 0 ∷ []))
        ∙ ap flatten (map-append bytes (keep (ltb a) (take p row)) (keep (ltb a) (get_or row p 0 ∷ [])))
        ∙ flatten_append (map bytes (keep (ltb a) (take p row))) (map bytes (keep (ltb a) (get_or row p 0 ∷ [])))
        ∙ ap₂ ◌++◌ (so_far p (omega arith)) (one (get_or row p 0) ∙ ap (λ (x : ℕ). bond_piece a x ((as_molecule t).code a x)) (row_at t.degrees t.near a p l)
        ∙ ap (bond_piece a (get_or t.near (6 * a + p) 0)) (code-slot t T a h p l))
        ∙ sym (flatten_next p (slot_piece t.near t.codes a))

    bonds-are : bond_bytes (as_molecule t) a ≡ row_bytes t.degrees t.near t.codes a
    unfolding bond_bytes row_bytes
    bonds-are =
        ap (λ (r : List ℕ). flatten (map bytes (keep (ltb a) r))) (neighbours-row t T a h ∙ sym (take-length row) ∙ ap (λ (k : ℕ). take k row) (near-long t T a h))
        ∙ so_far (get_or t.degrees a 0) (omega arith)

  card-is : card_bytes (as_molecule t) ≡ field 1 atoms_in ++ field 2 bonds_in
  unfolding card_bytes atom_bytes as_molecule
  card-is = ap (λ (l : List (List ℕ)). field 1 atoms_in ++ field 2 (flatten l)) (each-eq t.n (bond_bytes (as_molecule t)) (row_bytes t.degrees t.near t.codes) bonds-are)

  pub atoms-long : length atoms_in ≡ 2 * t.n
  unfolding each
  atoms-long = omega (arith, length-pieces (atom_piece t.kinds t.hydrogens) 2 (λ a. refl) (upto t.n), length-upto t.n)

  bonds-long : (b : ℕ) → b ≡ sum (each t.n (row_length t.degrees t.near)) → b ≡ length bonds_in
  bonds-long b e =
      e
      ∙ sum-eq t.n (row_length t.degrees t.near) (λ a. length (row_bytes t.degrees t.near t.codes a)) (λ a h. sym (row-length t.degrees t.near t.codes a))
      ∙ sym (pieces_length (row_bytes t.degrees t.near t.codes) t.n)

  module _ (b : ℕ) (e : b ≡ sum (each t.n (row_length t.degrees t.near))) where
    pub bonds-few : b ≤ 1152
    bonds-few =
        omega (
          arith,
          e,
          T.atoms,
          sum-le t.n (row_length t.degrees t.near) (λ a. 18) (λ a h. row_low t.degrees t.near a (tidy-row t T a h)),
          sum-const t.n 18,
        )

    pub bonds-room : length bonds_in ≡ b
    bonds-room = sym (bonds-long b e)

    pub card-long : length (card_bytes (as_molecule t)) ≡ 2 * t.n + b + 6
    unfolding field
    card-long = ap length card-is ∙ length-append (field 1 atoms_in) (field 2 bonds_in) ∙ omega (arith, atoms-long, bonds-long b e)

    pub card-short : (out : List ℕ) → length out < 2 * t.n + b + 6 → Written (card_bytes (as_molecule t)) out out (Err NoRoom)
    card-short out h = too_short (card_bytes (as_molecule t)) out (subst (λ (k : ℕ). length out < k) (sym card-long) h)

    -- the head of a field
    abbrev head : ℕ → ℕ → List ℕ
    head tag size = tag ∷ (size / 256) ∷ (size % 256) ∷ []

    joined : ((head 1 (2 * t.n) ++ atoms_in) ++ head 2 b) ++ bonds_in ≡ card_bytes (as_molecule t)
    unfolding field
    joined =
        append_assoc (head 1 (2 * t.n) ++ atoms_in) (head 2 b) bonds_in
        ∙ ap₂ (λ (k m : ℕ). (head 1 k ++ atoms_in) ++ (head 2 m ++ bonds_in)) (sym atoms-long) (bonds-long b e) ∙ sym card-is

    module _ (w w₁ w₂ w₃ w₄ : Writer) (P₁ : PutIn w (head 1 (2 * t.n)) w₁) (P₂ : PutIn w₁ atoms_in w₂) (P₃ : PutIn w₂ (head 2 b) w₃) (P₄ : PutIn w₃ bonds_in w₄) where
      all : PutIn w (card_bytes (as_molecule t)) w₄
      all =
          subst (λ (bs : List ℕ). PutIn w bs w₄) joined
          (put_more w w₃ w₄ _ bonds_in (put_more w w₂ w₃ _ (head 2 b) (put_more w w₁ w₂ (head 1 (2 * t.n)) atoms_in P₁ P₂) P₃) P₄)

      pub card-written : (out : List ℕ) → out ≡ w₄.out.now → w.at ≡ 0 → 2 * t.n + b + 6 ≤ length w.out.now
          → Written (card_bytes (as_molecule t)) w.out.now out (Ok (2 * t.n + b + 6))
      card-written out e z h =
          let k : length (card_bytes (as_molecule t)) ≤ length w.out.now = subst (λ (k : ℕ). k ≤ length w.out.now) (sym card-long) h in
          let y : 0 + length (card_bytes (as_molecule t)) ≡ length (card_bytes (as_molecule t)) = omega arith in
          let m : 0 + length (card_bytes (as_molecule t)) ≤ length w.out.now = omega arith in
          written (card_bytes (as_molecule t)) w.out.now _ out (sym card-long) k
          (e ∙ all.wrote.is ∙ ap (λ (i : ℕ). sets w.out.now i (card_bytes (as_molecule t))) z ∙ sets-eq (card_bytes (as_molecule t)) w.out.now 0 m
          ∙ ap (λ (k : ℕ). card_bytes (as_molecule t) ++ drop k w.out.now) y)

-- What a card's layout gives, and the tests of an atom and of a bond over bytes and lent arrays.
use Rattle.std.specs.Prelude.{cond, not, ◌||◌, List, ◌≡◌, ℕ, eqb, leb, ltb, get_or, Option, Some, None, Result, IfOk}
use Rattle.molecule.specs.Bonds.{Bond}
use Rattle.molecule.specs.Kinds.{is_kind, kind_of_number}
use Rattle.molecule.specs.Layout.{in_layout, atom_count, bond_count}
use Rattle.refusal.specs.declared.Refusal.{Refusal}
use Rattle.refusal.specs.Numbers.{refusal_in}
use Rattle.table.specs.Arrays.{code_found}
use Rattle.card.specs.declared.layout.Fields.{Fields}

-- where the layout is sound, how many atoms and bonds there are
abbrev pub fields_of : List ℕ → Option Fields
fields_of s = cond (in_layout s) (Some (record { atoms = atom_count s; bonds = bond_count s })) None

-- 3 for its kind, then 4 for its hydrogens
abbrev pub atom_tested : ℕ → ℕ → ℕ
atom_tested kind hydrogens = cond (not (is_kind kind)) 3 (cond (ltb 4 hydrogens) 4 0)

-- the kind of an atom's number, where neither it nor the hydrogens are refused
pub record IsAtom (number hydrogens : ℕ) (r : Result ℕ Refusal) : Type 0 where
  pub refusal : refusal_in r ≡ atom_tested (kind_of_number number) hydrogens
  pub kind : IfOk r (λ k. k ≡ kind_of_number number)

-- 5, 6, 4 for a bond after those of which the rows have the codes
unfoldable pub bond_tested : ℕ → (degrees near codes : List ℕ) → Bond → ℕ
bond_tested n degrees near codes b =
    cond (leb n b.one || leb n b.two) 5
    (cond (eqb b.one b.two || not (eqb (code_found degrees near codes b.one b.two) 0) || eqb b.code 0 || ltb 4 b.code) 6
    (cond (leb 6 (get_or degrees b.one 0) || leb 6 (get_or degrees b.two 0)) 4 0))

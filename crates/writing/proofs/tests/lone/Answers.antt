-- The walk over one atom without hydrogens writes its symbol, of at most four bytes.
use mathlib.Core.List.{append-nil}
use mathlib.Core.Path.{◌≡◌, sym, ap, subst}
use Prim.Native.Nat.{ℕ, ◌<◌, ◌≤◌}
use native.Mathlib.Decide.{dec_lt}
use native.Mathlib.Omega.{arith}
use lib.ListN.{length, replicate, length-replicate}
use Rattle.lists.specs.Upto.{from}
use Rattle.lists.specs.Tests.{keep}
use Rattle.molecule.specs.Molecule.{neighbours}
use Rattle.sling.specs.Walk.{finish, traces, put_hs, written}
use Rattle.sling.specs.Printed.{symbol_bytes, item_bytes, bytes, name_bytes}
use Rattle.sling.proofs.Symbols.{symbol-long}
use Rattle.kinds.proofs.Arrays.{no_symbol}
use Rattle.table.specs.declared.Table.{Table}
use Rattle.table.specs.declared.rows.Rows.{Rows}
use Rattle.table.specs.Arrays.{as_molecule, code_found}
use Rattle.table.specs.Changes.{no_rows}
use Rattle.table.specs.View.{view_of}
use Rattle.table.proofs.Unbonded.{unbonded_tidy}
use Rattle.writing.specs.Nameable.{Nameable}
use Rattle.writing.proofs.tests.lone.Goals as goal

abbrev atom_alone : ℕ → Rows → Table
atom_alone k R = record { n = 1; kinds = replicate 64 k; hydrogens = replicate 64 0; rows = R }

alone-named : (k : ℕ) → name_bytes (view_of (atom_alone k no_rows)) ≡ symbol_bytes k
unfolding name_bytes bytes item_bytes written finish traces put_hs neighbours keep from as_molecule code_found
alone-named k = append-nil (symbol_bytes k)

symbol-few : (k : ℕ) → length (symbol_bytes k) ≤ 4
symbol-few k = pick (dec_lt k 25)
  where
    pick : Dec (k < 25) → length (symbol_bytes k) ≤ 4
    pick (yes l) = (symbol-long k (omega arith)).1
    pick (no l) = rw (no_symbol k (omega arith)) (omega arith)

alone : (k : ℕ) → Nameable (atom_alone k no_rows)
alone k = record {
  tidy = unbonded_tidy 1 (replicate 64 k) (replicate 64 0) (omega arith) (length-replicate {A = ℕ} 64 k) (length-replicate {A = ℕ} 64 0);
  some = omega arith;
  room = omega (arith, ap length (alone-named k), symbol-few k);
}

pub returns : goal.returns
returns c = subst (λ (R : Rows). Nameable (atom_alone c.args.number R)) (sym c.empty.ensures) (alone c.args.number)

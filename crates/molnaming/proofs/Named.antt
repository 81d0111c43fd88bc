-- The line printed for a molfile, from what the call returned and left in the lent bytes.
use mathlib.Core.List.{List}
use mathlib.Core.Path.{◌≡◌, sym, ◌∙◌}
use Prim.Native.Nat.{ℕ}
use lib.ListN.{length, take}
use borrow.Author.Tests.{eq-eqb, ne_eqb}
use Rattle.rules.specs.Allowed.{Result}
use Rattle.rules.proofs.Runs.{run-output}
use Rattle.ctfile.specs.Molfiles.{name_of_molfile, MolfileRun}
use Rattle.lines.specs.Written.{Prints}
use Rattle.molnaming.specs.Lines.{named_line, refused_line, mol_line}

module _ (file before : List ℕ) (r : Result) (e : length before ≡ 2048) (A : MolfileRun file 4096 before r) (out after : List ℕ) (n : ℕ) where
  pub line_refused : (r.refusal ≡ 0 → ⊥) → Prints (refused_line file r.refusal r.place) out after n → Prints (mol_line file) out after n
  unfolding mol_line
  line_refused q P =
      rw (← e, ne_eqb (name_of_molfile file 4096 (length before)).refusal 0 (λ z. q (A.refusal ∙ z))) (rw (A.refusal, A.place) at P)

  pub line_named : r.refusal ≡ 0 → Prints (named_line (take r.length r.lent)) out after n → Prints (mol_line file) out after n
  unfolding mol_line
  line_named q P =
      rw (← e, eq-eqb (name_of_molfile file 4096 (length before)).refusal 0 (sym A.refusal ∙ q)) (rw (run-output (name_of_molfile file 4096 (length before)) before r A) at P)

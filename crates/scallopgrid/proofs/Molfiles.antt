-- A molfile read and numbered: its answer is that of the molecule it folds to, by the fault and the place of the file.
use mathlib.Core.Bool.{Bool, true, false, cond}
use mathlib.Core.List.{List}
use mathlib.Core.Path.{◌≡◌, refl, sym, ◌∙◌, ap, subst}
use Prim.Native.Nat.{ℕ}
use native.Mathlib.Omega.{arith}
use lib.Dec.{ltb}
use lib.ListN.{length}
use Rattle.std.specs.Prelude.{Result, Ok, IfOk}
use Rattle.refusal.specs.declared.Refused.{Refused}
use Rattle.refusal.specs.Numbers.{refused_in}
use Rattle.molecule.specs.Molecule.{Molecule}
use Rattle.molecule.specs.Renumbering.{Renumbered}
use Rattle.molecule.proofs.Sound.{Sound}
use Rattle.table.specs.declared.Table.{Table}
use Rattle.table.specs.View.{view_of}
use Rattle.rules.specs.Answers.{refused, numbered, name_out}
use Rattle.rules.proofs.Answered.{judged-faulty, judged-answered}
use Rattle.ctfile.specs.Filed.{Verdict, sound, broken, verdict, drawing_of}
use Rattle.ctfile.specs.Drawings.{folded, drawing_fault}
use Rattle.ctfile.specs.Molfiles.{most_file, name_of_drawing, unless_broken, name_of_molfile, MolfileRun}
use Rattle.ctfile.proofs.FoldedSound.{folded-sound}
use Rattle.molfile.specs.Reading.{refusal_by, place_by, file_fault, fault_place, IsRead}
use Rattle.outputs.specs.Numbered.{Listed}
use Rattle.outputs.specs.declared.Accepted.{Accepted}
use Rattle.outputs.specs.Left.{left_by, AnswersAs}
use Rattle.scallopgrid.specs.declared.Answer as call
use Rattle.scallopgrid.specs.Returned.{returned, answer_of}
use Rattle.scallopgrid.proofs.Faults.{Answers}
use Rattle.scallopgrid.proofs.Alike.{listed, numbered-alike, name_out-alike}
use Rattle.scallopgrid.proofs.Runs.{run-read}

module _ (file : List ℕ) (allowance room : ℕ) where
  abbrev M : Molecule
  M = folded (drawing_of file)

  -- by whether the file is too long, and by its lines
  answered : (b : Bool) (v : Verdict)
      → Answers name_out (cond b 4 (refusal_by v (drawing_fault (drawing_of file)))) (cond b 0 (place_by v)) M allowance room
      (cond b (refused 4 0) (unless_broken v (name_of_drawing (drawing_of file) allowance room)))
  unfolding name_of_drawing numbered
  answered true v = record { faulty = λ ne. refl; sound = λ e. absurd (omega arith); placed = λ e. refl }
  answered false (broken p) = record { faulty = λ ne. refl; sound = λ e. absurd (omega arith); placed = λ e. absurd (omega arith) }
  answered false sound =
      record {
        faulty = judged-faulty name_out allowance room (drawing_fault (drawing_of file)) M;
        sound = judged-answered name_out allowance room (drawing_fault (drawing_of file)) M;
        placed = λ e. refl;
      }

  pub molfile_answers : Answers name_out (file_fault file) (fault_place file) (folded (drawing_of file)) allowance room (name_of_molfile file allowance room)
  unfolding name_of_molfile file_fault fault_place
  molfile_answers = answered (ltb most_file (length file)) (verdict file)

-- a file without a fault has a drawing without one
drawing-faultless : (file : List ℕ) → file_fault file ≡ 0 → drawing_fault (drawing_of file) ≡ 0
unfolding file_fault
drawing-faultless file = go (ltb most_file (length file)) (verdict file)
  where
    go : (b : Bool) (v : Verdict) → cond b 4 (refusal_by v (drawing_fault (drawing_of file))) ≡ 0 → drawing_fault (drawing_of file) ≡ 0
    go true v e = absurd (omega arith)
    go false sound e = e
    go false (broken p) e = absurd (omega arith)

module _ (file : List ℕ) (read : Result Table Refused) (R : IsRead file read) where
  drawn : refused_in read ≡ 0 → Sound (folded (drawing_of file))
  drawn z = folded-sound (drawing_of file) (drawing-faultless file (sym R.refusal ∙ z))

  pub molfile-listed : IfOk read Listed
  molfile-listed = listed (folded (drawing_of file)) read R.tidy R.view drawn

  pub molfile_run : (allowance : ℕ) (lent : List ℕ) (o : Result Accepted Refused) (after : List ℕ) → AnswersAs name_out read allowance lent (left_by o after)
      → (c : call.Answer) → c ≡ answer_of o → MolfileRun file allowance lent (returned c after)
  molfile_run allowance lent o after A c f =
      run-read name_out (file_fault file) (fault_place file) (folded (drawing_of file)) allowance lent _ (molfile_answers file allowance (length lent)) read R.refusal R.place same o after A c f
    where
      same : (t : Table) → read ≡ Ok t → numbered name_out allowance (length lent) (view_of t) ≡ numbered name_out allowance (length lent) (folded (drawing_of file))
      same t e =
          let E = subst (λ (q : Result Table Refused). IfOk q (λ u. Renumbered (λ a. a) (folded (drawing_of file)) (view_of u))) e R.view in
          numbered-alike name_out allowance (length lent) (folded (drawing_of file)) (view_of t) E (name_out-alike E (drawn (ap refused_in e)))

-- Of the lines due k are passed and taken.
use Rattle.molfile.specs.Passing.{passed}
use Rattle.molfile.proofs.PassingLaws.{Onward}
use Rattle.molfile.proofs.sections.pass.Given as goal

abbrev pub invariant-loop-k : goal.invariant-loop-k
invariant-loop-k g l =
    Onward g.S.Section.form l.file l.from l.count l.k l.at × g.S.Section.holds l.section (passed l.file l.from l.k)

use mathlib.Core.Path.{◌∙◌, sym, ap}
use native.Mathlib.Omega.{arith}
use Rattle.molnaming.specs.Records.{with_line}
use Rattle.molnaming.proofs.Held.{held-enough, held-end, held-newline}
use Rattle.molnaming.proofs.records.hold.Goals as goal

pub returns-then-end-ge-ENOUGH : goal.returns-then-end-ge-ENOUGH
returns-then-end-ge-ENOUGH c =
    (held-enough c.args.file.now c.args.end (omega arith) c.args.ended c.if-end-ge-ENOUGH.true, omega arith)

pub returns-then-not-ended : goal.returns-then-not-ended
returns-then-not-ended c =
    (held-end c.args.file.now c.args.end (omega arith) c.if-end-ge-ENOUGH.false ∙ ap (with_line c.args.file.now c.args.end) (sym c.if-not-ended.true), omega arith)

pub returns : goal.returns
returns c =
    (held-newline c.args.file.now c.args.end (omega arith) c.if-end-ge-ENOUGH.false (omega arith) ∙ ap (with_line c.args.file.now c.args.end) (sym c.if-not-ended.false), omega arith)

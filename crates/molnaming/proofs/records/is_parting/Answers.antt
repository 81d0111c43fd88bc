use Rattle.std.proofs.Common.{◌∙◌, take}
use Rattle.lines.proofs.Words.{pointwise-same, same_swapped}
use Rattle.molnaming.specs.Records.{is_parting}
use Rattle.molnaming.proofs.records.is_parting.Goals as goal

pub returns : goal.returns
unfolding is_parting
returns c = c.starts_with.ensures.value ∙ pointwise-same _ _ ∙ same_swapped _ (take 4 c.args.line.now)

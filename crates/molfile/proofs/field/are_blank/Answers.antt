-- Each byte is compared with a blank.
use Rattle.std.proofs.Common.{◌∙◌, rules}
use lib.Dec.{eqb}
use borrow.Author.Tests.{tests}
use Rattle.std.proofs.lemmas.Iterator.{YieldsList-from_slice}
use Rattle.std.proofs.lemmas.Iterator.Search.{all_from_yields_List}
use Rattle.molfile.proofs.FieldLaws.{all_blank}
use Rattle.molfile.proofs.field.are_blank.Goals as goal

pub returns : goal.returns
returns c =
    all_from_yields_List (λ b. eqb b 32) _ _ _ c.all.ensures.ran (YieldsList-from_slice c.args.field.now cc) (λ x b q k. search (rules, tests)) ∙ all_blank c.args.field.now

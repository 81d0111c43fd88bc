-- One law of ScanLaws for each return.
use Rattle.std.proofs.Common.{sym, ◌∙◌, arith}
use Rattle.text.proofs.ScanLaws.{bracket_short, bracket_bad, bracket_good}
use Rattle.text.proofs.scan.bracketed_at.Goals as goal

pub returns-then-text-at-le3 : goal.returns-then-text-at-le3
returns-then-text-at-le3 c = bracket_short _ _ _ c.requires.1 c.requires.2 c.requires.0 c.if-text-at-le3.true

pub returns-then-not-is_symbol : goal.returns-then-not-is_symbol
returns-then-not-is_symbol c = bracket_bad _ _ _ c.requires.1 c.requires.2 (omega arith) (sym c.is_symbol.ensures ∙ c.if-not-is_symbol.true)

pub returns : goal.returns
returns c =
    bracket_good _ _ _ c.requires.1 c.requires.2 (omega arith) _ c.of_letters-kind.ensures.is (sym c.is_symbol.ensures ∙ c.if-not-is_symbol.false)

-- One law of AnswerLaws for each return.
use Rattle.std.proofs.Common.{sym, ◌∙◌, rules}
use Rattle.text.specs.Holding.{view_of}
use Rattle.text.proofs.AnswerLaws.{written-7, written-mapped}
use Rattle.text.proofs.written.Goals as goal

pub returns-then-lone_h : goal.returns-then-lone_h
returns-then-lone_h c = written-7 (view_of c.args.state.now) c.args.n c.args.out.now (sym c.lone_h.ensures ∙ c.if-lone_h.true)

pub returns : goal.returns
returns c =
    let l = sym c.lone_h.ensures ∙ c.if-lone_h.false in
    written-mapped (view_of c.args.state.now) c.args.n c.args.out.now l _ c.folded-table.ensures.1 c.write.new.out c.write.result c.write.ensures _ (search rules)

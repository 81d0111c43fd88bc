use Rattle.std.proofs.Common.{ap, sym, arith}
use Rattle.molnaming.specs.Lines.{words_of}
use Rattle.molnaming.proofs.Worded.{other_words}
use Rattle.molnaming.proofs.refused.words_of.Goals as goal

pub returns-in-1-clause-words : goal.returns-in-1-clause-words
unfolding words_of
returns-in-1-clause-words c = ap words_of (sym c.in-1.is)

pub returns-in-3-clause-words : goal.returns-in-3-clause-words
unfolding words_of
returns-in-3-clause-words c = ap words_of (sym c.in-3.is)

pub returns-in-4-clause-words : goal.returns-in-4-clause-words
unfolding words_of
returns-in-4-clause-words c = ap words_of (sym c.in-4.is)

pub returns-in-5-clause-words : goal.returns-in-5-clause-words
unfolding words_of
returns-in-5-clause-words c = ap words_of (sym c.in-5.is)

pub returns-in-6-clause-words : goal.returns-in-6-clause-words
unfolding words_of
returns-in-6-clause-words c = ap words_of (sym c.in-6.is)

pub returns-in-7-clause-words : goal.returns-in-7-clause-words
unfolding words_of
returns-in-7-clause-words c = ap words_of (sym c.in-7.is)

pub returns-in-8-clause-words : goal.returns-in-8-clause-words
unfolding words_of
returns-in-8-clause-words c = ap words_of (sym c.in-8.is)

pub returns-in-9-clause-words : goal.returns-in-9-clause-words
unfolding words_of
returns-in-9-clause-words c = ap words_of (sym c.in-9.is)

pub returns-in-10-clause-words : goal.returns-in-10-clause-words
unfolding words_of
returns-in-10-clause-words c = ap words_of (sym c.in-10.is)

pub returns-in-11-clause-words : goal.returns-in-11-clause-words
unfolding words_of
returns-in-11-clause-words c = ap words_of (sym c.in-11.is)

pub returns-in_default-clause-words : goal.returns-in_default-clause-words
returns-in_default-clause-words c =
    other_words c.args.refusal (omega arith) (omega arith) (omega arith) (omega arith) (omega arith) (omega arith) (omega arith) (omega arith) (omega arith) (omega arith)

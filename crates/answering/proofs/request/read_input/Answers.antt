use Rattle.std.proofs.Common.{sym, ◌∙◌, arith}
use Rattle.lines.proofs.Fronted.{prints_none}
use Rattle.answering.specs.Requests.{input_of}
use Rattle.answering.proofs.Inputs.{input_hex}
use Rattle.answering.proofs.request.read_input.Goals as goal

pub returns-then-is_word : goal.returns-then-is_word
unfolding input_of
returns-then-is_word c = rw (sym c.is_word.ensures ∙ c.if-is_word.true) (prints_none _)

pub read_bytes-requires : goal.read_bytes-requires
read_bytes-requires c =
    let i = input_hex c.args.hex.now c.requires.0 (sym c.is_word.ensures ∙ c.if-is_word.false) in
    (i.0, omega arith)

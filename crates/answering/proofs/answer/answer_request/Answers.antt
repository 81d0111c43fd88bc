use Rattle.std.proofs.Common.{sym, rules}
use lib.Seq.{length-take-le}
use Rattle.scallopgrid.specs.Returned.{returned}
use Rattle.lines.proofs.Putting.{prints_fits, prints_taken}
use Rattle.answering.specs.Requests.{input_of}
use Rattle.answering.proofs.Printed.{asked_shown}
use Rattle.answering.proofs.answer.answer_request.Goals as goal

pub slice_bounds-ask-end : goal.slice_bounds-ask-end
slice_bounds-ask-end c = prints_fits _ _ _ _ c.read_input-n.ensures

pub slice_bounds-ask-end-2 : goal.slice_bounds-ask-end-2
slice_bounds-ask-end-2 c = sym (length-take-le _ _ (prints_fits _ _ _ _ c.read_input-n.ensures))

pub returns : goal.returns
returns c =
    let a = c.ask-a in
    let read = c.read_input-n.ensures in (
      asked_shown c.args.asked.op (input_of c.args.hex.now) _ c.args.asked.allowance c.args.asked.room _ (returned a.result a.new.out)
          (prints_taken _ _ _ _ read) (search rules) a.ensures.0 a.ensures.1 (search rules) _ _ _ c.put_answer.ensures,
      read.is,
    )

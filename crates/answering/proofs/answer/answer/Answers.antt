use Rattle.std.proofs.Common.{ap, sym, ◌∙◌, arith}
use Rattle.answering.specs.Requests.{is_input}
use Rattle.answering.specs.Answers.{answer_line, buffer_after}
use Rattle.answering.proofs.Requested.{request_asks}
use Rattle.answering.proofs.answer.answer.Goals as goal

pub returns-in-None : goal.returns-in-None
unfolding answer_line buffer_after
returns-in-None c =
    let broken = sym c.request_of.ensures ∙ c.in-None.is in
    (rw broken c.copy.ensures, rw broken)

pub answer_request-requires : goal.answer_request-requires
answer_request-requires c =
    let q = request_asks _ _ (sym c.request_of.ensures ∙ c.in-Some.is) in
    (q.0, ap is_input c.input_field.ensures ∙ q.1, omega arith, omega arith)

pub returns-in-Some : goal.returns-in-Some
unfolding answer_line buffer_after
returns-in-Some c =
    let asks = sym c.request_of.ensures ∙ c.in-Some.is in (
      rw (asks, ← c.input_field.ensures) c.answer_request.ensures.0,
      rw (asks, ← c.input_field.ensures) c.answer_request.ensures.1,
    )

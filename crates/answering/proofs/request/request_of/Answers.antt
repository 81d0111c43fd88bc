use Rattle.std.proofs.Common.{sym, ◌∙◌, arith}
use Rattle.lines.proofs.Spelling.{number-most}
use Rattle.answering.proofs.request.request_of.Goals as goal

pub overflow_cast-result : goal.overflow_cast-result
overflow_cast-result c = record { fits = omega (arith, number-most _ 65535 c.in_ok-allowance.allowance (sym c.number_of.ensures ∙ c.in_ok-allowance.was)) }

-- By the step that stops: what came refused, too many leaves, too little room; or none, and the bytes are written.
use Rattle.std.proofs.lemmas.Result.{err_from_is_err_and}
use Rattle.std.specs.Prelude.{Ok}
use Rattle.outputs.proofs.Runs.{as_refused, as_numbered, as_many, as_short, run-written}
use Rattle.outputs.proofs.written.Goals as goal

pub returns-in_err-t : goal.returns-in_err-t
returns-in_err-t g c =
    let p = err_from_is_err_and c.from_residual.result c.from_residual.ensures.1 in
    as_refused _ _ _ _ _ c.in_err-t.was _ (rw (p.1, p.2))

pub returns-in_err-n : goal.returns-in_err-n
returns-in_err-n g c =
    let p = err_from_is_err_and c.from_residual-in_err-n.result c.from_residual-in_err-n.ensures.1 in
    as_many _ _ _ _ _ c.in_ok-t.was _ c.in_err-n.ensures _ (rw (p.1, p.2))

pub returns-in_err-length : goal.returns-in_err-length
returns-in_err-length g c =
    let p = err_from_is_err_and c.from_residual-in_err-length.result c.from_residual-in_err-length.ensures.1 in
    as_short _ _ _ _ _ c.in_ok-t.was _ c.in_ok-n.ensures _ _ c.in_err-length.ensures _ (rw (p.1, p.2))

pub returns : goal.returns
returns g c =
    as_numbered _ _ _ _ _ c.in_ok-t.was _ (run-written _ _ _ _ _ c.in_ok-n.ensures (Ok c.in_ok-length.length) _ c.in_ok-length.ensures)

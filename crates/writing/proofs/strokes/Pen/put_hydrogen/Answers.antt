use Rattle.sling.specs.Walk.{serve}
use Rattle.writing.proofs.Further.{serve_before-put}
use Rattle.writing.proofs.strokes.Pen.put_hydrogen.Goals as goal

pub serve-requires : goal.serve-requires
serve-requires c = let q = c.requires in (q.0, q.1, q.2, q.3, serve_before-put _ _ _ _ q.1 q.4)

pub put-requires : goal.put-requires
put-requires c = let q = c.requires in (0, serve q.0 q.1, c.serve.ensures q.0 q.1 q.2 q.3 (serve_before-put _ _ _ _ q.1 q.4), q.4)

pub returns : goal.returns
returns c = λ r w l a h. c.put.ensures 0 (serve r w) (c.serve.ensures r w l a (serve_before-put _ _ _ _ w h)) h

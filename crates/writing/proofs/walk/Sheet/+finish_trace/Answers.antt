use Rattle.std.proofs.Common.{suc, arith, sym, ◌∙◌, subst}
use Rattle.sling.specs.Walk.{serve}
use Rattle.writing.specs.Walked.{Shows}
use Rattle.writing.proofs.Cycle.{finish-none, hydrogens-room, going, finish-split, along_none, along_next, along_end, along_ready, shows_done, here_room, back_there, back_room, shows_back, onward_is, onward_room, onward_ready}
use Rattle.writing.proofs.walk.Sheet.+finish_trace.Goals as goal

pub finish-returns-then-depth-eq0 : goal.finish-returns-then-depth-eq0
finish-returns-then-depth-eq0 t c = λ W w F. finish-none _ _ _ W _ w c.if-depth-eq0.true F.shown

pub finish-put_hydrogens-requires : goal.finish-put_hydrogens-requires
finish-put_hydrogens-requires t c =
    let q = c.requires in
    (suc c.args.served.now.atom.0, q.1, q.2.shown.text, q.2.on, hydrogens-room _ _ _ _ q.0 q.1 q.2 c.if-depth-eq0.false)

pub finish-loop-k-init : goal.finish-loop-k-init
finish-loop-k-init t c = λ W w G. subst (Shows W.size _) (sym (along_none _ _ _ _ W w G)) G.shown

pub finish-trace-requires : goal.finish-trace-requires
finish-trace-requires t c =
    let q = c.requires in
    let i = c.loop-k in
    let G = going _ _ _ _ q.0 q.1 q.2 c.if-depth-eq0.false _ (c.put_hydrogens.ensures (suc c.args.served.now.atom.0) q.1 q.2.shown.text q.2.on (hydrogens-room _ _ _ _ q.0 q.1 q.2 c.if-depth-eq0.false)) in
    (omega (arith, c.decreases), (q.0, _, along_ready _ _ _ _ q.0 _ G i.k _ c.loop-k-test.true (i.invariant q.0 _ G)))

pub finish-loop-k-preserved : goal.finish-loop-k-preserved
finish-loop-k-preserved t c =
    let i = c.loop-k in
    λ W w G.
    subst (Shows W.size _) (sym (along_next _ _ _ _ W w G i.k c.loop-k-test.true))
    (c.trace.ensures W _ (along_ready _ _ _ _ W w G i.k _ c.loop-k-test.true (i.invariant W w G)))

pub finish-returns : goal.finish-returns
finish-returns t c =
    λ W w F.
    let i = c.loop-k in
    let G = going _ _ _ _ W w F c.if-depth-eq0.false _ (c.put_hydrogens.ensures (suc c.args.served.now.atom.0) w F.shown.text F.on (hydrogens-room _ _ _ _ W w F c.if-depth-eq0.false)) in
    subst (Shows W.size _) (along_end _ _ _ _ W _ G i.k c.loop-k-test.false ∙ sym (finish-split _ _ _ _ W w F c.if-depth-eq0.false)) (i.invariant W _ G)

pub trace-returns-then-self-a : goal.trace-returns-then-self-a
trace-returns-then-self-a t c = λ W w T. shows_done _ _ _ _ _ W w T c.if-self-a.true

pub trace-serve-requires : goal.trace-serve-requires
trace-serve-requires t c =
    let q = c.requires in
    (suc c.args.served.now.atom.0, q.1, q.2.shown.text, q.2.on, here_room _ _ _ _ _ q.0 q.1 q.2 c.if-self-a.false)

pub trace-close-requires : goal.trace-close-requires
trace-close-requires t c =
    let q = c.requires in
    let r = suc c.args.served.now.atom.0 in (
      _,
      serve r q.1,
      c.serve.ensures r q.1 q.2.shown.text q.2.on (here_room _ _ _ _ _ q.0 q.1 q.2 c.if-self-a.false),
      back_there _ _ _ _ _ q.0 q.1 q.2 c.if-self-a.false _ _ c.in-Some.is,
      back_room _ _ _ _ _ q.0 q.1 q.2 c.if-self-a.false _ _ c.in-Some.is,
    )

pub trace-returns-in-Some : goal.trace-returns-in-Some
trace-returns-in-Some t c =
    λ W w T.
    let r = suc c.args.served.now.atom.0 in
    let l = c.serve.ensures r w T.shown.text T.on (here_room _ _ _ _ _ W w T c.if-self-a.false) in
    shows_back _ _ _ _ _ W w T c.if-self-a.false _ _ c.in-Some.is _ _ c.mark.ensures
    (c.close.ensures _ (serve r w) l (back_there _ _ _ _ _ W w T c.if-self-a.false _ _ c.in-Some.is) (back_room _ _ _ _ _ W w T c.if-self-a.false _ _ c.in-Some.is))

pub trace-put-requires : goal.trace-put-requires
trace-put-requires t c =
    let q = c.requires in
    let r = suc c.args.served.now.atom.0 in (
      _,
      serve r q.1,
      c.serve.ensures r q.1 q.2.shown.text q.2.on (here_room _ _ _ _ _ q.0 q.1 q.2 c.if-self-a.false),
      onward_room _ _ _ _ _ q.0 q.1 q.2 c.if-self-a.false _ c.in-None.is c.index-t-b.result,
    )

pub trace-finish-requires : goal.trace-finish-requires
trace-finish-requires t c =
    let q = c.requires in
    let r = suc c.args.served.now.atom.0 in
    let y = c.index-t-b.result in
    let l = c.serve.ensures r q.1 q.2.shown.text q.2.on (here_room _ _ _ _ _ q.0 q.1 q.2 c.if-self-a.false) in
    let m = c.put.ensures _ (serve r q.1) l (onward_room _ _ _ _ _ q.0 q.1 q.2 c.if-self-a.false _ c.in-None.is y) in
    (omega (arith, c.decreases), (q.0, _, onward_ready _ _ _ _ _ q.0 q.1 q.2 c.if-self-a.false _ c.in-None.is y _ _ c.mark.ensures m))

pub trace-returns-in-None : goal.trace-returns-in-None
trace-returns-in-None t c =
    λ W w T.
    let r = suc c.args.served.now.atom.0 in
    let y = c.index-t-b.result in
    let l = c.serve.ensures r w T.shown.text T.on (here_room _ _ _ _ _ W w T c.if-self-a.false) in
    let m = c.put.ensures _ (serve r w) l (onward_room _ _ _ _ _ W w T c.if-self-a.false _ c.in-None.is y) in
    subst (Shows W.size _) (sym (onward_is _ _ _ _ _ W w T c.if-self-a.false _ c.in-None.is y))
    (c.finish.ensures W _ (onward_ready _ _ _ _ _ W w T c.if-self-a.false _ c.in-None.is y _ _ c.mark.ensures m))

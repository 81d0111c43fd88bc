use mathlib.Core.Path.{refl}
use Rattle.writing.proofs.Letters.{put-room, put-next, letters_put}
use Rattle.writing.proofs.strokes.Pen.put.Goals as goal

pub put_atom-requires : goal.put_atom-requires
put_atom-requires c = let q = c.requires in put-room _ q.1 q.2 q.0 _ _ q.3

pub next-self-requires : goal.next-self-requires
next-self-requires c = let q = c.requires in put-next _ q.1 q.2 q.0 _ _ q.3

pub returns : goal.returns
returns c = λ s w l h. letters_put _ w l s _ _ h _ c.put_atom.ensures c.next-self.ensures refl refl

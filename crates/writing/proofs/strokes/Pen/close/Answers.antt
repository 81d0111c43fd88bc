use mathlib.Core.Path.{refl}
use Rattle.writing.proofs.Letters.{close-room, letters_close}
use Rattle.writing.proofs.strokes.Pen.close.Goals as goal

pub put_ring-requires : goal.put_ring-requires
put_ring-requires c = let q = c.requires in close-room _ q.1 q.2 q.0 _ _ q.3 q.4

pub returns : goal.returns
returns c = λ s w l a h. letters_close _ w l s _ _ a h _ c.put_ring.ensures refl refl refl

-- Read: what is read is a sound molecule, and a sound molecule's card is well formed.
use mathlib.Core.Bool.{Bool, true, false, cond}
use mathlib.Core.Path.{◌≡◌, refl, subst}
use native.Mathlib.Omega.{arith}
use lib.Dec.{ltb}
use lib.ListN.{length}
use Rattle.molecule.specs.Judged.{WellFormed}
use Rattle.molecule.specs.Written.{card_bytes}
use Rattle.molecule.proofs.Sound.{Sound}
use Rattle.molecule.proofs.CardBack.{card-well_formed}
use Rattle.sling.specs.Reading.{State}
use Rattle.sling.specs.Faults.{Outcome, stopped, finished}
use Rattle.sling.specs.Folded.{folded, read_text}
use Rattle.sling.proofs.Texts.{read-sound}
use Rattle.rules.specs.Answers.{refused, accepted, in_room, card_of, read_into}
use Rattle.rules.specs.Promises.{AlwaysRead}
use Rattle.rules.proofs.Stopped.{Proper, read_text-proper}

pub read : AlwaysRead
unfolding card_of in_room
read text room e = go (read_text text) refl e
  where
    rooms : (st : State) (b : Bool) → Sound (folded st) → (cond b (refused 10 (length text)) (accepted 0 (card_bytes (folded st)))).refusal ≡ 0
        → WellFormed (cond b (refused 10 (length text)) (accepted 0 (card_bytes (folded st)))).bytes
    rooms st true S e = absurd (omega arith)
    rooms st false S e = card-well_formed (folded st) S

    go : (o : Outcome) → read_text text ≡ o → (read_into o room (length text)).refusal ≡ 0 → WellFormed (read_into o room (length text)).bytes
    go (stopped n p) f e = absurd (subst Proper f (read_text-proper text) e)
    go (finished st) f e = rooms st (ltb room (length (card_bytes (folded st)))) (read-sound text st f) e

-- As a card: the molecule that a well-formed file folds to is sound, so that its card is well formed and lists that molecule, which has one leaf count
-- and one name.
use mathlib.Core.Path.{◌≡◌, sym, ◌∙◌}
use Prim.Native.Nat.{ℕ}
use Rattle.molecule.specs.Molecule.{Molecule}
use Rattle.molecule.specs.Written.{card_bytes}
use Rattle.molecule.proofs.Sound.{Sound}
use Rattle.molecule.proofs.CardBack.{card-well_formed, card-back}
use Rattle.rules.specs.Answers.{numbered, name_out, name_of}
use Rattle.rules.proofs.Answered.{card-answered}
use Rattle.rules.proofs.Same.{named-same}
use Rattle.ctfile.specs.Filed.{drawing_of}
use Rattle.ctfile.specs.Drawings.{folded}
use Rattle.ctfile.specs.Promises.{AlwaysAsCard}
use Rattle.ctfile.proofs.FoldedSound.{folded-sound}
use Rattle.ctfile.proofs.Named.{file_named}

-- a sound molecule is answered as its card is
card-named : (M : Molecule) → Sound M → (allowance room : ℕ) → numbered name_out allowance room M ≡ name_of (card_bytes M) allowance room
unfolding numbered name_of
card-named M S allowance room =
    sym (card-answered name_out (card_bytes M) allowance room (card-well_formed M S) ∙ named-same (card-back M S) S.some allowance room)

pub as_card : AlwaysAsCard
as_card file w =
    let M = folded (drawing_of file) in
    let S = folded-sound (drawing_of file) w.drawing in
    record { well_formed = card-well_formed M S; named = λ allowance room. file_named file w allowance room ∙ card-named M S allowance room }

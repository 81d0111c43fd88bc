-- The definitions of all five crates opened, so that an example computes.
use Rattle.classes.proofs.Open.{classes}
use Rattle.sling.proofs.Open.{sling}
use Rattle.rules.specs.Answers.{in_room, at_exit, numbered, of_card, name_out, canonical_out, marks_out, name_of, canonical_of, marks_of, card_of}

unfoldable pub rules : Unit {0}
unfolding classes sling in_room at_exit numbered of_card name_out canonical_out marks_out name_of canonical_of marks_of card_of
rules = tt

-- Settled and Kept: a contract leaves no choice, since it says each part of a result; and what is lent keeps its length, and on a refusal its bytes,
-- since a refusal has no bytes to write and an acceptance has them in the room.
use mathlib.Core.Bool.{Bool, true, false, cond}
use mathlib.Core.List.{List}
use mathlib.Core.Path.{◌≡◌, refl, sym, ◌∙◌}
use Prim.Native.Nat.{ℕ, zero, suc, ◌≤◌}
use native.Mathlib.Omega.{arith}
use borrow.Author.Tests.{ltb-false}
use lib.Dec.{ltb}
use lib.ListN.{length, drop, length-append, length-drop}
use Rattle.molecule.specs.Molecule.{Molecule}
use Rattle.molecule.specs.Judged.{molecule_of, card_fault}
use Rattle.molecule.specs.Written.{card_bytes}
use Rattle.classes.specs.Refining.{rule1}
use Rattle.classes.specs.Numberings.{leaf_count}
use Rattle.sling.specs.Faults.{Outcome, stopped, finished}
use Rattle.sling.specs.Folded.{folded, read_text}
use Rattle.rules.specs.Answers.{refused, accepted, in_room, at_exit, numbered, unless_faulty, of_card, name_out, canonical_out, marks_out, name_of, card_of, canonical_of, marks_of, read_into}
use Rattle.rules.specs.Promises.{Settled, KeptBy, AlwaysKept}
use Rattle.rules.proofs.Stopped.{Proper, read_text-proper}

pub settled : Settled
settled a lent r r' p q = λ i. record {
  refusal = (p.refusal ∙ sym q.refusal) i;
  place = (p.place ∙ sym q.place) i;
  leaves = (p.leaves ∙ sym q.leaves) i;
  length = (p.written ∙ sym q.written) i;
  lent = (p.lent ∙ sym q.lent) i;
}

pub refused-keeps : (n p : ℕ) (lent : List ℕ) → KeptBy (refused (suc n) p) lent
unfolding at_exit
refused-keeps n p lent = record { whole = refl; untouched = λ ne. refl; nothing = λ ne. (refl, refl); place = λ e. absurd (omega arith) }

accepted-keeps : (k : ℕ) (out lent : List ℕ) → length out ≤ length lent → KeptBy (accepted k out) lent
unfolding at_exit
accepted-keeps k out lent h = record {
  whole = length-append out (drop (length out) lent) ∙ omega (arith, length-drop (length out) lent);
  untouched = λ ne. absurd (ne refl);
  nothing = λ ne. absurd (ne refl);
  place = λ e. refl;
}

in_room-keeps : (p k : ℕ) (out lent : List ℕ) → KeptBy (in_room (length lent) p k out) lent
unfolding in_room
in_room-keeps p k out lent = go (ltb (length lent) (length out)) refl
  where
    go : (b : Bool) → ltb (length lent) (length out) ≡ b → KeptBy (cond b (refused 10 p) (accepted k out)) lent
    go true e = refused-keeps 9 p lent
    go false e = accepted-keeps k out lent (ltb-false (length lent) (length out) e)

pub numbered-keeps : (out : Molecule → List ℕ) (allowance : ℕ) (M : Molecule) (lent : List ℕ) → KeptBy (numbered out allowance (length lent) M) lent
unfolding numbered
numbered-keeps out allowance M lent = go (ltb allowance (leaf_count rule1 M))
  where
    go : (b : Bool) → KeptBy (cond b (refused 9 0) (in_room (length lent) 0 (leaf_count rule1 M) (out M))) lent
    go true = refused-keeps 8 0 lent
    go false = in_room-keeps 0 (leaf_count rule1 M) (out M) lent

card-keeps : (out : Molecule → List ℕ) (card : List ℕ) (allowance : ℕ) (lent : List ℕ) → KeptBy (of_card out card allowance (length lent)) lent
unfolding of_card
card-keeps out card allowance lent = go (card_fault card)
  where
    go : (n : ℕ) → KeptBy (unless_faulty n (numbered out allowance (length lent) (molecule_of card))) lent
    go zero = numbered-keeps out allowance (molecule_of card) lent
    go (suc n) = refused-keeps n 0 lent

read_keeps : (o : Outcome) (size : ℕ) (lent : List ℕ) → Proper o → KeptBy (read_into o (length lent) size) lent
read_keeps (stopped zero p) size lent h = absurd (h refl)
read_keeps (stopped (suc n) p) size lent h = refused-keeps n p lent
read_keeps (finished st) size lent h = in_room-keeps size 0 (card_bytes (folded st)) lent

pub kept : AlwaysKept
unfolding name_of card_of canonical_of marks_of
kept = record {
  name = card-keeps name_out;
  card = λ text lent. read_keeps (read_text text) (length text) lent (read_text-proper text);
  canonical = card-keeps canonical_out;
  marks = card-keeps marks_out;
}

-- Document 01, "Numbers of refusal": the four answers, whole.
use Rattle.std.specs.Prelude.{cond, List, [], ◌++◌, ℕ, zero, suc, ltb, length, drop}
use Rattle.lists.specs.Upto.{each}
use Rattle.molecule.specs.Molecule.{Molecule}
use Rattle.molecule.specs.Judged.{molecule_of, card_fault}
use Rattle.molecule.specs.Written.{card_bytes}
use Rattle.classes.specs.Refining.{rule1}
use Rattle.classes.specs.Numberings.{leaf_count}
use Rattle.classes.specs.Canonical.{class_mark, canonical}
use Rattle.sling.specs.Faults.{Outcome, stopped, finished}
use Rattle.sling.specs.Folded.{folded, read_text}
use Rattle.sling.specs.Printed.{name_bytes}

-- refusal, place, leaf count and the bytes written, whose number is the length that is returned
pub record Answer : Type 0 where
  pub refusal : ℕ
  pub place : ℕ
  pub leaves : ℕ
  pub bytes : List ℕ

-- "Every refusal returns its number, a place, leaf count 0 and length 0"
abbrev pub refused : ℕ → ℕ → Answer
refused n p = record { refusal = n; place = p; leaves = 0; bytes = [] }

-- "On acceptance the place is 0, the length is the number of bytes written, the leaf count is that of the numbering"
abbrev pub accepted : ℕ → List ℕ → Answer
accepted k out = record { refusal = 0; place = 0; leaves = k; bytes = out }

-- "10: lent output shorter than what must be written", with the place that goes with it
unfoldable pub in_room : (room place leaves : ℕ) → List ℕ → Answer
in_room room p k out = cond (ltb room (length out)) (refused 10 p) (accepted k out)

-- The lent bytes at exit: "no lent byte differs from before" on a refusal, and "the bytes after the output are as before".
unfoldable pub at_exit : Answer → List ℕ → List ℕ
at_exit a lent = a.bytes ++ drop (length a.bytes) lent

-- "9: leaf count above the allowance", "9; 10": what a well-formed card's molecule is answered
unfoldable pub numbered : (Molecule → List ℕ) → (allowance room : ℕ) → Molecule → Answer
numbered out allowance room M =
    cond (ltb allowance (leaf_count rule1 M)) (refused 9 0) (in_room room 0 (leaf_count rule1 M) (out M))

abbrev pub unless_faulty : ℕ → Answer → Answer
unless_faulty zero a = a
unless_faulty (suc n) a = refused (suc n) 0

-- "Order for a card: [1 to 8]; 9; 10."
unfoldable pub of_card : (Molecule → List ℕ) → List ℕ → (allowance room : ℕ) → Answer
of_card out card allowance room = unless_faulty (card_fault card) (numbered out allowance room (molecule_of card))

unfoldable pub name_out : Molecule → List ℕ
name_out M = name_bytes (canonical rule1 M)

unfoldable pub canonical_out : Molecule → List ℕ
canonical_out M = card_bytes (canonical rule1 M)

unfoldable pub marks_out : Molecule → List ℕ
marks_out M = each M.size (class_mark rule1 M)

-- "Four things are offered: name of a card, card of a text, canonical card (ranks as atom order), class marks (one byte per atom, in the
-- card's order). All but the second take an allowance."
unfoldable pub name_of : (card : List ℕ) (allowance room : ℕ) → Answer
name_of = of_card name_out

unfoldable pub canonical_of : (card : List ℕ) (allowance room : ℕ) → Answer
canonical_of = of_card canonical_out

unfoldable pub marks_of : (card : List ℕ) (allowance room : ℕ) → Answer
marks_of = of_card marks_out

-- "the leaf count is [..] 0 where a text is read"; "the text length [..] for 10"
abbrev pub read_into : Outcome → (room size : ℕ) → Answer
read_into (stopped n p) room size = refused n p
read_into (finished st) room size = in_room room size 0 (card_bytes (folded st))

unfoldable pub card_of : (text : List ℕ) (room : ℕ) → Answer
card_of text room = read_into (read_text text) room (length text)

-- The whole answer: one law for each of the code's.
use Prim.Native.Nat.{ℕ, ◌≤◌, ◌<◌}
use mathlib.Core.Path.{◌≡◌, refl, ap, ◌∙◌}
use mathlib.Core.List.{List, ◌++◌}
use mathlib.Core.Bool.{Bool, true, false, cond}
use lib.ListN.{length, drop, get_or}
use lib.Dec.{ltb}
use borrow.Author.Tests.{eq-eqb, ne_eqb, lt-ltb, le-ltb}
use native.Mathlib.Omega.{arith}
use Rattle.lists.proofs.All.{all_get_d}
use Rattle.std.specs.Prelude.{Result, Ok, Err}
use Rattle.molecule.specs.Molecule.{Molecule, kind}
use Rattle.molecule.specs.Renumbering.{Renumbered}
use Rattle.molecule.specs.Written.{card_bytes}
use Rattle.molecule.proofs.Alike.{card_bytes-alike}
use Rattle.refusal.specs.declared.Refusal.{Refusal}
use Rattle.refusal.specs.declared.Refusal.TheVariants.{NoAtoms, OverLimit, WrongHydrogen, NoRoom}
use Rattle.refusal.specs.declared.Refused.{Refused}
use Rattle.refusal.specs.Numbers.{number_of}
use Rattle.sling.specs.Scanned.{tokens}
use Rattle.sling.specs.Reading as rules
use Rattle.sling.specs.Faults.{Outcome, stopped, finished, run}
use Rattle.sling.specs.Folded.{heavy_places, folded, lone_h, ended, read_text}
use Rattle.sling.proofs.Tidy.{Reader}
use Rattle.rules.specs.Answers.{in_room, at_exit, read_into, card_of}
use Rattle.lent.specs.Written.{Written}
use Rattle.text.specs.Answering.{Answers, Answered, Writes}

-- what is not read
stopped-answer : (lent : List ℕ) (size : ℕ) (q : Refused) (o : Outcome) → o ≡ stopped (number_of q.refusal) q.place
    → Answers (read_into o (length lent) size) lent lent (Err q)
unfolding at_exit
stopped-answer lent size q o e = rw e (record { refusal = refl; place = refl; size = refl; left = refl })

given : (s lent after : List ℕ) (r : Result ℕ Refused) → Answers (card_of s (length lent)) lent after r → Answered s lent after r
given s lent after r A = record { refusal = A.refusal; place = A.place; size = A.size; left = A.left }

module _ (s lent : List ℕ) where
  pub answer_1 : length s ≡ 0 → Answered s lent lent (Err (record { refusal = NoAtoms; place = 0 }))
  unfolding card_of read_text
  answer_1 e =
      let o : read_text s ≡ stopped 1 0 = rw (eq-eqb _ _ e) in
      given s lent lent _ (stopped-answer lent (length s) (record { refusal = NoAtoms; place = 0 }) _ o)

  module _ (some : length s ≡ 0 → ⊥) where
    pub answer_4 : 4096 < length s → Answered s lent lent (Err (record { refusal = OverLimit; place = 0 }))
    unfolding card_of read_text
    answer_4 h =
        let o : read_text s ≡ stopped 4 0 = rw (ne_eqb _ _ some, lt-ltb 4096 (length s) h) in
        given s lent lent _ (stopped-answer lent (length s) (record { refusal = OverLimit; place = 0 }) _ o)

    module _ (fits : length s ≤ 4096) where
      read_is : read_text s ≡ ended (run (tokens s 0 0) rules.start) (length s)
      unfolding read_text
      read_is = rw (ne_eqb _ _ some, le-ltb 4096 (length s) fits)

      pub answer_item : (q : Refused) → stopped (number_of q.refusal) q.place ≡ run (tokens s 0 0) rules.start → Answered s lent lent (Err q)
      unfolding card_of
      answer_item q e = given s lent lent _ (stopped-answer lent (length s) q _ (read_is ∙ rw (← e)))

      pub answer_read : (S : rules.State) → finished S ≡ run (tokens s 0 0) rules.start → (after : List ℕ) (r : Result ℕ Refused) → Writes S (length s) lent after r → Answered s lent after r
      unfolding card_of
      answer_read S e after r W = given s lent after r (rw (read_is, ← e) W)

-- what was read, written as a card
module _ (S : rules.State) (size : ℕ) (lent : List ℕ) where
  pub written-7 : lone_h S ≡ true → Writes S size lent lent (Err (record { refusal = WrongHydrogen; place = size }))
  written-7 e =
      let o : ended (finished S) size ≡ stopped 7 size = rw e in
      stopped-answer lent size (record { refusal = WrongHydrogen; place = size }) _ o

  module _ (two : lone_h S ≡ false) (M : Molecule) (E : Renumbered (λ a. a) (folded S) M) (after : List ℕ) where
    answer_is : read_into (ended (finished S) size) (length lent) size ≡ in_room (length lent) size 0 (card_bytes M)
    answer_is = rw two (ap (in_room (length lent) size 0) (card_bytes-alike E))

    pub written-ok : (n : ℕ) → Written (card_bytes M) lent after (Ok n) → Writes S size lent after (Ok n)
    unfolding in_room at_exit
    written-ok n W = rw answer_is (pick (ltb (length lent) (length (card_bytes M))) refl W.answer W.left)
      where
        pick : (b : Bool) → ltb (length lent) (length (card_bytes M)) ≡ b
            → Ok n ≡ cond (ltb (length lent) (length (card_bytes M))) (Err NoRoom) (Ok (length (card_bytes M)))
            → after ≡ cond (ltb (length lent) (length (card_bytes M))) lent (card_bytes M ++ drop (length (card_bytes M)) lent)
            → Answers (in_room (length lent) size 0 (card_bytes M)) lent after (Ok n)
        pick true e a l = absurd (let z = rw e at a in cc)
        pick false e a l = let z : n ≡ length (card_bytes M) = (let y = rw e at a in cc) in record { refusal = rw e; place = rw e; size = rw e z; left = l ∙ rw e }

    pub written-err : (q : Refusal) → Written (card_bytes M) lent after (Err q) → Writes S size lent after (Err (record { refusal = q; place = size }))
    unfolding in_room at_exit
    written-err q W = rw answer_is (pick (ltb (length lent) (length (card_bytes M))) refl W.answer W.left)
      where
        pick : (b : Bool) → ltb (length lent) (length (card_bytes M)) ≡ b
            → Err q ≡ cond (ltb (length lent) (length (card_bytes M))) (Err NoRoom) (Ok (length (card_bytes M)))
            → after ≡ cond (ltb (length lent) (length (card_bytes M))) lent (card_bytes M ++ drop (length (card_bytes M)) lent)
            → Answers (in_room (length lent) size 0 (card_bytes M)) lent after (Err (record { refusal = q; place = size }))
        pick true e a l =
            let z : q ≡ NoRoom = (let y = rw e at a in cc) in
            record { refusal = ap number_of z ∙ rw e; place = rw e; size = rw e; left = l ∙ rw e }
        pick false e a l = absurd (let z = rw e at a in cc)

    -- the writer's answer with a place
    abbrev pub Mapped : Result ℕ Refusal → Result ℕ Refused → Type 0
    Mapped (Ok n) r = r ≡ Ok n
    Mapped (Err q) r = r ≡ Err (record { refusal = q; place = size })

    pub written-mapped : (w : Result ℕ Refusal) → Written (card_bytes M) lent after w → (r : Result ℕ Refused) → Mapped w r → Writes S size lent after r
    written-mapped (Ok n) W r e = rw e (written-ok n W)
    written-mapped (Err q) W r e = rw e (written-err q W)

-- the kinds of the molecule are kinds of the table
pub folded-known : (S : rules.State) → Reader S → (M : Molecule) → Renumbered (λ a. a) (folded S) M → (a : ℕ) → a < M.size → kind M a ≤ 24
unfolding folded
folded-known S r M E a h =
    rw (E.label a (omega (arith, E.size))) (all_get_d (λ k. k ≤ 24) S.kinds 0 r.tidy.known (omega arith) (get_or (heavy_places S) a 0))

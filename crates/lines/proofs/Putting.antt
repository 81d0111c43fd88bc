-- Pieces put behind each other make one piece.
use mathlib.Core.List.{List, [], ◌∷◌, ◌++◌, append_assoc}
use mathlib.Core.Path.{◌≡◌, refl, sym, ap, ◌∙◌, subst}
use Prim.Native.Nat.{ℕ, ◌+◌, ◌-◌, ◌<◌, ◌≤◌}
use native.Mathlib.Omega.{arith}
use lib.ListN.{length, take, drop, length-append, length-drop}
use lib.Seq.{length-take-le, take_at, drop_at, drop-drop}
use Rattle.lines.specs.Added.{Begins, Adds}
use Rattle.lines.specs.Written.{fronted, Prints, Puts, or_dash}
use Rattle.std.specs.Borrow.{MutBor}
use Rattle.lines.specs.declared.output.Printed.{Printed}
use Rattle.lines.proofs.Parts.{tail_is, tail_back}

-- a part lent from `at` on, into which xs was printed
pub put-part : (xs b ys : List ℕ) (at n : ℕ) → at ≤ length b → Prints xs (take (length b - at) (drop at b)) ys n
    → Puts xs b at (take at b ++ (ys ++ drop (length b - at) (drop at b))) (at + n)
unfolding fronted
put-part xs b ys at n h P =
    record {
      long = ap (λ (k : ℕ). at + k) P.long;
      is =
          tail_back b at h ys
          ∙ ap (λ (z : List ℕ). take at b ++ z) (P.is ∙ rw (tail_is b at h, drop-drop (length xs) at b, ← P.long));
    }

-- what is put keeps the buffer's length
pub puts_kept : (xs a b : List ℕ) (i j : ℕ) → j ≤ length a → Puts xs a i b j → length b ≡ length a
puts_kept xs a b i j h P =
    ap length P.is ∙ length-append (take i a) (xs ++ drop j a)
    ∙ omega (arith, length-append xs (drop j a), length-take-le i a (omega (arith, P.long)), length-drop j a, P.long)

pub puts_more : (xs ys a b c : List ℕ) (i j k : ℕ) → k ≤ length a → Puts xs a i b j → Puts ys b j c k → Puts (xs ++ ys) a i c k
puts_more xs ys a b c i j k h P Q =
    record {
      long = omega (arith, P.long, Q.long, length-append xs ys);
      is =
          Q.is ∙ ap (λ (l : List ℕ). l ++ (ys ++ drop k b)) front
          ∙ ap (λ (l : List ℕ). (take i a ++ xs) ++ (ys ++ l)) rest
          ∙ append_assoc (take i a) xs (ys ++ drop k a)
          ∙ ap (λ (l : List ℕ). take i a ++ l) (sym (append_assoc xs ys (drop k a)));
    }
  where
    fits : i ≤ length a
    fits = omega (arith, P.long, Q.long)

    parts : b ≡ (take i a ++ xs) ++ drop j a
    parts = P.is ∙ sym (append_assoc (take i a) xs (drop j a))

    long : length (take i a ++ xs) ≡ j
    long = length-append (take i a) xs ∙ omega (arith, length-take-le i a fits, P.long)

    front : take j b ≡ take i a ++ xs
    front = ap (take j) parts ∙ take_at (take i a ++ xs) (drop j a) j long

    over : j + (k - j) ≡ k
    over = omega (arith, Q.long)

    rest : drop k b ≡ drop k a
    rest =
        ap (λ (n : ℕ). drop n b) (sym over) ∙ sym (drop-drop (k - j) j b)
        ∙ ap (drop (k - j)) (ap (drop j) parts ∙ drop_at (take i a ++ xs) (drop j a) j long)
        ∙ drop-drop (k - j) j a ∙ ap (λ (n : ℕ). drop n a) over

-- pieces added one behind the other are added together
pub adds_more : (xs ys : List ℕ) (a b c : Printed) → Adds xs a b → Adds ys b c → Adds (xs ++ ys) a c
adds_more xs ys a b c P Q =
    let h : c.at ≤ length a.out.now = omega (arith, c.fits, Q.kept, P.kept) in
    record {
      puts = puts_more xs ys a.out.now b.out.now c.out.now a.at b.at c.at h P.puts Q.puts;
      kept = Q.kept ∙ P.kept;
      same_reference = Q.same_reference ∙ P.same_reference;
    }

pub adds_as : (xs ys : List ℕ) (a b : Printed) → xs ≡ ys → Adds xs a b → Adds ys a b
adds_as xs ys a b e P = subst (λ (l : List ℕ). Adds l a b) e P

-- what was added to nothing is put from the start on
pub put_whole : (xs after : List ℕ) (lent : MutBor (List ℕ)) (a b : Printed) → Begins lent a → Adds xs a b → after ≡ b.out.now → Puts xs lent.now 0 after b.at
put_whole xs after lent a b B P e =
    record { long = omega (arith, P.puts.long, B.nothing); is = e ∙ P.puts.is ∙ rw (B.nothing, B.unchanged) }

-- put from the start on, it is printed
pub whole_printed : (xs a b : List ℕ) (n : ℕ) → Puts xs a 0 b n → Prints xs a b n
unfolding fronted
whole_printed xs a b n P =
    let l : n ≡ length xs = omega (arith, P.long) in
    record { long = l; is = P.is ∙ ap (λ (k : ℕ). xs ++ drop k a) l }

pub printed : (xs after : List ℕ) (lent : MutBor (List ℕ)) (a b : Printed) → Begins lent a → Adds xs a b → after ≡ b.out.now → Prints xs lent.now after b.at
printed xs after lent a b B P e = whole_printed xs lent.now after b.at (put_whole xs after lent a b B P e)

pub dash : (l : List ℕ) → length l ≡ 0 → or_dash l ≡ 45 ∷ []
dash [] h = refl
dash (b ∷ l) h = absurd (omega arith)

pub no_dash : (l : List ℕ) → 0 < length l → l ≡ or_dash l
no_dash [] h = absurd (omega arith)
no_dash (b ∷ l) h = refl

-- what is printed has room
pub prints_fits : (xs before after : List ℕ) (n : ℕ) → Prints xs before after n → n ≤ length after
unfolding fronted
prints_fits xs before after n P = omega (arith, P.long, ap length P.is, length-append xs (drop (length xs) before))

pub prints_taken : (xs before after : List ℕ) (n : ℕ) → Prints xs before after n → take n after ≡ xs
unfolding fronted
prints_taken xs before after n P = ap (take n) P.is ∙ take_at xs (drop (length xs) before) n (sym P.long)

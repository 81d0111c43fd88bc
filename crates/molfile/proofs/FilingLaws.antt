-- The verdict on a file, section by section, and its drawing.
use Prim.Native.Nat.{ℕ, ◌+◌, ◌≤◌}
use mathlib.Core.Path.{◌≡◌, refl, sym, ap, ap₂, ◌∙◌}
use mathlib.Core.List.{List, [], ◌∷◌, ◌++◌, map, append-nil}
use native.Mathlib.Omega.{arith}
use lib.ListN.{length, get_or, take, drop, replicate, length-replicate}
use lib.Seq.{get_or-drop, drop-drop}
use Rattle.std.specs.Prelude.{Option, Result, Ok, Err, IfOk}
use Rattle.ctfile.specs.Lines as rules
use Rattle.ctfile.specs.Lines.{lines_of}
use Rattle.ctfile.specs.Forms as forms
use Rattle.ctfile.specs.Forms.{atom_count_in, bond_count_in, is_counts_line, is_atom_line, is_bond_line}
use Rattle.ctfile.specs.Filed.{Verdict, broken, Form, no_line, atom_count, bond_count, forms, judged_by, properties, verdict, Drawing, drawing_of}
use Rattle.refusal.specs.declared.Refusal.TheVariants.{BrokenLine}
use Rattle.refusal.specs.declared.Refused.{Refused}
use Rattle.kinds.specs.Known.{kind_in}
use Rattle.drawing.specs.declared.Counts.{Counts}
use Rattle.drawing.specs.declared.Bond.{Bond}
use Rattle.drawing.specs.declared.Drawing as arrays
use Rattle.drawing.specs.View.{bond_in, drawing_in, Fits}
use Rattle.drawing.proofs.Taken.{mapped_taken}
use Rattle.molfile.specs.Cutting.{lines_at}
use Rattle.molfile.specs.Taking.{any_line, Counted, HasCounts, HasKinds, HasBonds}
use Rattle.molfile.specs.Passing.{Passes, passed, Ends, verdict_of}
use Rattle.molfile.specs.Filing.{IsFiled}

-- the forms of so many atom and bond lines, and what follows them
abbrev drawn : ℕ → ℕ → List Form
drawn a b = replicate a is_atom_line ++ replicate b is_bond_line

abbrev judged_at : List ℕ → List Form → (atoms place : ℕ) → Verdict
judged_at s fs atoms place = judged_by fs (length s) (properties (length s) atoms) (lines_at s place)

map_twice : {A B C : Type 0} (f : B → C) (g : A → B) (l : List A) → map f (map g l) ≡ map (λ x. f (g x)) l
map_twice f g [] = refl
map_twice f g (x ∷ l) = ap (λ r. f (g x) ∷ r) (map_twice f g l)

opened : (s : List ℕ) → verdict s ≡ judged_at s (replicate 3 any_line ++ (is_counts_line ∷ drawn (atom_count (lines_at s 0)) (bond_count (lines_at s 0)))) (atom_count (lines_at s 0)) 0
unfolding verdict forms lines_of
opened s = refl

module _ (s : List ℕ) where
  refuse : (d : arrays.Drawing) (e : Refused) → verdict s ≡ broken e.place → e.refusal ≡ BrokenLine → IsFiled s d (Err e)
  refuse d e v b = record { judged = v; refusal = b; fits = tt; drawing = tt }

  pub filed_header : (d : arrays.Drawing) (e : Refused) → Passes (replicate 3 any_line) s 0 (Err e) → IsFiled s d (Err e)
  filed_header d e H = refuse d e (opened s ∙ H.judged _ _) H.refusal

  module _ (h : ℕ) (H : Passes (replicate 3 any_line) s 0 (Ok h)) where
    after-header : verdict s ≡ judged_at s (is_counts_line ∷ drawn (atom_count (lines_at s 0)) (bond_count (lines_at s 0))) (atom_count (lines_at s 0)) h
    after-header = opened s ∙ H.judged _ _

    pub filed_counts : (d : arrays.Drawing) (e : Refused) → Passes (replicate 1 is_counts_line) s h (Err e) → IsFiled s d (Err e)
    filed_counts d e C = refuse d e (after-header ∙ C.judged _ _) C.refusal

    module _ (n : ℕ) (C : Passes (replicate 1 is_counts_line) s h (Ok n)) (c : Counts) (N : HasCounts c (passed s h 1)) where
      fourth : get_or (lines_at s h) 0 no_line ≡ get_or (lines_at s 0) 3 no_line
      fourth = ap (λ (ls : List rules.Line). get_or ls 0 no_line) (sym H.behind) ∙ get_or-drop 3 (lines_at s 0) 0 no_line

      -- the counts line is there, since it was passed
      counted : Counted (get_or (lines_at s h) 0 no_line).bytes c
      counted = go (lines_at s h) C.there N
        where
          go : (ls : List rules.Line) → length (map (λ l. l.bytes) (take 1 ls)) ≡ 1 → HasCounts c (map (λ l. l.bytes) (take 1 ls)) → Counted (get_or ls 0 no_line).bytes c
          go [] e M = absurd (omega arith)
          go (l ∷ ls) e M = M

      are-atoms : c.atoms ≡ atom_count (lines_at s 0)
      are-atoms = counted.atoms ∙ ap (λ (l : rules.Line). atom_count_in l.bytes) fourth

      are-bonds : c.bonds ≡ bond_count (lines_at s 0)
      are-bonds = counted.bonds ∙ ap (λ (l : rules.Line). bond_count_in l.bytes) fourth

      pub few_atoms : c.atoms ≤ 999
      few_atoms = counted.few_atoms

      pub few_bonds : c.bonds ≤ 999
      few_bonds = counted.few_bonds

      after-counts : verdict s ≡ judged_at s (drawn c.atoms c.bonds) c.atoms n
      after-counts = after-header ∙ C.judged _ _ ∙ ap₂ (λ (x y : ℕ). judged_at s (drawn x y) x n) (sym are-atoms) (sym are-bonds)

      pub filed_atoms : (d : arrays.Drawing) (e : Refused) → Passes (replicate c.atoms is_atom_line) s n (Err e) → IsFiled s d (Err e)
      filed_atoms d e A = refuse d e (after-counts ∙ A.judged _ _) A.refusal

      module _ (a : ℕ) (A : Passes (replicate c.atoms is_atom_line) s n (Ok a)) where
        after-atoms : verdict s ≡ judged_at s (replicate c.bonds is_bond_line ++ []) c.atoms a
        after-atoms = after-counts ∙ A.judged _ _ ∙ rw (append-nil (replicate c.bonds is_bond_line))

        pub filed_bonds : (d : arrays.Drawing) (e : Refused) → Passes (replicate c.bonds is_bond_line) s a (Err e) → IsFiled s d (Err e)
        filed_bonds d e B = refuse d e (after-atoms ∙ B.judged [] _) B.refusal

        module _ (b : ℕ) (B : Passes (replicate c.bonds is_bond_line) s a (Ok b)) where
          after-bonds : verdict s ≡ properties (length s) c.atoms (lines_at s b)
          unfolding judged_by
          after-bonds = after-atoms ∙ B.judged [] _

          -- where the atom lines begin, and the bond lines
          atoms-from : drop 4 (lines_at s 0) ≡ lines_at s n
          atoms-from = sym (drop-drop 1 3 (lines_at s 0)) ∙ ap (λ (ls : List rules.Line). drop 1 ls) H.behind ∙ C.behind

          bonds-from : drop (4 + c.atoms) (lines_at s 0) ≡ lines_at s a
          bonds-from =
              sym (drop-drop c.atoms 4 (lines_at s 0)) ∙ ap (λ (ls : List rules.Line). drop c.atoms ls) atoms-from
              ∙ ap (λ (j : ℕ). drop j (lines_at s n)) (sym (length-replicate c.atoms is_atom_line)) ∙ A.behind

          drawn-of : drawing_of s ≡ record { kinds = map (λ l. forms.kind_in l.bytes) (take c.atoms (lines_at s n)); bonds = map (λ l. forms.bond_in l.bytes) (take c.bonds (lines_at s a)) }
          unfolding drawing_of lines_of
          drawn-of =
              ap₂ (λ (x y : ℕ). drawing x y) (sym are-atoms) (sym are-bonds)
              ∙ ap₂ (λ (p q : List rules.Line). made p q) atoms-from bonds-from
            where
              drawing : ℕ → ℕ → Drawing
              drawing x y = record { kinds = map (λ l. forms.kind_in l.bytes) (take x (drop 4 (lines_at s 0))); bonds = map (λ l. forms.bond_in l.bytes) (take y (drop (4 + x) (lines_at s 0))) }

              made : List rules.Line → List rules.Line → Drawing
              made p q = record { kinds = map (λ l. forms.kind_in l.bytes) (take c.atoms p); bonds = map (λ l. forms.bond_in l.bytes) (take c.bonds q) }

          -- the verdict, and the drawing, each by itself
          pub ended : (r : Result (Unit {0}) Refused) → Ends s b c.atoms r → verdict s ≡ verdict_of r
          ended r E = after-bonds ∙ E.judged

          pub drawn-is : (kinds : List (Option ℕ)) (bonds : List Bond) → take c.atoms (map kind_in kinds) ≡ map (λ l. forms.kind_in l.bytes) (take c.atoms (lines_at s n))
              → map bond_in (take c.bonds bonds) ≡ map (λ l. forms.bond_in l.bytes) (take c.bonds (lines_at s a))
              → drawing_in (record { counts = c; kinds = kinds; bonds = bonds }) ≡ drawing_of s
          drawn-is kinds bonds K L = (λ i. record { kinds = K i; bonds = L i }) ∙ sym drawn-of

          pub filed_ended : (kinds : List (Option ℕ)) (bonds : List Bond) → HasKinds kinds (passed s n c.atoms) → HasBonds bonds (passed s a c.bonds)
              → (r : Result (Unit {0}) Refused) → Ends s b c.atoms r → IsFiled s (record { counts = c; kinds = kinds; bonds = bonds }) r
          filed_ended kinds bonds K L r E =
              record { judged = ended r E; refusal = E.refusal; fits = where_ok r fit; drawing = where_ok r same }
            where
              where_ok : {P : Type 0} → (q : Result (Unit {0}) Refused) → P → IfOk q (λ _. P)
              where_ok (Ok x) p = p
              where_ok (Err e) p = tt

              fit : Fits (record { counts = c; kinds = kinds; bonds = bonds })
              fit = record { atoms = few_atoms; bonds = few_bonds; kinds_long = K.long; bonds_long = L.long }

              atoms-long : length (passed s n c.atoms) ≡ c.atoms
              atoms-long = let e = length-replicate c.atoms is_atom_line in ap (λ (j : ℕ). length (passed s n j)) (sym e) ∙ A.there ∙ e

              bonds-long : length (passed s a c.bonds) ≡ c.bonds
              bonds-long = let e = length-replicate c.bonds is_bond_line in ap (λ (j : ℕ). length (passed s a j)) (sym e) ∙ B.there ∙ e

              same-kinds : take c.atoms (map kind_in kinds) ≡ map (λ l. forms.kind_in l.bytes) (take c.atoms (lines_at s n))
              same-kinds =
                  sym (mapped_taken kind_in c.atoms kinds) ∙ ap (λ (j : ℕ). map kind_in (take j kinds)) (sym atoms-long) ∙ K.are
                  ∙ map_twice forms.kind_in (λ (l : rules.Line). l.bytes) (take c.atoms (lines_at s n))

              same-bonds : map bond_in (take c.bonds bonds) ≡ map (λ l. forms.bond_in l.bytes) (take c.bonds (lines_at s a))
              same-bonds =
                  ap (λ (j : ℕ). map bond_in (take j bonds)) (sym bonds-long) ∙ L.are
                  ∙ map_twice forms.bond_in (λ (l : rules.Line). l.bytes) (take c.bonds (lines_at s a))

              same : drawing_in (record { counts = c; kinds = kinds; bonds = bonds }) ≡ drawing_of s
              same = drawn-is kinds bonds same-kinds same-bonds

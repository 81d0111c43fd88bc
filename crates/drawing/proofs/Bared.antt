-- The atoms of a drawing that are no H, one place at a time.
use mathlib.Core.Bool.{Bool, true, false, cond, not}
use mathlib.Core.List.{List, [], ◌∷◌, ◌++◌}
use mathlib.Core.Path.{◌≡◌, refl, sym, ◌∙◌, ap, subst}
use Prim.Native.Nat.{ℕ, suc, ◌+◌, ◌<◌, ◌≤◌}
use native.Mathlib.Decide.{ℕ_discrete}
use native.Mathlib.Numerals.{add-one}
use native.Mathlib.Omega.{arith}
use lib.Dec.{eqb, ltb}
use lib.ListN.{length, get_or, set, replicate, length-set, length-replicate, get_or-replicate, length-append, get_or-append}
use lib.Seq.{get_or-append_seam, get_or-set_same, get_or-set_other}
use borrow.Author.Tests.{ne_eqb, eqb-false, lt-ltb, le-ltb}
use Rattle.lists.specs.Upto.{from}
use Rattle.lists.specs.Tests.{keep, count}
use Rattle.lists.proofs.Upto.{each-get_or}
use Rattle.lists.proofs.KeptBelow.{count-more, kept-count, kept-hit, kept-miss, kept_at}
use Rattle.table.proofs.Unbonded.{unbonded_tidy, empty_row}
use Rattle.table.specs.declared.rows.Rows.{Rows}
use Rattle.table.specs.View.{TidyTable}
use Rattle.table.specs.Changes.{no_rows}
use Rattle.card.proofs.Faults.{Rest, rest_stop, rest_next}
use Rattle.std.specs.Prelude.{Option, Some, None, Result, Ok, Err}
use Rattle.std.specs.Option.{ok_or}
use Rattle.kinds.specs.Known.{kind_in, known_in}
use Rattle.kinds.proofs.Known.{known_some, known_none}
use Rattle.refusal.specs.declared.Refusal.{Refusal}
use Rattle.drawing.specs.declared.folding.Folding.{Folding}
use Rattle.drawing.specs.Tests.{heavy_in, unknown_tested}
use Rattle.drawing.specs.Folding.{empty_folding, heavies_to, with_kind, KindPut, Bares}
use Rattle.drawing.proofs.CountLaws.{unknown, unknown-start}

-- what `ok_or` was given
given_some : (o : Option ℕ) (r : Refusal) (x : ℕ) → ok_or o r ≡ Ok x → o ≡ Some x
given_some (Some k) r x e = let z : k ≡ x = cc in ap Some z
given_some None r x e = cc

given_none : (o : Option ℕ) (r s : Refusal) → ok_or o r ≡ Err s → (o ≡ None) × (s ≡ r)
given_none (Some k) r s e = cc
given_none None r s e = (refl, cc)

-- an atom's kind, where its symbol is known
pub kind_known : (k : Option ℕ) (r : Refusal) (x : ℕ) → ok_or k r ≡ Ok x → kind_in k ≡ x
kind_known k r x e = ap kind_in (given_some k r x e)

pub kind_unknown : (k : Option ℕ) (r s : Refusal) → ok_or k r ≡ Err s → (kind_in k ≡ 25) × (s ≡ r)
kind_unknown k r s e = let g = given_none k r s e in (ap kind_in g.0, g.1)

-- and where its number is a kind's besides
pub number_known : (k : Option ℕ) (r : Refusal) (x : ℕ) → ok_or (known_in k) r ≡ Ok x → (kind_in k ≡ x) × (x ≤ 24)
number_known k r x e = known_some k x (given_some (known_in k) r x e)

pub number_unknown : (k : Option ℕ) (r s : Refusal) → ok_or (known_in k) r ≡ Err s → (24 < kind_in k) × (s ≡ r)
number_unknown k r s e = let g = given_none (known_in k) r s e in (known_none k g.0, g.1)

-- both of what was looked up, and of what came of it
module _ (k found : Option ℕ) (r : Refusal) (got : Result ℕ Refusal) (f : found ≡ known_in k) (g : got ≡ ok_or found r) where
  looked : (o : Result ℕ Refusal) → got ≡ o → ok_or (known_in k) r ≡ o
  looked o e = ap (λ (x : Option ℕ). ok_or x r) (sym f) ∙ sym g ∙ e

  pub known_given : (x : ℕ) → got ≡ Ok x → (kind_in k ≡ x) × (x ≤ 24)
  known_given x e = number_known k r x (looked (Ok x) e)

  pub unknown_given : (s : Refusal) → got ≡ Err s → (24 < kind_in k) × (s ≡ r)
  unknown_given s e = number_unknown k r s (looked (Err s) e)

module _ (ks : List ℕ) where
  abbrev pub heavy : ℕ → Bool
  heavy p = not (eqb (get_or ks p 0) 0)

  pub heavies_all : length (heavies_to ks (length ks)) ≡ heavy_in ks
  heavies_all = kept-count heavy (length ks) ∙ ap count (each-get_or (λ k. not (eqb k 0)) ks 0)

  pub heavies_low : (i : ℕ) → i ≤ length ks → length (heavies_to ks i) ≤ heavy_in ks
  heavies_low i h = omega (arith, heavies_all, kept-count heavy i, kept-count heavy (length ks), count-more heavy i (length ks) h)

  pub heavies_room : (i : ℕ) → i < length ks → (get_or ks i 0 ≡ 0 → ⊥) → length (heavies_to ks i) < heavy_in ks
  heavies_room i h n = omega (arith, heavies_all, (kept_at heavy (length ks) i h (rw (ne_eqb _ _ n))).0)

  -- the kinds of the places below i that have no H, in their order
  pub record Heavies (i n : ℕ) (own : List ℕ) : Type 0 where
    pub long : length own ≡ 64
    pub size : n ≡ length (heavies_to ks i)
    pub kinds : (a : ℕ) → a < n → get_or own a 0 ≡ get_or ks (get_or (heavies_to ks i) a 0) 0

  pub heavies_start : Heavies 0 0 (replicate 64 0)
  unfolding keep from
  heavies_start = record { long = length-replicate {A = ℕ} 64 0; size = refl; kinds = λ a h. absurd (omega arith) }

  module _ (i n : ℕ) (own : List ℕ) (B : Heavies i n own) (k : ℕ) (e : k ≡ get_or ks i 0) where
    same_places : heavies_to ks (suc i) ≡ heavies_to ks i → Heavies (suc i) n own
    same_places q = record { long = B.long; size = rw q B.size; kinds = λ a l. rw q (B.kinds a l) }

    new_place : heavies_to ks (suc i) ≡ heavies_to ks i ++ (i ∷ []) → n < 64 → Heavies (suc i) (n + 1) (set own n k)
    new_place q l = record {
      long = length-set own n k ∙ B.long;
      size = rw q (omega (arith, B.size, length-append (heavies_to ks i) (i ∷ [])));
      kinds = λ a m. rw q (pick a m (ℕ_discrete a n));
    }
      where
        pick : (a : ℕ) → a < n + 1 → Dec (a ≡ n) → get_or (set own n k) a 0 ≡ get_or ks (get_or (heavies_to ks i ++ (i ∷ [])) a 0) 0
        pick a m (yes z) =
            rw z (get_or-set_same own n k 0 (omega (arith, B.long)) ∙ e ∙ ap (λ (p : ℕ). get_or ks p 0) (sym (rw B.size (get_or-append_seam (heavies_to ks i) i [] 0))))
        pick a m (no z) =
            get_or-set_other own n a k 0 z ∙ B.kinds a (omega arith)
            ∙ ap (λ (p : ℕ). get_or ks p 0) (sym (get_or-append (heavies_to ks i) (i ∷ []) 0 a (omega (arith, B.size))))

    pub heavies_miss : eqb k 0 ≡ true → Heavies (suc i) n own
    heavies_miss f = same_places (kept-miss heavy i (rw (sym (ap (λ (x : ℕ). eqb x 0) e) ∙ f)))

    pub heavies_hit : eqb k 0 ≡ false → n < 64 → Heavies (suc i) (n + 1) (set own n k)
    heavies_hit f room = new_place (kept-hit heavy i (rw (sym (ap (λ (x : ℕ). eqb x 0) e) ∙ f))) room

  -- the numbers by place, one more
  pub numbered_more : (l : List ℕ) (p x : ℕ) → p < length l → x ≡ length (heavies_to ks p) → ((q : ℕ) → q < p → get_or l q 0 ≡ length (heavies_to ks q))
      → (q : ℕ) → q < p + 1 → get_or (set l p x) q 0 ≡ length (heavies_to ks q)
  numbered_more l p x h e f q k = pick (ℕ_discrete q p)
    where
      pick : Dec (q ≡ p) → get_or (set l p x) q 0 ≡ length (heavies_to ks q)
      pick (yes z) = rw z (get_or-set_same l p x 0 h ∙ e)
      pick (no z) = get_or-set_other l p q x 0 z ∙ f q (omega arith)

  -- the atoms at the places below p put into a table that was empty, and no fault before p
  pub record AtomsTo (p : ℕ) (f : Folding) : Type 0 where
    pub heavies : Heavies p f.table.n f.table.kinds
    pub hydrogens : f.table.hydrogens ≡ replicate 64 0
    pub rows : f.table.rows ≡ no_rows
    pub used : f.used ≡ replicate 999 false
    pub long : length f.numbers ≡ 999
    pub numbers : (q : ℕ) → q < p → get_or f.numbers q 0 ≡ length (heavies_to ks q)
    pub rest : unknown_tested ks ≡ Rest (unknown ks) (length ks) p

  pub atoms_start : AtomsTo 0 empty_folding
  atoms_start = record {
    heavies = heavies_start;
    hydrogens = refl;
    rows = refl;
    used = refl;
    long = length-replicate {A = ℕ} 999 0;
    numbers = λ q h. absurd (omega arith);
    rest = unknown-start ks;
  }

  module _ (p : ℕ) (f : Folding) (A : AtomsTo p f) (h : p < length ks) (few : heavy_in ks ≤ 64) where
    pub atoms_few : f.table.n ≤ 64
    atoms_few = omega (arith, A.heavies.size, few, heavies_low p (omega arith))

    pub atoms_room : (k : ℕ) → k ≡ get_or ks p 0 → (k ≡ 0 → ⊥) → f.table.n < 64
    atoms_room k e n = omega (arith, A.heavies.size, few, heavies_room p h (λ z. n (e ∙ z)))

    pub atoms_stop : 24 < get_or ks p 0 → 3 ≡ unknown_tested ks
    atoms_stop l =
        let g : ltb 24 (get_or ks p 0) ≡ true = lt-ltb 24 _ l in
        sym (A.rest ∙ rest_stop (unknown ks) (length ks) p h (λ z. let y = simp g at z in omega arith) ∙ rw g)

    module _ (long-enough : length ks ≤ 999) (k : ℕ) (e : k ≡ get_or ks p 0) (low : k ≤ 24) where
      next_rest : unknown_tested ks ≡ Rest (unknown ks) (length ks) (p + 1)
      next_rest =
          let g : ltb 24 (get_or ks p 0) ≡ false = le-ltb 24 (get_or ks p 0) (omega arith) in
          A.rest ∙ rest_next (unknown ks) (length ks) p h (rw g)

      -- with the number of the place, and then its kind
      pub atoms_next : (f' : Folding) → KindPut k (record f { numbers = set f.numbers p f.table.n }) f' → AtomsTo (p + 1) f'
      atoms_next f' q = go (eqb k 0) refl
        where
          g : Folding
          g = record f { numbers = set f.numbers p f.table.n }

          more : (q : ℕ) → q < p + 1 → get_or (set f.numbers p f.table.n) q 0 ≡ length (heavies_to ks q)
          more = numbered_more f.numbers p f.table.n (omega (arith, A.long, long-enough)) A.heavies.size A.numbers

          go : (b : Bool) → eqb k 0 ≡ b → AtomsTo (p + 1) f'
          go true r =
              subst (AtomsTo (p + 1)) (sym (q ∙ ap (λ (b : Bool). record g { table = cond b g.table (with_kind k g.table) }) r))
              (record {
                heavies = rw (add-one p) (heavies_miss p f.table.n f.table.kinds A.heavies k e r);
                hydrogens = A.hydrogens;
                rows = A.rows;
                used = A.used;
                long = length-set f.numbers p f.table.n ∙ A.long;
                numbers = more;
                rest = next_rest;
              })
          go false r =
              subst (AtomsTo (p + 1)) (sym (q ∙ ap (λ (b : Bool). record g { table = cond b g.table (with_kind k g.table) }) r))
              (record {
                heavies = rw (add-one p) (heavies_hit p f.table.n f.table.kinds A.heavies k e r (atoms_room k e (eqb-false _ _ r)));
                hydrogens = A.hydrogens;
                rows = A.rows;
                used = A.used;
                long = length-set f.numbers p f.table.n ∙ A.long;
                numbers = more;
                rest = next_rest;
              })

  -- the atoms put, whatever their kinds
  pub heavies_bare : (f : Folding) → f.table.n ≤ 64 → Heavies (length ks) f.table.n f.table.kinds → f.table.hydrogens ≡ replicate 64 0 → f.table.rows ≡ no_rows
      → f.used ≡ replicate 999 false → ((p : ℕ) → p < length ks → get_or f.numbers p 0 ≡ length (heavies_to ks p)) → Bares ks f
  heavies_bare f small B eh er eu N = record {
    tidy =
        subst TidyTable (λ i. record { n = f.table.n; kinds = f.table.kinds; hydrogens = sym eh i; rows = sym er i })
        (unbonded_tidy f.table.n f.table.kinds (replicate 64 0) small B.long (length-replicate {A = ℕ} 64 0));
    size = B.size;
    kinds = B.kinds;
    hydrogens = λ a h. ap (λ (l : List ℕ). get_or l a 0) eh ∙ empty_row a (omega (arith, small));
    degrees = λ a h. ap (λ (R : Rows). get_or R.degrees a 0) er ∙ empty_row a (omega (arith, small));
    numbers = N;
    long = ap length eu ∙ length-replicate {A = Bool} 999 false;
    unused = λ p h. ap (λ (l : List Bool). get_or l p false) eu ∙ get_or-replicate {A = Bool} 999 p false false h;
  }

  pub atoms_done : (f : Folding) → heavy_in ks ≤ 64 → AtomsTo (length ks) f → Bares ks f
  atoms_done f few A =
      heavies_bare f (omega (arith, A.heavies.size, few, heavies_all)) A.heavies A.hydrogens A.rows A.used A.numbers

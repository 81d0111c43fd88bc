-- The reader follows the writer, limits aside: after the items written so far it has the atoms and bonds written so far.
use mathlib.Core.Path.{◌≡◌, refl, sym, ap, ◌∙◌, subst}
use mathlib.Core.Bool.{Bool, true, false}
use mathlib.Core.List.{List, [], ◌∷◌, ◌++◌, map, map-append, append-nil}
use mathlib.Core.Logic.{◌≢◌}
use Prim.Native.Nat.{ℕ, zero, suc, ◌<◌, ◌≤◌}
use native.Mathlib.Nat.{not-suc-le-zero}
use native.Mathlib.Omega.{arith}
use lib.ListN.{length, get_or, length-map, get_or-map}
use lib.Dec.{eqb}
use borrow.Author.Tests.{ne_eqb, le-ltb, eqb-true}
use Rattle.molecule.specs.Molecule.{Molecule}
use Rattle.molecule.proofs.Sound.{Sound}
use Rattle.sling.specs.Items.{at, atom, reference, ring}
use Rattle.sling.specs.Reading.{State, start, after}
use Rattle.sling.specs.Walk.{kind_at, code_at, Written, place_in, first, written}
use Rattle.sling.proofs.Walks.{Marked, Clear, Walk, here, step, walk_snoc}
use Rattle.sling.proofs.Tidy.{h_at, reader_start, reader_walk}
use Rattle.sling.proofs.Clear.{reference-clear, atom-clear, h_clear, ring-clear}
use Rattle.sling.proofs.Places.{On, rank_at, places-differ}
use Rattle.sling.proofs.Strokes.{said, put_at, Rank, Near, Keeps}
use Rattle.sling.proofs.Finished.{written_keeps}

-- what soundness says of ranks
module _ (W : Molecule) (S : Sound W) where
  pub kind-low : (r : ℕ) → Rank W r → 0 < kind_at W r
  kind-low zero q = absurd (not-suc-le-zero q.low)
  kind-low (suc a) q = S.low a q.high

  pub kind-known : (r : ℕ) → Rank W r → kind_at W r ≤ 24
  kind-known zero q = absurd (not-suc-le-zero q.low)
  kind-known (suc a) q = S.known a q.high

  pub near_apart : (r s : ℕ) → Near W r s → r ≡ s → ⊥
  near_apart zero s n e = not-suc-le-zero n.one.low
  near_apart (suc a) zero n e = not-suc-le-zero n.two.low
  near_apart (suc a) (suc b) n e =
      let z : a ≡ b = omega arith in
      n.code (ap (W.code a) (sym z) ∙ S.apart a n.one.high)

  pub near-mark : (r s : ℕ) → Near W r s → Marked (code_at W r s)
  near-mark zero s n = absurd (not-suc-le-zero n.one.low)
  near-mark (suc a) zero n = absurd (not-suc-le-zero n.two.low)
  near-mark (suc a) (suc b) n =
      let c : W.code a b ≢ 0 = n.code in
      let k = S.codes a b n.one.high n.two.high in
      omega arith

-- what the reader has when the writer has w and the cursor is at p
abbrev pub read_at : Molecule → Written → List ℕ → ℕ → State
read_at W w us p = record { kinds = map (kind_at W) w.ranks; ups = us; bonds = w.bonds; cursor = p }

abbrev pub reader_of : Molecule → Written → List ℕ → State
reader_of W w us = read_at W w us w.cursor

pub record Follows (W : Molecule) (w : Written) : Type 0 where
  pub ups : List ℕ
  pub walk : Walk start w.items (reader_of W w ups)

pub kind-at : (W : Molecule) (l : List ℕ) (p : ℕ) → get_or (map (kind_at W) l) p 0 ≡ kind_at W (get_or l p 0)
kind-at W l p = get_or-map (kind_at W) l p 0

after-atom : (W : Molecule) (w : Written) (us : List ℕ) (r s m : ℕ) → On w.ranks r
    → after (read_at W w us (place_in w.ranks r)) (atom m (kind_at W s)) ≡ reader_of W (put_at r s (kind_at W s) m w) (us ++ (place_in w.ranks r ∷ []))
unfolding after
after-atom W w us r s m h = simp (length-map, map-append, ne_eqb (length w.ranks) 0 (λ e. omega arith))

module _ (W : Molecule) (S : Sound W) where
  pub heavy-at : (w : Written) (r : ℕ) → Rank W r → On w.ranks r → h_at (map (kind_at W) w.ranks) (place_in w.ranks r) ≡ false
  heavy-at w r q h =
      rw (kind-at W w.ranks (place_in w.ranks r), rank_at w.ranks r h) (ne_eqb (kind_at W r) 0 (λ e. omega (arith, kind-low W S r q)))

  there : (w : Written) (p : ℕ) → p < length w.ranks → p < length (map (kind_at W) w.ranks)
  there w p h = rw (length-map w.ranks (kind_at W)) h

  -- the cursor goes to the atom that is served
  served : (w : Written) (r : ℕ) → On w.ranks r → (f : Follows W w) → Walk start (w.items ++ said r w) (read_at W w f.ups (place_in w.ranks r))
  unfolding after
  served w r h f = pick (eqb w.cursor (place_in w.ranks r)) refl
    where
      pick : (b : Bool) → eqb w.cursor (place_in w.ranks r) ≡ b → Walk start (w.items ++ said r w) (read_at W w f.ups (place_in w.ranks r))
      pick true e =
          let z : w.cursor ≡ place_in w.ranks r = eqb-true _ _ e in
          simp (e, append-nil) (subst (λ (p : ℕ). Walk start w.items (read_at W w f.ups p)) z f.walk)
      pick false e = simp e (walk_snoc (reference (at (place_in w.ranks r))) f.walk (reference-clear _ (place_in w.ranks r) (there w (place_in w.ranks r) h)))

  put-follows : (w : Written) (r s m : ℕ) → On w.ranks r → (f : Follows W w) → Clear (read_at W w f.ups (place_in w.ranks r)) (atom m (kind_at W s))
      → Follows W (put_at r s (kind_at W s) m w)
  put-follows w r s m h f c =
      record {
        ups = f.ups ++ (place_in w.ranks r ∷ []);
        walk = subst (Walk start (w.items ++ said r w ++ (atom m (kind_at W s) ∷ []))) (after-atom W w f.ups r s m h) (walk_snoc (atom m (kind_at W s)) (served w r h f) c);
      }

  follows_keeps : Keeps W (Follows W)
  unfolding after
  follows_keeps =
      record {
        hydrogen = λ r w q h f.
            let v = reader_walk (served w r h f) reader_start in
            put-follows w r 0 1 h f (h_clear _ (there w _ h) (heavy-at w r q h) v.tidy.proper);
        onward = λ r s w n h k f.
            put-follows w r s (code_at W r s) h f
            (atom-clear _ (code_at W r s) (kind_at W s) (there w _ h) (heavy-at w r n.one h) (kind-low W S s n.two) (kind-known W S s n.two) (near-mark W S r s n));
        back = λ r s w n h k u f.
            record {
              ups = f.ups;
              walk = walk_snoc (ring (code_at W r s) (at (place_in w.ranks s))) (served w r h f)
                  (ring-clear (read_at W w f.ups (place_in w.ranks r)) (code_at W r s) (place_in w.ranks s) (there w _ k)
                  (heavy-at w r n.one h) (heavy-at w s n.two k)
                  (places-differ w.ranks r s h k (near_apart W S r s n)) u (near-mark W S r s n));
            };
      }

  first-clear : Clear start (atom 1 (kind_at W 1))
  first-clear =
      record {
        two = refl;
        three = le-ltb 24 (kind_at W 1) (kind-known W S 1 (record { low = omega arith; high = S.some }));
        five = refl;
        seven = refl;
        six = refl;
        mark = omega arith;
      }

  first-follows : Follows W (first W)
  unfolding after
  first-follows =
      record {
        ups = 0 ∷ [];
        walk = step first-clear here;
      }

  -- the reader, limits aside, reads what is written, and has then the atoms in the order written
  pub written-follows : Follows W (written W)
  written-follows = written_keeps W S.some (Follows W) follows_keeps first-follows

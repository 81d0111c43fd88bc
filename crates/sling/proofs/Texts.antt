-- Whatever text is accepted, the molecule folded from it is sound.
use mathlib.Core.Path.{◌≡◌, refl}
use mathlib.Core.Bool.{Bool, true, false, cond}
use mathlib.Core.List.{List, Memᴰ}
use Prim.Native.Nat.{ℕ, ◌≤◌}
use native.Mathlib.Omega.{arith}
use lib.ListN.{length, get_or}
use lib.Dec.{eqb, ltb}
use borrow.Author.Tests.{eqb-false}
use Rattle.lists.proofs.All.{all_mem, all_get_d}
use Rattle.molecule.specs.Bonds.{Bond}
use Rattle.molecule.proofs.Sound.{Sound}
use Rattle.molecule.proofs.BondLists.{code_in-swap, code_in-le, code_in-self}
use Rattle.sling.specs.Scanned.{tokens}
use Rattle.sling.specs.Reading.{State, start, is_h}
use Rattle.sling.specs.Faults.{Outcome, stopped, finished, run}
use Rattle.sling.specs.Folded.{heavy_places, folded, lone_h, ended, read_text}
use Rattle.sling.proofs.Walks.{stopped-not, run-walk}
use Rattle.sling.proofs.Tidy.{Proper, Tidy, reader_start, reader_walk, first-joined}
use Rattle.sling.proofs.Folds.{second, place-heavy}
use Rattle.sling.proofs.Limits.{room-start, kept-room}
use Rattle.sling.proofs.Fits.{Fits, room_fits, atom-at}
use Rattle.sling.proofs.Marks.{tokens-marked}
use Rattle.sling.proofs.Rooted.{joined-heavy, folded-linked}

module _ (st : State) (t : Tidy st.kinds st.bonds) (lone : lone_h st ≡ false) where
  -- a place that is no H
  heavy-place : (p : ℕ) × (is_h st p ≡ false)
  heavy-place = pick (is_h st 0) refl
    where
      pick : (b : Bool) → is_h st 0 ≡ b → (p : ℕ) × (is_h st p ≡ false)
      pick false e = (0, e)
      pick true e =
          (1, joined-heavy st t 0 1 (first-joined t (second st.kinds st.bonds (eqb-false _ _ (simp e at lone)) t.proper)) e)

  pub folded-sound : Fits (folded st) → Sound (folded st)
  unfolding folded
  folded-sound F =
      record {
        some = let w = atom-at st heavy-place.0 heavy-place.1 in omega (arith, w.1);
        atoms = F.atoms;
        labels = λ a h. refl;
        low = λ a h. let n : get_or st.kinds (get_or (heavy_places st) a 0) 0 ≡ 0 → ⊥ = eqb-false _ 0 (place-heavy st t a h) in omega arith;
        known = λ a h. all_get_d (λ k. k ≤ 24) st.kinds 0 t.known (omega arith) (get_or (heavy_places st) a 0);
        few = F.few;
        hydrogens = F.hydrogens;
        codes = λ a b h k. code_in-le st.bonds (get_or (heavy_places st) a 0) (get_or (heavy_places st) b 0) 4 (λ c m. (proper c m).mark.1);
        apart = λ a h. code_in-self st.bonds (get_or (heavy_places st) a 0) (λ c m. (proper c m).apart);
        even = λ a b h k. code_in-swap st.bonds (get_or (heavy_places st) a 0) (get_or (heavy_places st) b 0);
        degrees = F.degrees;
        bonds = F.bonds;
        linked = folded-linked st t;
      }
    where
      proper : (b : Bond) → Memᴰ b st.bonds → Proper st.kinds b
      proper = all_mem (Proper st.kinds) st.bonds t.proper

-- a text that is accepted was run to its end, and there was no H alone
ended-run : (o : Outcome) (n : ℕ) (st : State) → ended o n ≡ finished st → (o ≡ finished st) × (lone_h st ≡ false)
ended-run (stopped m p) n st e = stopped-not m p st e
ended-run (finished sv) n st e = pick (lone_h sv) refl e
  where
    pick : (b : Bool) → lone_h sv ≡ b → cond b (stopped 7 n) (finished sv) ≡ finished st → (finished sv ≡ finished st) × (lone_h st ≡ false)
    pick true f g = stopped-not 7 n st g
    pick false f g = let z : sv ≡ st = cc in (g, rw (← z) f)

read-run : (s : List ℕ) (st : State) → read_text s ≡ finished st → (run (tokens s 0 0) start ≡ finished st) × (lone_h st ≡ false)
unfolding read_text
read-run s st e = pick (eqb (length s) 0) (ltb 4096 (length s)) e
  where
    pick : (a b : Bool) → cond a (stopped 1 0) (cond b (stopped 4 0) (ended (run (tokens s 0 0) start) (length s))) ≡ finished st
        → (run (tokens s 0 0) start ≡ finished st) × (lone_h st ≡ false)
    pick true b f = stopped-not 1 0 st f
    pick false true f = stopped-not 4 0 st f
    pick false false f = ended-run (run (tokens s 0 0) start) (length s) st f

-- WHATEVER TEXT IS ACCEPTED, ITS MOLECULE IS SOUND
pub read-sound : (s : List ℕ) (st : State) → read_text s ≡ finished st → Sound (folded st)
read-sound s st e =
    let r = read-run s st e in
    let a = run-walk (tokens s 0 0) start st (tokens-marked s 0 0) r.0 in
    let t = (reader_walk a.walk reader_start).tidy in
    folded-sound st t r.1 (room_fits st t r.1 (kept-room a.walk a.kept reader_start room-start))

-- The changes of a state are those that the rules say: what each function that makes one gives, put together.
use Prim.Native.Nat.{ℕ, ◌<◌}
use mathlib.Core.Path.{◌≡◌, refl, sym, ap, subst, ◌∙◌}
use native.Mathlib.Omega.{arith}
use lib.ListN.{length}
use Rattle.sling.specs.Items.{at, atom, reference, ring}
use Rattle.sling.specs.Reading as rules
use Rattle.text.specs.declared.item.Place.{Place}
use Rattle.text.specs.declared.state.State.{State}
use Rattle.text.specs.Holding.{view_of, Tallied, Held, Drawable, grown_by, moved_to, bonded_by}
use Rattle.text.specs.Changing.{moved, grown, bonded, Growable, Bondable, Continues, Follows}
use Rattle.text.proofs.ReachedLaws.{reached-room}
use Rattle.text.proofs.StateLaws.{grown_held, bonded-held, moved-held, view_places}
use Rattle.text.proofs.AfterLaws.{held_by, more_places, first-after, later_after, grown_drawable, reference-there, reference-after, ring-after, ring-drawable}

bondable : (st : State) → Tallied st → (p : ℕ) → Drawable st p → Bondable st p
bondable st T p D =
    record {
      placed_long = T.placed_long;
      links_long = T.links_long;
      drawn = D.bonds;
      heavy = D.heavy;
      from = omega (arith, D.from, T.places);
      to = omega (arith, D.to, T.places);
      apart = D.apart;
      few_h = omega (arith, D.few_h);
      few_h' = omega (arith, D.few_h');
      few = D.few;
      few' = D.few';
    }

-- a ring bond, and a reference
module _ (st : State) (p : Place) where
  module _ (code : ℕ) (C : Continues st (ring code (at p.0))) where
    pub ring-bondable : Bondable st p.0
    ring-bondable = bondable st C.held.tallied p.0 (ring-drawable st C.held (at p.0) code C.judged p.0 refl)

    pub ring-follows : Follows st (ring code (at p.0)) (bonded p code st)
    ring-follows =
        let H = C.held in
        let B = bonded-held st p code H.tallied (ring-drawable st H (at p.0) code C.judged p.0 refl) in
        let q = B.0 ∙ ring-after st H (at p.0) code C.judged in
        record { is = q; held = held_by _ _ _ B.1 q H.reached C.judged }

  pub reference-follows : Continues st (reference (at p.0)) → Follows st (reference (at p.0)) (moved p st)
  reference-follows C =
      let H = C.held in
      let M = moved-held st p H.tallied (reference-there st H (at p.0) C.judged).1 in
      let z = M.0 ∙ reference-after st H (at p.0) in
      record { is = z; held = held_by _ _ _ M.1 z H.reached C.judged }

-- an atom more, and then the cursor moved to the first or a bond drawn to a later one
module _ (st : State) (code kind : ℕ) (C : Continues st (atom code kind)) where
  H : Held st
  H = C.held

  long : length (view_of st).kinds ≡ st.n
  long = view_places st

  pub room : st.n < 192
  room = omega (arith, long, more_places (view_of st) code kind H.reached C.judged)

  pub growable : Growable st
  growable =
      let M = reached-room (view_of st) H.reached in
      let T = H.tallied in
      record {
        long = T.placed_long;
        places = room;
        cursor = T.cursor;
        atoms = omega (arith, M.atoms, T.heavy_atoms);
        total = omega (arith, M.hydrogens, T.hydrogen_atoms);
      }

  abbrev more : State
  more = grown kind st

  grown_state : (view_of more ≡ grown_by (view_of st) kind) × Tallied more
  grown_state = grown_held st kind H room

  module _ (to : Place) (p : to.0 ≡ st.n) where
    pub first-follows : to.0 ≡ 0 → Follows st (atom code kind) (moved to (grown kind st))
    first-follows z =
        let M = moved-held more to grown_state.1 (omega arith) in
        let q = M.0 ∙ ap (λ (x : ℕ). moved_to (view_of more) x) z ∙ ap (λ (s : rules.State). moved_to s 0) grown_state.0
        ∙ first-after (view_of st) code kind H.reached C.judged (long ∙ sym p ∙ z) in
        record { is = q; held = held_by _ _ _ M.1 q H.reached C.judged }

    module _ (later : to.0 ≡ 0 → ⊥) where
      drawable : Drawable more to.0
      drawable =
          subst (Drawable more) (long ∙ sym p)
          (grown_drawable (view_of st) code kind H.reached C.judged (λ q. later (p ∙ sym long ∙ q)) more grown_state.1 grown_state.0)

      pub later_bondable : Bondable (grown kind st) to.0
      later_bondable = bondable more grown_state.1 to.0 drawable

      pub later_follows : Follows st (atom code kind) (bonded to code (grown kind st))
      later_follows =
          let B = bonded-held more to code grown_state.1 drawable in
          let q = B.0 ∙ ap (λ (s : rules.State). bonded_by s to.0 code) grown_state.0 ∙ ap (λ (x : ℕ). bonded_by (grown_by (view_of st) kind) x code) (p ∙ sym long)
          ∙ later_after (view_of st) code kind H.reached C.judged (λ z. later (p ∙ sym long ∙ z)) in
          record { is = q; held = held_by _ _ _ B.1 q H.reached C.judged }

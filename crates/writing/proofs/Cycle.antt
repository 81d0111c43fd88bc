-- What the two functions of the cycle need: the state that each call finds, and the one that it leaves.
use mathlib.Core.Bool.{Bool, true, false, cond}
use mathlib.Core.List.{List, [], ◌∷◌}
use mathlib.Core.Path.{◌≡◌, refl, sym, ap, ◌∙◌, subst}
use Prim.Native.Nat.{ℕ, zero, suc, ◌+◌, ◌*◌, ◌-◌, ◌<◌, ◌≤◌}
use native.Mathlib.Omega.{arith}
use lib.ListN.{length, get_or, set, take, drop, take-append-drop}
use borrow.Author.Tests.{lt-ltb, ltb-true, ltb-false}
use Rattle.molecule.specs.Molecule.{Molecule}
use Rattle.sling.specs.Walk.{kind_at, hydrogens_at, neighbours_at, code_at, Written, place_in, is_written, is_traced, serve, put, close, put_hs, trace, traces, finish}
use Rattle.sling.proofs.Places.{On, on-new, place-new}
use Rattle.sling.proofs.Strokes.{put_at, put-served, close-served}
use Rattle.std.specs.Prelude.{Option, Some, None}
use Rattle.std.proofs.lemmas.List.{get_or_default}
use Rattle.table.specs.declared.Table.{Table}
use Rattle.writing.specs.declared.Served.{Served}
use Rattle.writing.specs.declared.strokes.Pen.{Pen}
use Rattle.writing.specs.declared.walk.Sheet.{Sheet}
use Rattle.writing.specs.Shown.{size, At, held, Lettered, Noted, marked}
use Rattle.writing.specs.Walked.{Lent, Shows, Finishing, Tracing}
use Rattle.writing.proofs.Further.{further_serve, serve_before-put, serve_before-close, further_hs, further_traces, further_finish, traces-append}
use Rattle.writing.proofs.Notes.{noted_put, noted_close, noted_hs}
use Rattle.writing.proofs.Rows.{row_next, row-end}

-- what the places say of an atom
cond-some : (b : Bool) (p q : ℕ) → cond b (Some p) None ≡ Some q → (b ≡ true) × (p ≡ q)
cond-some true p q e = (refl, cc)
cond-some false p q e = cc

cond-none : (b : Bool) (p : ℕ) → cond b (Some p) None ≡ None → b ≡ false
cond-none true p e = cc
cond-none false p e = refl

module _ (n : ℕ) (s : Sheet) (w : Written) (S : Shows n s w) (a : ℕ) (h : a < n) where
  -- z is what a place past the last would be
  kept : n ≤ 64 → (z : Option ℕ) → get_or s.places a z ≡ held w.ranks (suc a)
  kept k z = get_or_default s.places a z None (omega (arith, S.notes.places_long)) ∙ S.notes.place a h

  pub found : n ≤ 64 → (z : Option ℕ) (q : ℕ) → get_or s.places a z ≡ Some q → At w (suc a) q
  found k z q e =
      let r = cond-some (is_written w (suc a)) (place_in w.ranks (suc a)) q (sym (kept k z) ∙ e) in
      (r.0, sym r.1)

  pub missing : n ≤ 64 → (z : Option ℕ) → get_or s.places a z ≡ None → is_written w (suc a) ≡ false
  missing k z e = cond-none (is_written w (suc a)) (place_in w.ranks (suc a)) (sym (kept k z) ∙ e)

-- the three ways of a bond
module _ (f : ℕ → Written → Written) (W : Molecule) (r s : ℕ) (w : Written) where
  trace-done : is_traced w r s ≡ true → trace f W r s w ≡ w
  unfolding trace
  trace-done e = simp e

  trace-back : is_traced w r s ≡ false → is_written w s ≡ true → trace f W r s w ≡ close s (code_at W r s) (serve r w)
  unfolding trace
  trace-back e k = simp (e, k)

  trace-onward : is_traced w r s ≡ false → is_written w s ≡ false → trace f W r s w ≡ f s (put s (kind_at W s) (code_at W r s) (serve r w))
  unfolding trace
  trace-onward e k = simp (e, k)

module _ (t : Table) (s : Sheet) (v : Served) (k d : ℕ) (W : Molecule) (w : Written) (T : Tracing t s v k d W w) where
  abbrev a : ℕ
  a = v.atom.0

  abbrev next : ℕ
  next = get_or t.rows.near (6 * a + k) 0

  abbrev code : ℕ
  code = get_or t.rows.codes (6 * a + k) 0

  pub next-atom : next < W.size
  next-atom = T.lent.inside a k T.atom T.slot

  pub trace-there : (z : Option ℕ) (q : ℕ) → get_or s.places next z ≡ Some q → At w (suc next) q
  trace-there = found W.size s w T.shown next next-atom T.lent.atoms

  bond-is : get_or s.traced (64 * a + next) false ≡ is_traced w (suc a) (suc next)
  bond-is = T.shown.notes.bond a next T.atom next-atom

  code_is : code_at W (suc a) (suc next) ≡ code
  code_is = T.lent.code_of a k T.atom T.slot

  kind-is : kind_at W (suc next) ≡ get_or t.kinds next 0
  kind-is = T.lent.kind_of next next-atom

  pub shows_done : get_or s.traced (64 * a + next) false ≡ true → Shows W.size s (trace (finish d W) W (suc a) (suc next) w)
  shows_done e = subst (Shows W.size s) (sym (trace-done (finish d W) W (suc a) (suc next) w (sym bond-is ∙ e))) T.shown

  module _ (u : get_or s.traced (64 * a + next) false ≡ false) where
    open_bond : is_traced w (suc a) (suc next) ≡ false
    open_bond = sym bond-is ∙ u

    -- the atom's place comes first, on either way
    pub here_room : size (serve (suc a) w) ≤ 2048
    here_room = pick (is_written w (suc next)) refl
      where
        pick : (b : Bool) → is_written w (suc next) ≡ b → size (serve (suc a) w) ≤ 2048
        pick true e =
            serve_before-close _ _ _ w (subst (λ (z : Written). size z ≤ 2048) (trace-back (finish d W) W (suc a) (suc next) w open_bond e) T.room)
        pick false e =
            let h = subst (λ (z : Written). size z ≤ 2048) (trace-onward (finish d W) W (suc a) (suc next) w open_bond e) T.room in
            let v' = put (suc next) (kind_at W (suc next)) (code_at W (suc a) (suc next)) (serve (suc a) w) in
            let f = (further_finish d W (suc next) v').more in
            let g : size v' ≤ 2048 = omega arith in
            serve_before-put _ _ _ _ w g

    -- the neighbour is written: a ring
    module _ (z : Option ℕ) (q : ℕ) (e : get_or s.places next z ≡ Some q) where
      abbrev ringed : Written
      ringed = close (suc next) code (serve (suc a) w)

      back_is : trace (finish d W) W (suc a) (suc next) w ≡ ringed
      back_is =
          trace-back (finish d W) W (suc a) (suc next) w open_bond (trace-there z q e).0 ∙ ap (λ (m : ℕ). close (suc next) m (serve (suc a) w)) code_is

      pub back_there : At (serve (suc a) w) (suc next) q
      back_there = (further_serve (suc a) w).kept (suc next) q (trace-there z q e)

      pub back_room : size ringed ≤ 2048
      back_room = subst (λ (z : Written). size z ≤ 2048) back_is T.room

      pub shows_back : (p : Pen) (tr : List Bool) → tr ≡ marked s.traced a next → Lettered p ringed
          → Shows W.size (record { pen = p; places = s.places; traced = tr }) (trace (finish d W) W (suc a) (suc next) w)
      shows_back p tr g l =
          subst (Shows W.size (record { pen = p; places = s.places; traced = tr })) (sym back_is)
          (record {
            text = l;
            notes =
                rw g
                (subst (Noted W.size s.places (marked s.traced a next)) (sym (close-served (suc a) (suc next) code w))
                (noted_close W.size T.lent.atoms s.places s.traced w T.shown.notes a next code T.atom next-atom
                (ltb-true _ _ T.on.0) (ltb-true _ _ (trace-there z q e).0)));
          })

    -- it is not: it is put, and finished
    module _ (z : Option ℕ) (e : get_or s.places next z ≡ None) (y : ℕ) where
      abbrev x : ℕ
      x = get_or t.kinds next y

      new_kind : kind_at W (suc next) ≡ x
      new_kind = kind-is ∙ get_or_default t.kinds next 0 y (omega (arith, next-atom, T.lent.atoms, T.lent.kinds_long))

      pub onward-known : ((b : ℕ) → b < W.size → get_or t.kinds b 0 ≤ 24) → x ≤ 24
      onward-known known = omega (arith, kind-is, new_kind, known next next-atom)

      abbrev branched : Written
      branched = put (suc next) x code (serve (suc a) w)

      new_atom : is_written w (suc next) ≡ false
      new_atom = missing W.size s w T.shown next next-atom T.lent.atoms z e

      pub onward_is : trace (finish d W) W (suc a) (suc next) w ≡ finish d W (suc next) branched
      onward_is =
          trace-onward (finish d W) W (suc a) (suc next) w open_bond new_atom
          ∙ ap (λ (z : ℕ). finish d W (suc next) (put (suc next) z (code_at W (suc a) (suc next)) (serve (suc a) w))) new_kind
          ∙ ap (λ (m : ℕ). finish d W (suc next) (put (suc next) x m (serve (suc a) w))) code_is

      onward_fits : size (finish d W (suc next) branched) ≤ 2048
      onward_fits = subst (λ (z : Written). size z ≤ 2048) onward_is T.room

      pub onward_room : size branched ≤ 2048
      onward_room = let m = (further_finish d W (suc next) branched).more in omega (arith, onward_fits)

      pub onward_ready : (p : Pen) (tr : List Bool) → tr ≡ marked s.traced a next → Lettered p branched
          → Finishing t (record { pen = p; places = set s.places next (Some p.cursor); traced = tr }) (record { atom = record { 0 = next }; place = p.cursor }) d W branched
      onward_ready p tr g l =
          record {
            lent = T.lent;
            shown = record { text = l; notes = notes };
            atom = next-atom;
            on = on;
            room = onward_fits;
          }
        where
          served : branched ≡ put_at (suc a) (suc next) x code w
          served = put-served (suc a) (suc next) x code w

          off : On w.ranks (suc next) → ⊥
          off o = let n : length w.ranks ≤ place_in w.ranks (suc next) = ltb-false _ _ new_atom in omega arith

          at_end : p.cursor ≡ length w.ranks
          at_end = l.cursor ∙ ap (λ (z : Written). z.cursor) served

          on : At branched (suc next) p.cursor
          on =
              subst (λ (z : Written). At z (suc next) p.cursor) (sym served)
              (lt-ltb _ _ (on-new w.ranks (suc next)), at_end ∙ sym (place-new w.ranks (suc next) off))

          notes : Noted W.size (set s.places next (Some p.cursor)) tr branched
          notes =
              rw (g, at_end)
              (subst (Noted W.size (set s.places next (Some (length w.ranks))) (marked s.traced a next)) (sym served)
              (noted_put W.size T.lent.atoms s.places s.traced w T.shown.notes a next x code T.atom next-atom (ltb-true _ _ T.on.0) off))

-- an atom without depth
pub finish-none : (n d : ℕ) (s : Sheet) (W : Molecule) (r : ℕ) (w : Written) → d ≡ 0 → Shows n s w → Shows n s (finish d W r w)
unfolding finish
finish-none n zero s W r w e S = S
finish-none n (suc d) s W r w e S = absurd (omega arith)

-- the state at the loop over the neighbours, to a depth of d
pub record Going (t : Table) (s : Sheet) (v : Served) (d : ℕ) (W : Molecule) (w : Written) : Type 0 where
  pub lent : Lent t W
  pub shown : Shows W.size s w
  pub atom : v.atom.0 < W.size
  pub on : At w (suc v.atom.0) v.place
  pub room : size (traces (finish d W) W (suc v.atom.0) (neighbours_at W (suc v.atom.0)) w) ≤ 2048

finish-is : (d : ℕ) (W : Molecule) (r : ℕ) (w : Written) → (d ≡ 0 → ⊥)
    → finish d W r w ≡ traces (finish (d - 1) W) W r (neighbours_at W r) (put_hs (hydrogens_at W r) r w)
unfolding finish
finish-is zero W r w n = absurd (n refl)
finish-is (suc d) W r w n = let e : suc d - 1 ≡ d = omega arith in simp e

module _ (t : Table) (s : Sheet) (v : Served) (d : ℕ) (W : Molecule) (w : Written) (F : Finishing t s v d W w) (n : d ≡ 0 → ⊥) where
  abbrev r : ℕ
  r = suc v.atom.0

  abbrev pub haired : Written
  haired = put_hs (get_or t.hydrogens v.atom.0 0) r w

  pub finish-split : finish d W r w ≡ traces (finish (d - 1) W) W r (neighbours_at W r) haired
  finish-split =
      finish-is d W r w n ∙ ap (λ (h : ℕ). traces (finish (d - 1) W) W r (neighbours_at W r) (put_hs h r w)) (F.lent.hydrogens_of v.atom.0 F.atom)

  walk_fits : size (traces (finish (d - 1) W) W r (neighbours_at W r) haired) ≤ 2048
  walk_fits = subst (λ (z : Written). size z ≤ 2048) finish-split F.room

  pub hydrogens-room : size haired ≤ 2048
  hydrogens-room = let m = (further_traces W (finish (d - 1) W) (further_finish (d - 1) W) r (neighbours_at W r) haired).more in omega (arith, walk_fits)

  pub going : (p : Pen) → Lettered p haired → Going t (record { pen = p; places = s.places; traced = s.traced }) v (d - 1) W haired
  going p l =
      record {
        lent = F.lent;
        shown =
            record {
              text = l;
              notes = noted_hs W.size F.lent.atoms s.places s.traced (get_or t.hydrogens v.atom.0 0) r w (ltb-true _ _ F.on.0) F.shown.notes;
            };
        atom = F.atom;
        on = (further_hs (get_or t.hydrogens v.atom.0 0) r w).kept r v.place F.on;
        room = walk_fits;
      }

module _ (t : Table) (s : Sheet) (v : Served) (d : ℕ) (W : Molecule) (w : Written) (G : Going t s v d W w) where
  abbrev row : List ℕ
  row = neighbours_at W (suc v.atom.0)

  -- the walk over the first k neighbours
  abbrev pub along : ℕ → Written
  along k = traces (finish d W) W (suc v.atom.0) (take k row) w

  pub along_none : along 0 ≡ w
  unfolding traces
  along_none = refl

  pub along_next : (k : ℕ) → k < get_or t.rows.degrees v.atom.0 0
      → along (k + 1) ≡ trace (finish d W) W (suc v.atom.0) (suc (get_or t.rows.near (6 * v.atom.0 + k) 0)) (along k)
  unfolding traces
  along_next k h =
      ap (λ (l : List ℕ). traces (finish d W) W (suc v.atom.0) l w) (row_next t W G.lent v.atom.0 G.atom k h)
      ∙ traces-append (finish d W) W (suc v.atom.0) (take k row) (suc (get_or t.rows.near (6 * v.atom.0 + k) 0) ∷ []) w

  pub along_end : (k : ℕ) → get_or t.rows.degrees v.atom.0 0 ≤ k → along k ≡ traces (finish d W) W (suc v.atom.0) row w
  along_end k h = ap (λ (l : List ℕ). traces (finish d W) W (suc v.atom.0) l w) (row-end t W G.lent v.atom.0 G.atom k h)

  along_more : (k : ℕ) → size (along k) ≤ size (traces (finish d W) W (suc v.atom.0) row w)
  along_more k =
      let m = (further_traces W (finish d W) (further_finish d W) (suc v.atom.0) (drop k row) (along k)).more in
      let e = ap size (sym (traces-append (finish d W) W (suc v.atom.0) (take k row) (drop k row) w) ∙ ap (λ (l : List ℕ). traces (finish d W) W (suc v.atom.0) l w) (take-append-drop k row)) in
      omega arith

  pub along_ready : (k : ℕ) (s' : Sheet) → k < get_or t.rows.degrees v.atom.0 0 → Shows W.size s' (along k) → Tracing t s' v k d W (along k)
  along_ready k s' h S =
      record {
        lent = G.lent;
        shown = S;
        atom = G.atom;
        slot = h;
        on = (further_traces W (finish d W) (further_finish d W) (suc v.atom.0) (take k row) w).kept (suc v.atom.0) v.place G.on;
        room = let e = ap size (along_next k h) in omega (arith, along_more (k + 1), G.room);
      }

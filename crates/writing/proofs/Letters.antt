-- The pen after one item more.
use mathlib.Core.Bool.{Bool, true, false}
use mathlib.Core.List.{List, [], ◌∷◌, ◌++◌}
use mathlib.Core.Path.{◌≡◌, refl, sym, ap, ◌∙◌, subst}
use Prim.Native.Nat.{ℕ, ◌+◌, ◌<◌, ◌≤◌}
use native.Mathlib.Omega.{arith}
use native.Mathlib.Numerals.{add-one}
use lib.ListN.{length, length-append}
use borrow.Author.Tests.{eq-eqb, ne_eqb}
use Rattle.sling.specs.Items.{Item, at, atom, reference, ring}
use Rattle.sling.specs.Walk.{Written, place_in, serve, put, close, put_hs}
use Rattle.sling.specs.Printed.{bytes, item_bytes, ends_in_digit, mark_bytes, symbol_bytes, decimal}
use Rattle.writing.specs.declared.strokes.Pen.{Pen}
use Rattle.writing.specs.Room.{Room}
use Rattle.writing.specs.Shown.{digit_after, size, At, Lettered}
use Rattle.writing.proofs.Bytes.{bytes-last, digit-last, symbol-some}
use Rattle.writing.proofs.Serving.{put_hs-last}
use Rattle.writing.proofs.Further.{size-last}

pub letters_size : (p : Pen) (w : Written) → Lettered p w → length p.name ≡ size w
letters_size p w l = ap length l.text

-- what is left to show of one item more
pub record Next (p q : Pen) (w v : Written) (i : Item) : Type 0 where
  pub items : v.items ≡ w.items ++ (i ∷ [])
  pub digit : q.digit ≡ ends_in_digit i
  pub next : q.next ≡ length v.ranks
  pub cursor : q.cursor ≡ v.cursor
  pub few : length v.ranks ≤ length q.name

pub letters_more : (p q : Pen) (w v : Written) (i : Item) → Lettered p w → q.name ≡ p.name ++ item_bytes p.digit i → Next p q w v i
    → size v ≤ 2048 → Lettered q v
letters_more p q w v i l a n h =
    let t : q.name ≡ bytes false v.items =
    a ∙ ap (λ (x : List ℕ). x ++ item_bytes p.digit i) l.text ∙ ap (λ (d : Bool). bytes false w.items ++ item_bytes d i) l.digit
    ∙ sym (bytes-last false w.items i) ∙ ap (bytes false) (sym n.items) in
    record {
      room = omega (arith, ap length t);
      text = t;
      digit = n.digit ∙ sym (digit-last false w.items i) ∙ ap (digit_after false) (sym n.items);
      next = n.next;
      cursor = n.cursor;
      few = n.few;
    }

-- the atom is served already, or its place is written
module _ (r : ℕ) (w : Written) where
  pub serve-stays : w.cursor ≡ place_in w.ranks r → serve r w ≡ w
  unfolding serve
  serve-stays e = simp (eq-eqb _ _ e)

  pub serve-goes : (w.cursor ≡ place_in w.ranks r → ⊥)
      → serve r w ≡ record { ranks = w.ranks; bonds = w.bonds; cursor = place_in w.ranks r; items = w.items ++ (reference (at (place_in w.ranks r)) ∷ []) }
  unfolding serve
  serve-goes n = simp (ne_eqb _ _ n)

-- an item's bytes
pub atom-bytes : (d : Bool) (m k : ℕ) → item_bytes d (atom m k) ≡ mark_bytes m ++ symbol_bytes k
unfolding item_bytes
atom-bytes d m k = refl

pub ring-bytes : (d : Bool) (m p : ℕ) → item_bytes d (ring m (at p)) ≡ mark_bytes m ++ (47 ∷ decimal p)
unfolding item_bytes
ring-bytes d m p = refl

pub atom-some : (m k : ℕ) → 0 < length (mark_bytes m ++ symbol_bytes k)
atom-some m k = rw (length-append (mark_bytes m) (symbol_bytes k)) (omega (arith, symbol-some k))

module _ (p : Pen) (w : Written) (l : Lettered p w) where
  -- the bytes of one item more fit
  room-item : (i : Item) (v : Written) → v.items ≡ w.items ++ (i ∷ []) → size v ≤ 2048 → Room p.name (item_bytes p.digit i)
  room-item i v e h =
      let s : size v ≡ size w + length (item_bytes (digit_after false w.items) i) = ap (λ (x : List Item). length (bytes false x)) e ∙ size-last w.items i in
      let d : length (item_bytes p.digit i) ≡ length (item_bytes (digit_after false w.items) i) = ap (λ (z : Bool). length (item_bytes z i)) l.digit in
      omega (arith, letters_size p w l)

  -- to serve the atom of rank r, at place q
  module _ (r q : ℕ) (a : At w r q) where
    pub letters_stays : p.cursor ≡ q → Lettered p (serve r w)
    letters_stays e = subst (Lettered p) (sym (serve-stays r w (sym l.cursor ∙ e ∙ a.1))) l

    module _ (n : p.cursor ≡ q → ⊥) (h : size (serve r w) ≤ 2048) where
      moved : w.cursor ≡ place_in w.ranks r → ⊥
      moved e = n (l.cursor ∙ e ∙ sym a.1)

      items-moved : (serve r w).items ≡ w.items ++ (reference (at q) ∷ [])
      items-moved = ap (λ (v : Written). v.items) (serve-goes r w moved) ∙ ap (λ (x : ℕ). w.items ++ (reference (at x) ∷ [])) (sym a.1)

      pub serve-room : Room p.name (item_bytes p.digit (reference (at q)))
      serve-room = room-item (reference (at q)) (serve r w) items-moved h

      pub letters_goes : (p' : Pen) → p'.name ≡ p.name ++ item_bytes p.digit (reference (at q)) → p'.next ≡ p.next → p'.cursor ≡ q → p'.digit ≡ true
          → Lettered p' (serve r w)
      letters_goes p' x e f g =
          let same : (serve r w).ranks ≡ w.ranks = ap (λ (v : Written). v.ranks) (serve-goes r w moved) in
          letters_more p p' w (serve r w) (reference (at q)) l x
          (record {
            items = items-moved;
            digit = g;
            next = e ∙ l.next ∙ sym (ap length same);
            cursor = f ∙ a.1 ∙ sym (ap (λ (v : Written). v.cursor) (serve-goes r w moved));
            few = omega (arith, l.few, ap length x, length-append p.name (item_bytes p.digit (reference (at q))), ap length same);
          }) h

  -- to put an atom of rank s and kind k behind a bond of code m
  module _ (s k m : ℕ) (h : size (put s k m w) ≤ 2048) where
    pub put-room : Room p.name (mark_bytes m ++ symbol_bytes k)
    unfolding put
    put-room = subst (Room p.name) (atom-bytes p.digit m k) (room-item (atom m k) (put s k m w) refl h)

    -- so that there is a place for it
    pub put-next : p.next < 2048
    put-next = omega (arith, l.next, l.few, put-room, atom-some m k)

    pub letters_put : (p' : Pen) → p'.name ≡ p.name ++ (mark_bytes m ++ symbol_bytes k) → p'.next ≡ p.next + 1 → p'.cursor ≡ p.next → p'.digit ≡ false
        → Lettered p' (put s k m w)
    unfolding put
    letters_put p' x e f g =
        let n = length-append w.ranks (s ∷ []) in
        letters_more p p' w (put s k m w) (atom m k) l (x ∙ ap (λ (b : List ℕ). p.name ++ b) (sym (atom-bytes p.digit m k)))
        (record {
          items = refl;
          digit = g;
          next = omega (arith, l.next);
          cursor = f ∙ l.next;
          few = omega (arith, l.few, ap length x, length-append p.name (mark_bytes m ++ symbol_bytes k), atom-some m k);
        }) h

  -- to close a ring to the atom of rank s, at place q
  module _ (s q m : ℕ) (a : At w s q) (h : size (close s m w) ≤ 2048) where
    items-closed : (close s m w).items ≡ w.items ++ (ring m (at q) ∷ [])
    unfolding close
    items-closed = ap (λ (x : ℕ). w.items ++ (ring m (at x) ∷ [])) (sym a.1)

    pub close-room : Room p.name (mark_bytes m ++ (47 ∷ decimal q))
    close-room = subst (Room p.name) (ring-bytes p.digit m q) (room-item (ring m (at q)) (close s m w) items-closed h)

    pub letters_close : (p' : Pen) → p'.name ≡ p.name ++ (mark_bytes m ++ (47 ∷ decimal q)) → p'.next ≡ p.next → p'.cursor ≡ q → p'.digit ≡ true
        → Lettered p' (close s m w)
    unfolding close
    letters_close p' x e f g =
        letters_more p p' w (close s m w) (ring m (at q)) l (x ∙ ap (λ (b : List ℕ). p.name ++ b) (sym (ring-bytes p.digit m q)))
        (record {
          items = items-closed;
          digit = g;
          next = e ∙ l.next;
          cursor = f ∙ a.1;
          few = omega (arith, l.few, ap length x, length-append p.name (mark_bytes m ++ (47 ∷ decimal q)));
        }) h

-- a hydrogen more
pub letters_hydrogen : {p : Pen} (h r : ℕ) (w : Written) → Lettered p (put 0 0 1 (serve r (put_hs h r w))) → Lettered p (put_hs (h + 1) r w)
letters_hydrogen {p} h r w l = subst (Lettered p) (sym (put_hs-last h r w) ∙ ap (λ (k : ℕ). put_hs k r w) (sym (add-one h))) l

-- Serving an atom by one equation; and hydrogens put one behind the other: the last one is put on what the others left.
use mathlib.Core.Bool.{Bool, true, false}
use mathlib.Core.List.{◌++◌, append-nil}
use mathlib.Core.Path.{◌≡◌, refl, ap}
use Prim.Native.Nat.{ℕ, zero, suc}
use lib.Dec.{eqb}
use borrow.Author.Tests.{eqb-true}
use Rattle.sling.specs.Walk.{Written, place_in, serve, put, put_hs}
use Rattle.sling.proofs.Strokes.{said}

abbrev pub served_at : ℕ → Written → Written
served_at r w = record { ranks = w.ranks; bonds = w.bonds; cursor = place_in w.ranks r; items = w.items ++ said r w }

pub serve_is : (r : ℕ) (w : Written) → serve r w ≡ served_at r w
unfolding serve
serve_is r w = pick (eqb w.cursor (place_in w.ranks r)) refl
  where
    pick : (b : Bool) → eqb w.cursor (place_in w.ranks r) ≡ b → serve r w ≡ served_at r w
    pick true e = simp (e, append-nil) (ap (λ (c : ℕ). record { ranks = w.ranks; bonds = w.bonds; cursor = c; items = w.items }) (eqb-true _ _ e))
    pick false e = simp e

pub put_hs-last : (h r : ℕ) (w : Written) → put_hs (suc h) r w ≡ put 0 0 1 (serve r (put_hs h r w))
unfolding put_hs
put_hs-last zero r w = refl
put_hs-last (suc h) r w = put_hs-last h r (put 0 0 1 (serve r w))

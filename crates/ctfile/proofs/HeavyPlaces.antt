-- The places of a drawing's atoms that are no H: each is there, is none, and stands once in their list.
use mathlib.Core.Bool.{false, not}
use mathlib.Core.List.{List, map, Memᴰ}
use mathlib.Core.Path.{◌≡◌, sym, ap, ◌∙◌}
use Prim.Native.Nat.{ℕ, ◌<◌}
use lib.Dec.{eqb}
use lib.ListN.{length, get_or}
use borrow.Author.Tests.{not-true}
use Rattle.lists.specs.Upto.{upto, each}
use Rattle.lists.specs.Tests.{count}
use Rattle.lists.proofs.Kept.{mem_keep}
use Rattle.lists.proofs.KeptBelow.{kept, Kept, kept_of}
use Rattle.lists.proofs.Passed.{length-keep}
use Rattle.lists.proofs.Upto.{mem_upto, each-get_or}
use Rattle.sling.specs.Reading as reader
use Rattle.sling.specs.Folded.{heavy_places}
use Rattle.sling.specs.Folded as text
use Rattle.ctfile.specs.Filed.{Drawing}
use Rattle.ctfile.specs.Drawings.{is_h, as_read, folded}
use Rattle.ctfile.proofs.AsText.{h_there}

module _ (d : Drawing) where
  abbrev pub places : List ℕ
  places = heavy_places (as_read d)

  abbrev pub place : ℕ → ℕ
  place a = get_or places a 0

  at : (a : ℕ) → a < length places → Kept (λ p. not (reader.is_h (as_read d) p)) (length d.kinds) a
  unfolding heavy_places
  at = kept_of (λ p. not (reader.is_h (as_read d) p)) (length d.kinds)

  pub place-apart : (a b : ℕ) → a < length places → b < length places → place a ≡ place b → a ≡ b
  unfolding heavy_places
  place-apart a b h k e =
      sym (at a h).order ∙ ap (λ p. length (kept (λ p. not (reader.is_h (as_read d) p)) p)) e ∙ (at b k).order

  pub place-there : (a : ℕ) → a < length places → (place a < length d.kinds) × (is_h d (place a) ≡ false)
  unfolding heavy_places
  place-there a h = let w = at a h in (w.below, sym (h_there d (place a) w.below) ∙ not-true _ w.passes)

  pub mem_places : (p : ℕ) → p < length d.kinds → is_h d p ≡ false → Memᴰ p places
  unfolding heavy_places
  mem_places p h e =
      mem_keep (λ q. not (reader.is_h (as_read d) q)) (upto (length d.kinds)) p (mem_upto (length d.kinds) p h) (ap not (h_there d p h ∙ e))

  -- as many as the atoms that are no H
  pub folded-size : (folded d).size ≡ count (map (λ k. not (eqb k 0)) d.kinds)
  unfolding folded text.folded heavy_places each
  folded-size = length-keep (λ p. not (reader.is_h (as_read d) p)) (upto (length d.kinds)) ∙ ap count (each-get_or (λ k. not (eqb k 0)) d.kinds 0)

-- The table so far is tidy and has the bonds passed, those to an H left out.
use Rattle.std.proofs.Common.{ℕ, ◌≡◌, ◌<◌, ◌∙◌, sym, subst, arith, length, take}
use lib.ListN.{get_or}
use lib.Seq.{get_or-take, length-take-le}
use Rattle.text.specs.declared.state.State.{State}
use Rattle.text.specs.Holding.{no_bond, Held, view_of}
use Rattle.text.specs.Folding.{molecule_of, BareTo}
use Rattle.text.proofs.StateLaws.{view_places, view-bonds}
use Rattle.text.proofs.LinkLaws.{linked-start, linked-end, low-one, low-two, fold-skip, fold_fits, fold-more}
use Rattle.text.proofs.fold.folded.Goals as goal

pub loop-bond-init : goal.loop-bond-init
loop-bond-init c =
    let st = c.args.state.now in
    let B = c.bare_atoms-bare.ensures in
    record { tidy = B.tidy; linked = linked-start (view_of st) _ (subst (λ (i : ℕ). BareTo (view_of st) i (molecule_of c.bare_atoms-bare.result.table)) (sym (view_places st)) B.is) }

-- the bond of a turn is there
module _ (st : State) (H : Held st) (k : ℕ) (h : k < length (take st.drawn st.links)) where
  inside : k < st.drawn
  inside = omega (arith, length-take-le st.drawn st.links (omega (arith, H.tallied.drawn, H.tallied.links_long)))

  turn : get_or (take st.drawn st.links) k no_bond ≡ get_or st.links k no_bond
  turn = get_or-take st.drawn st.links k no_bond inside

pub to_h-requires : goal.to_h-requires
to_h-requires c =
    let st = c.args.state.now in
    let L = c.loop-bond in
    let k = inside st c.requires L.bond-index c.loop-bond-test.true in
    let d = turn st c.requires L.bond-index c.loop-bond-test.true in
    let N = c.bare_atoms-bare.ensures.numbers in (
      omega (arith, low-one st c.requires L.bond-index k _ d _ N, c.requires.tallied.places),
      omega (arith, low-two st c.requires L.bond-index k _ d _ N, c.requires.tallied.places),
      c.requires.tallied.placed_long,
    )

pub loop-bond-preserved-then-to_h : goal.loop-bond-preserved-then-to_h
loop-bond-preserved-then-to_h c =
    let st = c.args.state.now in
    let L = c.loop-bond in
    let k = inside st c.requires L.bond-index c.loop-bond-test.true in
    let d = turn st c.requires L.bond-index c.loop-bond-test.true in
    let N = c.bare_atoms-bare.ensures.numbers in
    record { tidy = L.invariant.tidy; linked = fold-skip st c.requires L.bond-index k _ d _ N L.table L.invariant.tidy L.invariant.linked (sym c.to_h.ensures ∙ c.if-to_h.true) }

pub put_bond-requires : goal.put_bond-requires
put_bond-requires c =
    let st = c.args.state.now in
    let L = c.loop-bond in
    let k = inside st c.requires L.bond-index c.loop-bond-test.true in
    let d = turn st c.requires L.bond-index c.loop-bond-test.true in
    let N = c.bare_atoms-bare.ensures.numbers in
    fold_fits st c.requires L.bond-index k _ d _ N L.table L.invariant.tidy L.invariant.linked (sym c.to_h.ensures ∙ c.if-to_h.false)

pub loop-bond-preserved : goal.loop-bond-preserved
loop-bond-preserved c =
    let st = c.args.state.now in
    let L = c.loop-bond in
    let k = inside st c.requires L.bond-index c.loop-bond-test.true in
    let d = turn st c.requires L.bond-index c.loop-bond-test.true in
    let N = c.bare_atoms-bare.ensures.numbers in
    let w = fold-more st c.requires L.bond-index k _ d _ N L.table L.invariant.tidy L.invariant.linked (sym c.to_h.ensures ∙ c.if-to_h.false) _ c.put_bond.ensures in
    record { tidy = w.0; linked = w.1 }

pub returns : goal.returns
returns c =
    let st = c.args.state.now in
    let L = c.loop-bond in
    let e : L.bond-index ≡ st.drawn = omega (arith, c.loop-bond-test.false, L.auto.bond-index-end, length-take-le st.drawn st.links (omega (arith, c.requires.tallied.drawn, c.requires.tallied.links_long))) in
    (L.invariant.tidy, linked-end (view_of st) _ L.bond-index (e ∙ sym (view-bonds st)) L.invariant.linked)

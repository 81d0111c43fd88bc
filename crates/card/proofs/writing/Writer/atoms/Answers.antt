-- The pieces of the atoms before this one are written, and there is room for the rest.
use mathlib.Core.List.{[], ◌∷◌}
use mathlib.Core.Path.{◌≡◌, ◌∙◌, ap, subst}
use Prim.Native.Nat.{ℕ}
use native.Mathlib.Omega.{arith}
use lib.ListN.{get_or}
use Rattle.std.proofs.lemmas.Grind.{get_or_default_zero}
use Rattle.molecule.specs.Kinds.{number_of}
use Rattle.table.specs.View.{arrays_of}
use Rattle.card.specs.Writing.{atom_piece, PutIn}
use Rattle.card.proofs.CardWritten.{atoms-long}
use Rattle.card.proofs.Written.{put_start, put_next, put_room}
use Rattle.card.proofs.writing.Writer.atoms.Goals as goal

pub loop-a-init : goal.loop-a-init
loop-a-init c = put_start (atom_piece c.args.t.now.kinds c.args.t.now.hydrogens) c.args.self.now

pub put-requires : goal.put-requires
put-requires c =
    put_room (atom_piece c.args.t.now.kinds c.args.t.now.hydrogens) c.args.self.now c.loop-a.self c.args.t.now.n c.loop-a.a c.loop-a.invariant
    (omega (arith, c.requires.1, atoms-long (arrays_of c.args.t.now) c.requires.0)) c.loop-a-test.true

pub loop-a-preserved : goal.loop-a-preserved
loop-a-preserved c =
    let K = c.args.t.now.kinds in
    let H = c.args.t.now.hydrogens in
    let e : get_or K c.loop-a.a c.index-t-a.result ≡ get_or K c.loop-a.a 0 = grind (arith, get_or_default_zero) in
    put_next (atom_piece K H) c.args.self.now c.loop-a.self _ c.loop-a.a c.loop-a.invariant
    (subst (λ (x : ℕ). PutIn c.loop-a.self (x ∷ get_or H c.loop-a.a 0 ∷ []) c.put.new.self) (c.atomic_number.ensures ∙ ap number_of e) c.put.ensures)

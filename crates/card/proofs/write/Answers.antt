-- The four parts fit, since the length was compared first, and one after the other they are the rules' card.
use mathlib.Core.Path.{refl}
use native.Mathlib.Omega.{arith}
use Rattle.std.proofs.Common.{rules}
use Rattle.table.specs.View.{arrays_of}
use Rattle.card.proofs.Written.{put_long}
use Rattle.card.proofs.CardWritten.{atoms-long, bonds-few, bonds-room, card-short, card-written}
use Rattle.card.proofs.write.Goals as goal

pub overflow_add-length : goal.overflow_add-length
overflow_add-length c = omega (arith, c.requires.atoms, bonds-few (arrays_of c.args.t.now) c.requires _ c.bonds_length-bonds.ensures)

pub overflow_add-length-2 : goal.overflow_add-length-2
overflow_add-length-2 c = omega (arith, c.requires.atoms, bonds-few (arrays_of c.args.t.now) c.requires _ c.bonds_length-bonds.ensures)

pub returns-then-out-length : goal.returns-then-out-length
returns-then-out-length c = card-short (arrays_of c.args.t.now) c.requires _ c.bonds_length-bonds.ensures c.args.out.now (omega arith)

pub head-requires-2 : goal.head-requires-2
head-requires-2 c = (
  omega (
    arith,
    c.head.ensures.wrote.ends,
    put_long _ _ _ c.head.ensures,
    c.atoms.ensures.wrote.ends,
    put_long _ _ _ c.atoms.ensures,
    atoms-long (arrays_of c.args.t.now) c.requires,
    c.if-out-length.false,
  ),
  omega (arith, bonds-few (arrays_of c.args.t.now) c.requires _ c.bonds_length-bonds.ensures),
)

pub bonds-requires : goal.bonds-requires
bonds-requires c = (
  c.requires,
  omega (
    arith,
    c.head.ensures.wrote.ends,
    put_long _ _ _ c.head.ensures,
    c.atoms.ensures.wrote.ends,
    put_long _ _ _ c.atoms.ensures,
    c.head-2.ensures.wrote.ends,
    put_long _ _ _ c.head-2.ensures,
    atoms-long (arrays_of c.args.t.now) c.requires,
    bonds-room (arrays_of c.args.t.now) c.requires _ c.bonds_length-bonds.ensures,
    c.if-out-length.false,
  ),
)

pub returns : goal.returns
returns c =
    card-written (arrays_of c.args.t.now) c.requires _ c.bonds_length-bonds.ensures _ _ _ _ _ c.head.ensures c.atoms.ensures
    c.head-2.ensures c.bonds.ensures _ (search rules) refl c.if-out-length.false

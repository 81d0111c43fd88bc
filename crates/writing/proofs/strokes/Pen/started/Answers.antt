use mathlib.Core.List.{List, ◌++◌}
use mathlib.Core.Path.{refl, ap, ◌∙◌}
use Prim.Native.Nat.{ℕ}
use lib.ListN.{length}
use Rattle.sling.specs.Printed.{symbol_bytes}
use native.Mathlib.Omega.{arith}
use Rattle.writing.proofs.Top.{begun-size, begun-letters}
use Rattle.writing.proofs.strokes.Pen.started.Goals as goal

pub put_symbol-requires : goal.put_symbol-requires
put_symbol-requires c = omega (arith, c.requires, begun-size c.args.kind, ap length c.empty-name.ensures)

pub returns : goal.returns
returns c = begun-letters c.args.kind _ c.requires (c.put_symbol.ensures ∙ ap (λ (l : List ℕ). l ++ symbol_bytes c.args.kind) c.empty-name.ensures) c.next-next.ensures refl refl

-- A clean drawing seen as a text's reader has it: the same places are H, and every bond is a proper one, so that the laws about texts hold of it.
use mathlib.Core.Bool.{Bool, ◌&&◌}
use mathlib.Core.List.{Memᴰ}
use mathlib.Core.Path.{◌≡◌, ap, ap₂, ◌∙◌}
use Prim.Native.Nat.{ℕ, ◌<◌}
use lib.Dec.{eqb}
use lib.ListN.{length, get_or}
use Rattle.lists.proofs.All.{All, mem_all}
use Rattle.lists.proofs.Members.{get_or-there}
use Rattle.molecule.specs.Bonds.{Bond}
use Rattle.sling.specs.Reading as reader
use Rattle.sling.proofs.Tidy.{Proper}
use Rattle.ctfile.specs.Filed.{Drawing}
use Rattle.ctfile.specs.Drawings.{is_h, as_read}
use Rattle.ctfile.proofs.Clean.{Clean}

module _ (d : Drawing) where
  pub kind-there : (p : ℕ) → p < length d.kinds → get_or d.kinds p 0 ≡ get_or d.kinds p 25
  kind-there p h = get_or-there d.kinds p 0 25 h

  pub h_there : (p : ℕ) → p < length d.kinds → reader.is_h (as_read d) p ≡ is_h d p
  h_there p h = ap (λ k. eqb k 0) (kind-there p h)

  module _ (C : Clean d) where
    proper : (b : Bond) → Memᴰ b d.bonds → Proper d.kinds b
    proper b m =
        let e = C.ends b m in
        record {
          one = e.0;
          two = e.1;
          apart = C.apart b m;
          mark = C.coded b m;
          heavy = ap₂ (λ (x y : Bool). x && y) (h_there b.one e.0) (h_there b.two e.1) ∙ C.one_h b m;
        }

    pub bonds-proper : All (Proper d.kinds) d.bonds
    bonds-proper = mem_all d.bonds proper

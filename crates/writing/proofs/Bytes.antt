-- The bytes of one item more.
use mathlib.Core.Bool.{Bool, true, false}
use mathlib.Core.List.{List, [], ◌∷◌, ◌++◌, append_assoc, append-nil}
use mathlib.Core.Path.{◌≡◌, refl, sym, ap, ◌∙◌}
use Prim.Native.Nat.{ℕ, ◌<◌}
use native.Mathlib.Omega.{arith}
use lib.ListN.{length}
use lib.Dec.{eqb}
use borrow.Author.Tests.{eqb-true}
use Rattle.molecule.specs.Kinds.{symbol_of}
use Rattle.sling.specs.Items.{Item}
use Rattle.sling.specs.Printed.{symbol_bytes, item_bytes, ends_in_digit, bytes}
use Rattle.writing.specs.Shown.{digit_after}

-- a symbol takes a byte at least
pub symbol-some : (k : ℕ) → 0 < length (symbol_bytes k)
symbol-some k = pick (eqb (length (symbol_of k)) 1) refl
  where
    pick : (b : Bool) → eqb (length (symbol_of k)) 1 ≡ b → 0 < length (symbol_bytes k)
    pick true e = rw e (let z : length (symbol_of k) ≡ 1 = eqb-true _ _ e in omega arith)
    pick false e = rw e (omega arith)

-- the bytes of one item more, and whether a digit ends it
pub bytes-last : (d : Bool) (l : List Item) (i : Item) → bytes d (l ++ (i ∷ [])) ≡ bytes d l ++ item_bytes (digit_after d l) i
unfolding bytes
bytes-last d [] i = append-nil (item_bytes d i)
bytes-last d (x ∷ l) i =
    ap (λ (b : List ℕ). item_bytes d x ++ b) (bytes-last (ends_in_digit x) l i) ∙ sym (append_assoc (item_bytes d x) (bytes (ends_in_digit x) l) (item_bytes (digit_after (ends_in_digit x) l) i))

pub digit-last : (d : Bool) (l : List Item) (i : Item) → digit_after d (l ++ (i ∷ [])) ≡ ends_in_digit i
digit-last d [] i = refl
digit-last d (x ∷ l) i = digit-last (ends_in_digit x) l i

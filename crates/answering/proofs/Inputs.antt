-- What a sound input field that is no dash says of its digits.
use mathlib.Core.Bool.{true, false, ◌&&◌}
use mathlib.Core.List.{List}
use mathlib.Core.Path.{◌≡◌}
use Prim.Native.Nat.{ℕ, ◌≤◌}
use lib.Dec.{leb, ltb}
use lib.ListN.{length}
use borrow.Author.Tests.{leb-true}
use Rattle.lists.proofs.Booleans.{and_both}
use Rattle.lines.specs.Hex.{is_hex}
use Rattle.answering.specs.Requests.{is_dash, is_input}

pub input_hex : (f : List ℕ) → is_input f ≡ true → is_dash f ≡ false → (is_hex f ≡ true) × (length f ≤ 131200)
unfolding is_input
input_hex f e d =
    let both = and_both (ltb 0 (length f)) (leb (length f) 131200 && is_hex f) (rw d at e) in
    let more = and_both (leb (length f) 131200) (is_hex f) both.1 in
    (more.1, leb-true _ _ more.0)

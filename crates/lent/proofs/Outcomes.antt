-- The two outcomes of writing: there is too little room, or the bytes stand at the buffer's start.
use mathlib.Core.Bool.{Bool, true, false}
use mathlib.Core.List.{List, ◌++◌}
use mathlib.Core.Path.{◌≡◌, refl, ◌∙◌}
use Prim.Native.Nat.{ℕ, ◌<◌, ◌≤◌}
use native.Mathlib.Omega.{arith}
use lib.Dec.{ltb}
use lib.ListN.{length, drop}
use borrow.Author.Tests.{lt-ltb, le-ltb, ltb-false}
use Rattle.std.specs.Prelude.{Ok, Err}
use Rattle.refusal.specs.declared.Refusal.TheVariants.{NoRoom}
use Rattle.lent.specs.Written.{Written}

module _ (bytes before : List ℕ) where
  pub too_short : length before < length bytes → Written bytes before before (Err NoRoom)
  too_short h = let q = lt-ltb _ _ h in record { answer = rw q; left = rw q }

  pub written : (n : ℕ) (after : List ℕ) → n ≡ length bytes → length bytes ≤ length before → after ≡ bytes ++ drop (length bytes) before
      → Written bytes before after (Ok n)
  written n after z h e = let q = le-ltb _ _ h in record { answer = rw (q, z); left = e ∙ rw q }

  module _ (after : List ℕ) (n : ℕ) (W : Written bytes before after (Ok n)) where
    -- what is written has room
    pub written-fits : n ≤ length before
    written-fits = pick (ltb (length before) (length bytes)) refl
      where
        pick : (b : Bool) → ltb (length before) (length bytes) ≡ b → n ≤ length before
        pick true e = absurd (let z = rw e at W.answer in cc)
        pick false e =
            let z : n ≡ length bytes = (let y = rw e at W.answer in cc) in
            let h = ltb-false (length before) (length bytes) e in
            omega arith

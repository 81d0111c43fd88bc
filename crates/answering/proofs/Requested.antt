-- What a request says of its fields.
use mathlib.Core.Bool.{Bool, true, false}
use mathlib.Core.List.{List}
use mathlib.Core.Path.{◌≡◌, refl, ap, ◌∙◌}
use Prim.Native.Nat.{ℕ, ◌≤◌}
use Rattle.lines.specs.Fields.{field_of, rest_of}
use Rattle.lines.specs.Numbers.{number_of}
use Rattle.std.specs.Prelude.{Option, Some, None}
use Rattle.lines.proofs.Spelling.{number-most}
use Rattle.answering.specs.declared.request.Op.{Op}
use Rattle.answering.specs.declared.request.Request.{Request}
use Rattle.answering.specs.Requests.{word_of, input_field, is_input, asked, request_of}

-- what a request says of its room and its input
pub request_asks : (line : List ℕ) (asked-for : Request) → request_of line ≡ Some asked-for → (asked-for.room ≤ 4096) × (is_input (input_field line) ≡ true)
unfolding request_of
request_asks line q =
    go (word_of (field_of line)) (number_of (field_of (rest_of line)) 65535) (number_of (field_of (rest_of (rest_of line))) 4096) refl (is_input (input_field line)) refl
  where
    go : (w : Option Op) (m n : Option ℕ) → number_of (field_of (rest_of (rest_of line))) 4096 ≡ n → (h : Bool) → is_input (input_field line) ≡ h
        → asked w m n h ≡ Some q → (q.room ≤ 4096) × (is_input (input_field line) ≡ true)
    go (Some o) (Some x) (Some y) e true f s =
        let z : record { op = o; allowance = x; room = y } ≡ q = cc in
        (number-most (field_of (rest_of (rest_of line))) 4096 q.room (e ∙ ap Some (ap (λ (r : Request). r.room) z)), f)
    go (Some o) (Some x) (Some y) e false f s = cc
    go (Some o) (Some x) None e h f s = cc
    go (Some o) None n e h f s = cc
    go None m n e h f s = cc

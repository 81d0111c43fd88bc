-- An item with its atom named by place is judged and followed as the item is.
use mathlib.Core.Bool.{Bool, true, false}
use mathlib.Core.Path.{◌≡◌, refl, ap, ◌∙◌}
use lib.Dec.{eqb}
use lib.ListN.{length}
use Rattle.sling.specs.Items as rule
use Rattle.sling.specs.Reading as rules
use Rattle.sling.specs.Reading.{after}
use Rattle.sling.specs.Faults.{code_of, item_fault}
use Rattle.text.specs.Changing.{resolved_if, resolved}

resolved_if-fault : (b : Bool) (s : rules.State) (i : rule.Item) → item_fault s (resolved_if b s i) ≡ item_fault s i
unfolding item_fault after
resolved_if-fault true s i = refl
resolved_if-fault false s (rule.atom m k) = refl
resolved_if-fault false s (rule.reference t) = refl
resolved_if-fault false s (rule.ring m t) = refl

resolved_if-after : (b : Bool) (s : rules.State) (i : rule.Item) → after s (resolved_if b s i) ≡ after s i
unfolding after
resolved_if-after true s i = refl
resolved_if-after false s (rule.atom m k) = refl
resolved_if-after false s (rule.reference t) = refl
resolved_if-after false s (rule.ring m t) = refl

resolved_if-code : (b : Bool) (s : rules.State) (i : rule.Item) → code_of (resolved_if b s i) ≡ code_of i
resolved_if-code true s i = refl
resolved_if-code false s (rule.atom m k) = refl
resolved_if-code false s (rule.reference t) = refl
resolved_if-code false s (rule.ring m t) = refl

module _ (s : rules.State) (i j : rule.Item) (e : j ≡ resolved s i) where
  pub resolved-fault : item_fault s j ≡ item_fault s i
  resolved-fault = ap (item_fault s) e ∙ resolved_if-fault (eqb (length s.kinds) 0) s i

  pub resolved-after : after s j ≡ after s i
  resolved-after = ap (after s) e ∙ resolved_if-after (eqb (length s.kinds) 0) s i

  pub resolved-code : code_of j ≡ code_of i
  resolved-code = ap code_of e ∙ resolved_if-code (eqb (length s.kinds) 0) s i

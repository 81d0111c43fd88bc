-- Whole: every marking of the tree is a ranking of all atoms, so that the laws of refining and of leaves hold for it, with no bound to be seen.
use mathlib.Core.Bool.{Bool, true, false, cond}
use mathlib.Core.List.Memᴰ
use mathlib.Core.List.{Memᴰ}
use mathlib.Core.Path.{◌≡◌, sym, ◌∙◌, subst}
use Prim.Native.Nat.{ℕ, zero, suc, ◌*◌, ◌<◌}
use native.Mathlib.Omega.{arith}
use lib.ListN.{length}
use lib.Seq.{ext_get_or}
use Rattle.lists.proofs.Upto.{length-each}
use Rattle.molecule.specs.Molecule.{Molecule}
use Rattle.classes.specs.Markings.{Marking, at, ranked}
use Rattle.classes.specs.Refining.{Rule, pass, unchanged, refine, refined}
use Rattle.classes.specs.Numberings.{shared, ahead}
use Rattle.classes.specs.Tables.{holder}
use Rattle.classes.proofs.Rankings.{Ranking, ranked-ranking, ahead-refines, refined-refines}
use Rattle.classes.proofs.Refined.{refined-fixed}
use Rattle.classes.proofs.Shared.{of_holding}
use Rattle.classes.proofs.Complete.{holder-below, at-holder}
use Rattle.classes.proofs.Leaves.{leaves-step, numbering_complete, numbering_some}
use Rattle.rules.specs.Promises.{InTree, root, child, AlwaysWhole}

refine-length : (R : Rule) (M : Molecule) (k : ℕ) (m : Marking) → length m ≡ M.size → length (refine R M k m) ≡ M.size
unfolding refine
refine-length R M zero m e = e
refine-length R M (suc k) m e = go (unchanged M.size m (pass R M m)) (refine-length R M k (pass R M m) passed)
  where
    passed : length (pass R M m) ≡ M.size
    passed = unfold pass in length-each M.size _

    go : (s : Bool) → length (refine R M k (pass R M m)) ≡ M.size → length (cond s m (refine R M k (pass R M m))) ≡ M.size
    go true ih = e
    go false ih = ih

-- a ranking of all atoms, and as long as there are atoms, that a pass leaves unchanged
record Settles (R : Rule) (M : Molecule) (m : Marking) : Type 0 where
  ranking : Ranking M.size m
  long : length m ≡ M.size
  fixed : (a : ℕ) → a < M.size → at (pass R M m) a ≡ at m a

refined-settles : (R : Rule) (M : Molecule) (m : Marking) → Ranking M.size m → length m ≡ M.size → Settles R M (refined R M m)
refined-settles R M m K e = record {
  ranking = (refined-refines R M m K).ranking;
  long = unfold refined in refine-length R M (M.size * M.size) m e;
  fixed = refined-fixed R M m K;
}

tree-settles : (R : Rule) (M : Molecule) {m : Marking} → InTree R M m → Settles R M m
tree-settles R M root = refined-settles R M (ranked M) (ranked-ranking M) (unfold ranked in length-each M.size _)
tree-settles R M (child {m} {a} t d) =
    let w = of_holding M.size m (shared M.size m) a d in
    refined-settles R M (ahead M.size m (shared M.size m) a)
    (ahead-refines M.size m (shared M.size m) a (tree-settles R M t).ranking w.0 w.1).ranking (unfold ahead in length-each M.size _)

settles_pass : (R : Rule) (M : Molecule) (m : Marking) → Settles R M m → pass R M m ≡ m
settles_pass R M m s =
    let e : length (pass R M m) ≡ M.size = unfold pass in length-each M.size _ in
    ext_get_or 0 (pass R M m) m (e ∙ sym s.long) (λ i h. s.fixed i (omega arith))

pub whole : AlwaysWhole
whole R M = record {
  settled = λ t. settles_pass R M _ (tree-settles R M t);
  tree = λ t. leaves-step R M _ (tree-settles R M t).ranking;
  complete = λ d. (numbering_complete R M _ d).unshared;
  held = λ {m} d r h. let C = numbering_complete R M m d in (holder M.size m (suc r), holder-below C r h, at-holder C r h);
  apart = λ d. (numbering_complete R M _ d).apart;
  some = λ e. let w = numbering_some R M in Memᴰ.not-nil (subst (λ l. Memᴰ w.0 l) e w.1);
}

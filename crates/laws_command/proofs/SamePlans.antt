-- Plans that are alike say the same of the time before their apply.
use Rattle.std.proofs.Common.{◌≡◌, ℕ, List, [], ◌∷◌, Option, Some, refl}
use Rattle.std.specs.Prelude.{codes}
use Rattle.std.specs.List.{filter_map}
use Rattle.serde_json.specs.Data.{Data}
use Rattle.apply_json.specs.Tree.{tree_of}
use Rattle.apply_prior.specs.declared.drift.Drift.{Drift}
use Rattle.apply_prior.specs.Drifts.{drift_of, drifts_of}
use Rattle.apply_prior.specs.Elements.{items_at}
use Rattle.apply_prior.specs.Objects.{objects_of, placed_object, placed_of}
use Rattle.apply_prior.specs.Outputs.{planned_outputs_of}
use Rattle.apply_prior.specs.Prior.{prior_in, prior_of}
use Rattle.laws_command.specs.Alike.{AreAlike, AreAllAlike, AreAlikeDrifts, ArePlacedAlike}
use Rattle.laws_command.proofs.SameElements.{same_drift, same_object}

-- what is the same of each two that are alike is the same of all
all_same : {X Y : Type 0} (R : X → X → Type 0) (f : X → Option Y) → ((x y : X) → R x y → f x ≡ f y)
    → (xs ys : List X) → AreAllAlike R xs ys → filter_map f xs ≡ filter_map f ys
all_same R f each [] [] same = refl
all_same R f each [] (y ∷ ys) same = absurd same
all_same R f each (x ∷ xs) [] same = absurd same
all_same R f each (x ∷ xs) (y ∷ ys) same = rw (each x y same.0, all_same R f each xs ys same.1) refl

same_placed : (drifts : List Drift) (one other : List ℕ × Data) → ArePlacedAlike one other → placed_object drifts one ≡ placed_object drifts other
same_placed drifts one other same =
    let object = same_object one.0 one.1 other.1 same.1 in
    let depends_on = same.1.members (codes "depends_on") refl in
    rw (object, depends_on, same.0) refl

module _ (one other : Data) (same : AreAlike one other) where
  same_drifts : drifts_of one ≡ drifts_of other
  same_drifts = all_same AreAlikeDrifts drift_of same_drift (items_at (codes "resource_drift") one) (items_at (codes "resource_drift") other) same.drifts

  same_objects : objects_of one ≡ objects_of other
  same_objects =
      let placed = all_same ArePlacedAlike (placed_object (drifts_of one)) (same_placed (drifts_of one)) (placed_of one) (placed_of other) same.state in
      rw (placed, same_drifts) refl

  same_outputs : planned_outputs_of one ≡ planned_outputs_of other
  same_outputs = rw (same.outputs) refl

  pub same_prior : prior_in one ≡ prior_in other
  same_prior = rw (same_objects, same_drifts, same_outputs) refl

pub same_bytes : (one other : List ℕ) (tree same : Data) → tree_of one ≡ Some tree → tree_of other ≡ Some same → AreAlike tree same → prior_of one ≡ prior_of other
same_bytes one other tree same is are alike = rw (is, are, same_prior tree same alike) refl

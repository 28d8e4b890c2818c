use Rattle.std.proofs.Common.{List, filter_map, take}
use Rattle.apply_prior.specs.declared.drift.Drift.{Drift}
use Rattle.apply_prior.specs.Objects.{ObjectOfPlan, placed_object, with_objects}
use Rattle.apply_prior.specs.Views.{Holds, placed_view}
use Rattle.apply_prior.proofs.objects.add_placed.Given as goal

abbrev pub invariant-loop-place : goal.invariant-loop-place
invariant-loop-place l =
    (drifts : List Drift) → (before : List ObjectOfPlan) → Holds l.fn.objects drifts before
    → Holds l.objects drifts (with_objects before (filter_map (λ p. placed_object drifts (placed_view p)) (take l.place-index l.placed)))

use Rattle.std.proofs.Common.{List, filter_map, take}
use Rattle.apply_prior.specs.declared.drift.Drift.{Drift}
use Rattle.apply_prior.specs.Objects.{ObjectOfPlan, vanished_object, with_objects}
use Rattle.apply_prior.specs.Views.{Holds}
use Rattle.apply_prior.proofs.objects.add_vanished.Given as goal

abbrev pub invariant-loop-drift : goal.invariant-loop-drift
invariant-loop-drift l =
    (drifts : List Drift) → (before : List ObjectOfPlan) → Holds l.fn.objects drifts before
    → Holds l.objects drifts (with_objects before (filter_map (vanished_object drifts) (take l.drift-index l.vanished)))

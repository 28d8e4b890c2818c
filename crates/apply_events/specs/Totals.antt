-- The totals of an apply.
use Rattle.std.specs.Prelude.{◌+◌, List, count_by, Bool, true, false, ◌&&◌, slice_get}
use Rattle.std.specs.Option.{option_map_or}
use Rattle.apply_model.specs.declared.plan.step_kind.StepKind.{StepKind}
use Rattle.apply_model.specs.declared.plan.step_kind.StepKind.TheVariants.{Create, Update, Delete}
use Rattle.apply_model.specs.Plan.SavedPlan.{SavedPlan}
use Rattle.apply_model.specs.Plan.StepKind.{is_kind}
use Rattle.apply_events.specs.declared.counts.Counts.{Counts}
use Rattle.apply_events.specs.declared.event.Event.{Event}
use Rattle.apply_events.specs.declared.what.What.{What}
use Rattle.apply_events.specs.declared.what.What.TheVariants.{Complete, Errored, Halted}
use Rattle.apply_events.specs.Step.{kinds_of}

-- The event completes a step.
abbrev pub is_complete : What → Bool
is_complete (Complete seconds) = true
is_complete _ = false

-- The event is the failure of a step.
abbrev pub is_errored : What → Bool
is_errored (Errored seconds) = true
is_errored _ = false

-- The event is a halt.
abbrev pub is_halted : What → Bool
is_halted (Halted phase hook) = true
is_halted _ = false

-- The event completes a step of that kind.
abbrev pub completes : SavedPlan → StepKind → Event → Bool
completes plan kind event =
    is_complete event.what && option_map_or (is_kind kind) (slice_get (kinds_of plan event.change) event.step) false

-- The totals of some events.
abbrev pub totals_of : SavedPlan → List Event → Counts
totals_of plan events = record {
  added = count_by (completes plan Create) events;
  changed = count_by (completes plan Update) events;
  removed = count_by (completes plan Delete) events;
  failed = count_by (λ event. is_errored event.what) events;
  halted = count_by (λ event. is_halted event.what) events;
}

-- The sums of the totals, number by number.
abbrev pub plus : Counts → Counts → Counts
plus first second = record {
  added = first.added + second.added;
  changed = first.changed + second.changed;
  removed = first.removed + second.removed;
  failed = first.failed + second.failed;
  halted = first.halted + second.halted;
}

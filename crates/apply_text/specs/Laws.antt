-- Definitions for the laws of lines.
use Rattle.std.specs.Prelude.{ℕ, List, count_by, codes, ◌==◌, Bool, false, not, ◌&&◌, slice_get}
use Rattle.std.specs.Option.{option_map_or}
use Rattle.std.specs.Str.{bytes_eq}
use Rattle.apply_model.specs.declared.plan.step_kind.StepKind.TheVariants.{Read}
use Rattle.apply_model.specs.Plan.SavedPlan.{SavedPlan}
use Rattle.apply_model.specs.Script.OutcomeMap.{OutcomeMap, outcome_of}
use Rattle.apply_model.specs.Plan.StepKind.{is_kind}
use Rattle.apply_events.specs.declared.event.Event.{Event}
use Rattle.apply_text.specs.Message.{event_message}

-- the event's message is an `apply_complete`, and its step is no read
abbrev pub reports_completion : SavedPlan → OutcomeMap → Event → Bool
reports_completion plan script event =
    option_map_or (λ change.
    option_map_or (λ step.
    bytes_eq (event_message change step (outcome_of script event.change event.step) event.what).type_name
    (codes "apply_complete")
    && not (is_kind Read step))
    (slice_get change.steps event.step) false)
    (slice_get plan.changes event.change) false

-- the number of line feeds in a text
abbrev pub line_feeds : List ℕ → ℕ
line_feeds text = count_by (λ byte. byte == 10) text

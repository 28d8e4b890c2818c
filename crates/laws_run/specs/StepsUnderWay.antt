-- Steps that are under way at a place of a list of events, and steps that are under way at a time.
use Rattle.std.specs.Prelude.{ℕ, ◌&&◌, Bool, List, count_by, length, map, nat_le, nat_lt}
use Rattle.std.specs.List.{flat_map, list_any, range_with_len}
use Rattle.apply_model.specs.declared.script.wait.Wait.{Wait}
use Rattle.apply_model.specs.Plan.SavedPlan.{SavedPlan}
use Rattle.apply_events.specs.declared.event.Event.{Event}
use Rattle.apply_events.specs.Step.{Work, kinds_of}
use Rattle.laws_run.specs.WaitingSteps.{has_events, is_of_step}
use Rattle.laws_run.specs.ChangesUnderWay.{is_over_with, is_start}

-- ---- the steps of a plan

-- the steps of change c
abbrev pub steps_of_change : SavedPlan → (c : ℕ) → List Wait
steps_of_change plan c = map (λ k. record { change = c; step = k }) (range_with_len 0 (length (kinds_of plan c)))

-- all steps of a plan, each once, in the plan's order
abbrev pub steps_of_plan : SavedPlan → List Wait
steps_of_plan plan = flat_map (steps_of_change plan) (range_with_len 0 (length plan.changes))

-- ---- at a place: after some events, and before all others

-- how often the step has started
abbrev pub starts_of_step : Wait → List Event → ℕ
starts_of_step name events = count_by (λ event. is_of_step name event && is_start event.what) events

-- how often the step is over: completed, failed, or warned of if it only warns
abbrev pub ends_of_step : Work → Wait → List Event → ℕ
ends_of_step work name events = count_by (λ event. is_of_step name event && is_over_with work.script event) events

-- after these events the step has started and is not over
abbrev pub is_step_open_after : Work → List Event → Wait → Bool
is_step_open_after work events name = nat_lt (ends_of_step work name events) (starts_of_step name events)

-- how many of the plan's steps have started and are not over
abbrev pub open_steps_after : Work → List Event → ℕ
open_steps_after work events = count_by (is_step_open_after work events) (steps_of_plan work.plan)

-- the step has an event before the place and an event after it
abbrev pub is_on_both_sides : (before after : List Event) → Wait → Bool
is_on_both_sides before after name = has_events before name && has_events after name

-- how many of the plan's steps have events on both sides of the place
abbrev pub steps_on_both_sides : Work → (before after : List Event) → ℕ
steps_on_both_sides work before after = count_by (is_on_both_sides before after) (steps_of_plan work.plan)

-- ---- at a time

-- the step has an event by the time `moment` and a later event
abbrev pub is_step_under_way_at : (moment : ℕ) → List Event → Wait → Bool
is_step_under_way_at moment events name =
    list_any (λ event. is_of_step name event && nat_le event.at moment) events
    && list_any (λ event. is_of_step name event && nat_lt moment event.at) events

-- how many of the plan's steps are under way at the time `moment`
abbrev pub steps_under_way_at : Work → (moment : ℕ) → List Event → ℕ
steps_under_way_at work moment events = count_by (is_step_under_way_at moment events) (steps_of_plan work.plan)

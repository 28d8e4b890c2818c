-- The steps of a plan that began, as far as a stream was read.
use Rattle.std.specs.Prelude.{ℕ, ◌&&◌, List, [], map, count_by, Bool, false, not, if◌then◌else◌, Option, Some, None, is_none, slice_get}
use Rattle.std.specs.Option.{option_flatten, option_map_or}
use Rattle.apply_model.specs.declared.plan.step_kind.StepKind.{StepKind}
use Rattle.apply_model.specs.declared.plan.step_kind.StepKind.TheVariants.{Read}
use Rattle.apply_model.specs.Plan.StepKind.{is_kind}
use Rattle.stream_record_steps.specs.declared.begun_step.BegunStep.{BegunStep}
use Rattle.stream_record_steps.specs.declared.strays.Stray.{Stray}
use Rattle.stream_record_steps.specs.declared.tally.Tally.{Tally}
use Rattle.stream_record_steps.specs.Steps.{PlannedStep}
use Rattle.stream_record_steps.specs.Tallies.{no_lines}

-- What lines state of the steps of a plan.
pub record Begun : Type 0 where
  -- The steps of the plan, in its order.
  pub planned : List PlannedStep
  -- What is known of each step, by place; none of a step that did not begin.
  pub by_step : List (Option BegunStep)
  -- The places of the steps that began, in the order of their starts, and of those that ended, in
  -- the order of their ends.
  pub begins : List ℕ
  pub ends : List ℕ
  -- The first start of each kind and address that is of no step of the plan.
  pub strays : List Stray
  -- Lines that are malformed, or of no step that is under way.
  pub odd : Tally
  -- The line of the last message about a step.
  pub latest : Option ℕ
  -- The most creates, updates and deletes that were under way at once.
  pub most : ℕ
  -- There was a start, of a step of the plan or not.
  pub has_starts : Bool

-- Before the first line.
abbrev pub none_begun : List PlannedStep → Begun
none_begun planned = record {
  planned = planned;
  by_step = map (λ step. None) planned;
  begins = [];
  ends = [];
  strays = [];
  odd = no_lines;
  latest = None;
  most = 0;
  has_starts = false;
}

-- What is known of the step at a place; none if it did not begin.
abbrev pub begun_at : List (Option BegunStep) → (place : ℕ) → Option BegunStep
begun_at by_step place = option_flatten (slice_get by_step place)

-- No start has taken the step at the place.
abbrev pub is_left : List (Option BegunStep) → (place : ℕ) → Bool
is_left by_step place = option_map_or is_none (slice_get by_step place) false

-- The step is a create, an update or a delete that is under way.
abbrev pub is_busy : Option BegunStep → Bool
is_busy None = false
is_busy (Some step) = is_none step.end && not (is_kind Read step.kind)

-- How many creates, updates and deletes are under way, and how many of these at a place.
abbrev pub busy_count : List (Option BegunStep) → ℕ
busy_count by_step = count_by is_busy by_step

abbrev pub busy_at : List (Option BegunStep) → (place : ℕ) → ℕ
busy_at by_step place = if is_busy (begun_at by_step place) then 1 else 0

-- What the laws of the time line are about.
use Rattle.std.specs.Prelude.{◌≡◌, ◌<◌, ℕ, ◌-◌, ℤ, get_or, List, [], Bool, true, false, if◌then◌else◌, Option, Some, None, IfSome}
use Rattle.std.specs.Int.{int_max}
use Rattle.std.specs.Option.{option_map_or}
use Rattle.stream_timeline.specs.Messages.{Message, Content, begins, ends, begins_provisioner, ends_provisioner, error, warning, version, plan_summary, summary, other, unusable, message_of}
use Rattle.stream_timeline.specs.Steps.{StepRead, places_from}
use Rattle.stream_timeline.specs.TimelineRead.{is_blank_line}

-- the message in a line; a blank line has none
abbrev pub message_in : List ℕ → Option Message
message_in line = if is_blank_line line then None else message_of line

-- the message in the line with this number, counted from 1
abbrev pub message_at : List (List ℕ) → (number : ℕ) → Option Message
message_at lines number = message_in (get_or lines (number - 1) [])

abbrev pub is_begin : Content → Bool
is_begin (begins address action) = true
is_begin (ends address action failed) = false
is_begin (begins_provisioner address name) = false
is_begin (ends_provisioner address failed) = false
is_begin (error address d) = false
is_begin (warning d) = false
is_begin (version text) = false
is_begin (plan_summary totals) = false
is_begin (summary totals) = false
is_begin other = false
is_begin unusable = false

abbrev pub starts_step : List ℕ → Bool
starts_step line = option_map_or (λ (message : Message). is_begin message.content) (message_in line) false

-- the numbers of the lines that begin a step, counted from 1
abbrev pub begin_lines : List (List ℕ) → List ℕ
begin_lines lines = places_from 1 starts_step lines

abbrev pub says : ℤ → Content → Option Message
says time content = Some (record { time = time; content = content })

-- The step begins at the time of its line, and that line begins a step with its address and action.
-- If the step has an end, a later line ends a step with this address and action, and states whether
-- it failed. The end is the time of that line, but not before the begin.
pub record IsOfItsLines (lines : List (List ℕ)) (step : StepRead) : Type 0 where
  pub begin : message_at lines step.line ≡ says step.begin (begins step.address step.action)
  pub end : IfSome step.end (λ timeline. (number : ℕ) × (time : ℤ) × (step.line < number)
      × (message_at lines number ≡ says time (ends step.address step.action step.failed))
      × (timeline ≡ int_max step.begin time))

-- What is read of a stream: its steps, diagnostics and totals, and how many lines were passed over.
use Rattle.std.specs.Prelude.{ℕ, ◌+◌, ℤ, List, [], ◌∷◌, ◌++◌, length, map, nat_lt, Bool, if◌then◌else◌, Option, Some, None}
use Rattle.std.specs.List.{fold, list_all}
use Rattle.std.specs.Option.{option_map_or}
use Rattle.serde_json.specs.Data.{Data}
use Rattle.stream_message.specs.Runs.{is_version_text}
use Rattle.stream_timeline.specs.declared.reading.time_range.TimeRange.{TimeRange}
use Rattle.stream_timeline.specs.declared.reading.totals.Totals.{Totals}
use Rattle.stream_timeline.specs.Details.{DiagnosticRead, is_blank}
use Rattle.stream_timeline.specs.Messages.{Message, Content, begins, ends, begins_provisioner, ends_provisioner, error, warning, version, plan_summary, summary, other, unusable, message_of, tree_message}
use Rattle.stream_timeline.specs.TimeRange.{with_time}
use Rattle.stream_timeline.specs.Steps.{StepRead, at_place, begun_step, ended, first_of, is_open_at, is_open_with, last_of, marked_by_error, passes_at, places, has_open_provisioner, with_provisioner, with_provisioner_ended}

-- the diagnostics of one severity: the first of them, and how many there were
pub record DiagnosticsRead : Type 0 where
  pub stored : List DiagnosticRead
  pub count : ℕ

pub record TimelineRead : Type 0 where
  -- how many lines there were
  pub lines : ℕ
  -- how many runs of Terraform begin in them
  pub runs : ℕ
  -- how many of them were passed over; blank lines are not counted
  pub passed_over : ℕ
  pub version : Option (List ℕ)
  -- the totals of the last summary that is not a plan's
  pub totals : Option Totals
  -- the totals of the last summary of a plan
  pub plan_totals : Option Totals
  -- the least and the greatest timestamp of a message
  pub time_range : Option TimeRange
  pub steps : List StepRead
  -- how many steps and provisioners have begun
  pub begun : ℕ
  pub errors : DiagnosticsRead
  pub warnings : DiagnosticsRead

-- ---- limits

-- the greatest number of steps and provisioners together
abbrev pub max_steps : ℕ
max_steps = 100000

-- how many errors are stored, and how many warnings
abbrev pub max_stored : ℕ
max_stored = 20

-- the greatest number of lines
abbrev pub max_lines : ℕ
max_lines = 4294967296

-- ---- one more message

abbrev pub with_passed_over : TimelineRead → TimelineRead
with_passed_over t = record t { passed_over = t.passed_over + 1 }

abbrev pub with_diagnostic : DiagnosticRead → DiagnosticsRead → DiagnosticsRead
with_diagnostic d ds =
    record { stored = if nat_lt (length ds.stored) max_stored then ds.stored ++ d ∷ [] else ds.stored; count = ds.count + 1 }

-- a step begins
abbrev pub with_begin : (address action : List ℕ) → ℤ → TimelineRead → TimelineRead
with_begin address action time t =
    record t { steps = t.steps ++ begun_step t.lines address action time ∷ []; begun = t.begun + 1 }

-- the oldest open step with this address and action ends
abbrev pub with_end : (address action : List ℕ) → (failed : Bool) → ℤ → TimelineRead → TimelineRead
with_end address action failed time t =
    option_map_or (λ place. record t { steps = at_place place (ended time failed) t.steps })
    (first_of (places (is_open_with address action) t.steps)) (with_passed_over t)

-- a provisioner begins in the newest open step at this address
abbrev pub with_provisioner_begin : (address name : List ℕ) → ℤ → TimelineRead → TimelineRead
with_provisioner_begin address name time t =
    option_map_or
    (λ place. record t { steps = at_place place (with_provisioner name time) t.steps; begun = t.begun + 1 })
    (last_of (places (is_open_at address) t.steps)) (with_passed_over t)

-- the newest provisioner of the step at this place ends, if it is open
abbrev pub with_provisioner_end_at : ℕ → (failed : Bool) → ℤ → TimelineRead → TimelineRead
with_provisioner_end_at place failed time t =
    if passes_at place has_open_provisioner t.steps
    then record t { steps = at_place place (with_provisioner_ended time failed) t.steps }
    else with_passed_over t

abbrev pub with_provisioner_end : (address : List ℕ) → (failed : Bool) → ℤ → TimelineRead → TimelineRead
with_provisioner_end address failed time t =
    option_map_or (λ place. with_provisioner_end_at place failed time t)
    (last_of (places (is_open_at address) t.steps)) (with_passed_over t)

-- an error is stored, and marks the steps that are open at its address
abbrev pub with_error : (address : Option (List ℕ)) → DiagnosticRead → TimelineRead → TimelineRead
with_error address d t =
    record t { errors = with_diagnostic d t.errors; steps = map (marked_by_error address) t.steps }

-- what a message with this time states is applied
abbrev pub with_content : ℤ → Content → TimelineRead → TimelineRead
with_content time (begins address action) t = with_begin address action time t
with_content time (ends address action failed) t = with_end address action failed time t
with_content time (begins_provisioner address name) t = with_provisioner_begin address name time t
with_content time (ends_provisioner address failed) t = with_provisioner_end address failed time t
with_content time (error address d) t = with_error address d t
with_content time (warning d) t = record t { warnings = with_diagnostic d t.warnings }
with_content time (version text) t = record t { version = Some text }
with_content time (plan_summary totals) t = record t { plan_totals = Some totals }
with_content time (summary totals) t = record t { totals = Some totals }
with_content time other t = t
with_content time unusable t = with_passed_over t

abbrev pub with_message : Message → TimelineRead → TimelineRead
with_message message t =
    with_content message.time message.content (record t { time_range = Some (with_time message.time t.time_range) })

-- ---- one more line

abbrev pub is_blank_line : List ℕ → Bool
is_blank_line line = list_all is_blank line

-- a line that is no message is passed over
abbrev pub with_message_or_passed_over : Option Message → TimelineRead → TimelineRead
with_message_or_passed_over message t = option_map_or (λ message. with_message message t) message (with_passed_over t)

abbrev pub with_tree : Data → TimelineRead → TimelineRead
with_tree d t = with_message_or_passed_over (tree_message d) t

abbrev pub with_line_content : List ℕ → TimelineRead → TimelineRead
with_line_content line t = if is_blank_line line then t else with_message_or_passed_over (message_of line) t

-- a line is counted, and the run that begins with it
abbrev pub counted : (begins_run : Bool) → TimelineRead → TimelineRead
counted begins_run t = record t { lines = t.lines + 1; runs = if begins_run then t.runs + 1 else t.runs }

abbrev pub counted_line : List ℕ → TimelineRead → TimelineRead
counted_line line t = counted (is_version_text line) t

abbrev pub with_line : List ℕ → TimelineRead → TimelineRead
with_line line t = with_line_content line (counted_line line t)

abbrev pub no_diagnostics : DiagnosticsRead
no_diagnostics = record { stored = []; count = 0 }

-- the time line of no lines
abbrev pub empty_timeline : TimelineRead
empty_timeline = record {
  lines = 0;
  runs = 0;
  passed_over = 0;
  version = None;
  totals = None;
  plan_totals = None;
  time_range = None;
  steps = [];
  begun = 0;
  errors = no_diagnostics;
  warnings = no_diagnostics;
}

-- the time line of the lines of a stream
abbrev pub timeline_of : List (List ℕ) → TimelineRead
timeline_of lines = fold (λ t line. with_line line t) empty_timeline lines

-- The tally of a checker, line by line, for private clauses.
use Rattle.std.specs.Prelude.{ℕ, ◌+◌, ◌-◌, ◌==◌, if◌then◌else◌, List, length, count_by, Bool, true, false, ◌&&◌, not, is_some, Some}
use Rattle.std.specs.List.{list_any}
use Rattle.stream_check.specs.declared.messages.action.Action.{Action}
use Rattle.stream_check.specs.declared.messages.intent.Intent.{Intent}
use Rattle.stream_check.specs.declared.messages.timed_stage.TimedStage.{TimedStage}
use Rattle.stream_check.specs.declared.rules.fault.Fault.{Fault}
use Rattle.stream_check.specs.declared.rules.fault.Fault.TheVariants.{NoApply, NoEnd, NoMessage}
use Rattle.stream_check.specs.declared.rules.tally.Tally.{Tally}
use Rattle.stream_check.specs.Counted.{begun_counted, counted, failures_counted, planned_counted, is_used_up}
use Rattle.stream_check.specs.Intents.{creates}
use Rattle.stream_check.specs.Message.{Message}
use Rattle.stream_check.specs.Tally.{awaits_outputs, begun_totals, completed_totals, failures_left, is_begin, is_error, is_error_without_address, is_foreign, is_plan_summary, is_planned, is_summary, is_version, line_of, no_totals, planned_totals, same_totals, share_of}

-- the tally of these messages
abbrev pub tally_of : List Message → Tally
tally_of messages = record {
  lines = length messages;
  completed = completed_totals messages;
  begun = begun_totals messages;
  planned = planned_totals messages;
  has_plan = list_any is_planned messages;
  version = line_of is_version messages;
  plan_summary = line_of is_plan_summary messages;
  summary = line_of is_summary messages;
  awaits_outputs = awaits_outputs messages;
  has_failed = list_any is_error messages;
  errors_without_address = count_by is_error_without_address messages;
  failures = failures_left messages;
  foreign = count_by is_foreign messages;
}

abbrev pub with_line : Tally → Tally
with_line t = record t { lines = t.lines + 1 }

abbrev pub with_version : Tally → Tally
with_version t = record t { lines = t.lines + 1; version = Some (t.lines + 1) }

abbrev pub with_foreign : Tally → Tally
with_foreign t = record t { lines = t.lines + 1; foreign = t.foreign + 1 }

abbrev pub with_step : Action → TimedStage → Tally → Tally
with_step action stage t = record t {
  lines = t.lines + 1;
  completed = counted action stage t.completed;
  begun = begun_counted action stage t.begun;
  failures = failures_counted action stage t.failures;
}

abbrev pub with_planned : Intent → Tally → Tally
with_planned intent t = record t { lines = t.lines + 1; planned = planned_counted intent t.planned; has_plan = true }

-- a change of this intent is a create that waits until it begins
abbrev pub awaits_create : Intent → Tally → Bool
awaits_create intent t = creates intent && t.begun.added == 0

abbrev pub with_plan_summary : Tally → Tally
with_plan_summary t = record t { lines = t.lines + 1; plan_summary = Some (t.lines + 1); awaits_outputs = true }

abbrev pub with_summary : Tally → Tally
with_summary t = record t { lines = t.lines + 1; summary = Some (t.lines + 1); awaits_outputs = true }

abbrev pub with_outputs : Tally → Tally
with_outputs t = record t { lines = t.lines + 1; awaits_outputs = false }

abbrev pub with_error : Tally → Tally
with_error t = record t { lines = t.lines + 1; has_failed = true; errors_without_address = t.errors_without_address + 1 }

abbrev pub with_error_at : ℕ → Tally → Tally
with_error_at n t = record t { lines = t.lines + 1; has_failed = true; failures = t.failures - n }

abbrev pub is_beyond : Action → TimedStage → Tally → Bool
is_beyond action stage t =
    (is_begin stage && t.has_plan) && is_used_up (share_of action t.begun) (share_of action t.planned)

abbrev pub has_nothing_begun : Tally → Bool
has_nothing_begun t = is_some t.plan_summary && (not (is_some t.summary) && same_totals t.begun no_totals)

-- the fault of a stream without an end
abbrev pub no_end_fault : Tally → Fault
no_end_fault t =
    if has_nothing_begun t then NoApply
    else if t.foreign == t.lines then NoMessage t.lines
    else NoEnd

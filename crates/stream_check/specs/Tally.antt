-- Counts over the lines before a line. The latest message is the first of the list.
use Rattle.std.specs.Prelude.{ℕ, ◌+◌, ◌-◌, ◌==◌, List, [], ◌∷◌, length, count_by, Bool, true, false, ◌&&◌, nat_lt, if◌then◌else◌, Option, Some, None}
use Rattle.stream_check.specs.declared.messages.action.Action.{Action}
use Rattle.stream_check.specs.declared.messages.action.Action.TheVariants.{Create, Update, Delete, Read, Refresh}
use Rattle.stream_check.specs.declared.messages.timed_stage.TimedStage.{TimedStage}
use Rattle.stream_check.specs.declared.messages.timed_stage.TimedStage.TheVariants.{Start, Complete, Errored}
use Rattle.stream_check.specs.declared.messages.totals.Totals.{Totals}
use Rattle.stream_check.specs.declared.rules.address_state.Failures.{Failures}
use Rattle.stream_check.specs.Intents.{creates, deletes, intent_of, updates}
use Rattle.stream_check.specs.Message.{Message, version, step, provision, planned, plan_summary, summary, diagnostic, outputs, other, foreign}
use Rattle.stream_check.specs.AddressState.{may_fail, state_of}
use Rattle.stream_check.specs.Words.{same_action}

-- ---- kinds of messages

abbrev pub is_version : Message → Bool
is_version version = true
is_version _ = false

abbrev pub is_planned : Message → Bool
is_planned (planned intent address) = true
is_planned _ = false

abbrev pub is_plan_summary : Message → Bool
is_plan_summary (plan_summary totals) = true
is_plan_summary _ = false

abbrev pub is_summary : Message → Bool
is_summary (summary totals) = true
is_summary _ = false

-- an error, whether it names an address or not
abbrev pub is_error : Message → Bool
is_error (diagnostic b address) = b
is_error _ = false

-- an error that names no address
abbrev pub is_error_without_address : Message → Bool
is_error_without_address (diagnostic b None) = b
is_error_without_address _ = false

abbrev pub is_foreign : Message → Bool
is_foreign foreign = true
is_foreign _ = false

-- the line of the latest message that passes the test
abbrev pub line_of : (Message → Bool) → List Message → Option ℕ
line_of test [] = None
line_of test (message ∷ earlier) = if test message then Some (length earlier + 1) else line_of test earlier

-- ---- totals

-- a message about a step of that action, at a stage that passes the test
abbrev pub is_step : Action → (TimedStage → Bool) → Message → Bool
is_step action test (step address k stage) = test stage && same_action k action
is_step action test _ = false

abbrev pub is_begin : TimedStage → Bool
is_begin Start = true
is_begin _ = false

abbrev pub is_completion : TimedStage → Bool
is_completion (Complete seconds) = true
is_completion _ = false

-- the message reports that the action was completed
abbrev pub completes : Action → Message → Bool
completes action message = is_step action is_completion message

-- the message reports that the action has started
abbrev pub begins : Action → Message → Bool
begins action message = is_step action is_begin message

-- how many creates, updates and deletes were completed
abbrev pub completed_totals : List Message → Totals
completed_totals messages = record {
  added = count_by (completes Create) messages;
  changed = count_by (completes Update) messages;
  removed = count_by (completes Delete) messages;
}

-- how many creates, updates and deletes have started
abbrev pub begun_totals : List Message → Totals
begun_totals messages = record {
  added = count_by (begins Create) messages;
  changed = count_by (begins Update) messages;
  removed = count_by (begins Delete) messages;
}

-- the message plans a create, an update or a delete
abbrev pub plans_create : Message → Bool
plans_create message = creates (intent_of message)

abbrev pub plans_update : Message → Bool
plans_update message = updates (intent_of message)

abbrev pub plans_delete : Message → Bool
plans_delete message = deletes (intent_of message)

-- how many creates, updates and deletes were planned; a replacement is a create and a delete
abbrev pub planned_totals : List Message → Totals
planned_totals messages = record {
  added = count_by plans_create messages;
  changed = count_by plans_update messages;
  removed = count_by plans_delete messages;
}

abbrev pub same_totals : Totals → Totals → Bool
same_totals stated actual =
    (stated.added == actual.added) && (stated.changed == actual.changed) && (stated.removed == actual.removed)

abbrev pub no_totals : Totals
no_totals = record { added = 0; changed = 0; removed = 0 }

-- the count of the action; reads and refreshes are not counted
abbrev pub share_of : Action → Totals → Option ℕ
share_of Create totals = Some totals.added
share_of Update totals = Some totals.changed
share_of Delete totals = Some totals.removed
share_of Read totals = None
share_of Refresh totals = None

-- ---- failures

abbrev pub failure_count : Option Failures → ℕ
failure_count None = 0
failure_count (Some failures) = failures.count

-- The failures that no error explains. An error with an address explains all earlier failures
-- there.
abbrev pub failures_after : Message → (earlier : List Message) → ℕ → ℕ
failures_after (step address action (Errored seconds)) earlier n = if may_fail action then n + 1 else n
failures_after (diagnostic true (Some address)) earlier n = n - failure_count (state_of address earlier).failures
failures_after _ earlier n = n

unfoldable pub failures_left : List Message → ℕ
failures_left [] = 0
failures_left (message ∷ earlier) = failures_after message earlier (failures_left earlier)

-- failures count as open where more are left than errors without an address were reported
abbrev pub failures_stand : List Message → Bool
failures_stand messages = nat_lt (count_by is_error_without_address messages) (failures_left messages)

-- ---- outputs

-- the outputs of a summary may follow
abbrev pub awaits_outputs : List Message → Bool
awaits_outputs [] = false
awaits_outputs (plan_summary totals ∷ earlier) = true
awaits_outputs (summary totals ∷ earlier) = true
awaits_outputs (outputs ∷ earlier) = false
awaits_outputs (version ∷ earlier) = awaits_outputs earlier
awaits_outputs (step address action stage ∷ earlier) = awaits_outputs earlier
awaits_outputs (provision address stage ∷ earlier) = awaits_outputs earlier
awaits_outputs (planned intent address ∷ earlier) = awaits_outputs earlier
awaits_outputs (diagnostic is_error address ∷ earlier) = awaits_outputs earlier
awaits_outputs (other ∷ earlier) = awaits_outputs earlier
awaits_outputs (foreign ∷ earlier) = awaits_outputs earlier

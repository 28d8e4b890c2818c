-- The rules of a stream: each line is checked after the lines before it.
use Rattle.std.specs.Prelude.{ℕ, ◌+◌, List, [], ◌∷◌, length, count_by, codes, Bool, true, false, ◌==◌, ◌&&◌, ◌||◌, not, nat_lt, if◌then◌else◌, Option, Some, None, is_some, Result, Ok, Err}
use Rattle.std.specs.List.{list_any}
use Rattle.std.specs.Option.{option_map_or}
use Rattle.serde_json.specs.Data.{Data}
use Rattle.apply_json.specs.Tree.{text_of, tree_of}
use Rattle.stream_check.specs.declared.messages.action.Action.{Action}
use Rattle.stream_check.specs.declared.messages.timed_stage.TimedStage.{TimedStage}
use Rattle.stream_check.specs.declared.messages.totals.Totals.{Totals}
use Rattle.stream_check.specs.declared.rules.fault.Fault.{Fault}
use Rattle.stream_check.specs.declared.rules.fault.Fault.TheVariants.{TooLong, NotJson, NoType, NoVersion, VersionAgain, AfterSummary, PlanAgain, OutputsAlone, NotPlanned, Planned, Unended, WrongTotals, WrongPlanTotals, NoEnd, NoApply, NoMessage}
use Rattle.stream_check.specs.declared.rules.mode.Mode.{Mode}
use Rattle.stream_check.specs.declared.verdict.finding.Finding.{Finding}
use Rattle.stream_check.specs.declared.verdict.whole.Whole.{Whole}
use Rattle.stream_check.specs.Counted.{is_used_up}
use Rattle.stream_lines.specs.Limits.{max_bytes}
use Rattle.stream_message.specs.Located.{from_mark, through_brace}
use Rattle.stream_check.specs.Message.{Message, version, step, provision, planned, plan_summary, summary, diagnostic, outputs, other, foreign, typed_message}
use Rattle.stream_check.specs.Open.{any_open}
use Rattle.stream_check.specs.Results.{◌>>=◌, or_refuse}
use Rattle.stream_check.specs.AddressState.{provision_on, state_of, step_on}
use Rattle.stream_check.specs.Unbegun.{any_unbegun}
use Rattle.stream_check.specs.Tally.{awaits_outputs, begun_totals, completed_totals, is_begin, is_error, is_foreign, is_plan_summary, is_planned, is_summary, is_version, line_of, no_totals, planned_totals, same_totals, share_of}

-- ---- one line by itself

-- A parsed line without a type is no message. In a log it is a message of another program.
abbrev pub untyped_message : (find : Bool) → Result Message Fault
untyped_message find = if find then Ok foreign else Err NoType

-- the message of a parsed line, whose type must be a text
unfoldable pub tree_message : (find : Bool) → Data → Result Message Fault
tree_message find d =
    option_map_or (λ name. typed_message name d) (text_of (codes "type") d) (untyped_message find)

abbrev pub text_message : (find : Bool) → List ℕ → Result Message Fault
text_message find text = or_refuse NotJson (tree_of text) >>= tree_message find

-- the message located in a line of a log: from its start up to the last brace
abbrev pub located_message : (from : Option (List ℕ)) → Result Message Fault
located_message None = Ok foreign
located_message (Some text) = or_refuse NotJson (through_brace text) >>= text_message true

-- the message of a line, which is located first in a log
unfoldable pub line_message : (find : Bool) → List ℕ → Result Message Fault
line_message find text =
    if nat_lt max_bytes (length text) then Err TooLong
    else if find then located_message (from_mark text)
    else text_message false text

-- ---- one line after others

-- messages about steps and the end come before the summary
abbrev pub before_summary : List Message → Result (List Message) Fault → Result (List Message) Fault
before_summary earlier answer = option_map_or (λ line. Err (AfterSummary line)) (line_of is_summary earlier) answer

-- once a planned change was reported, no more creates, updates and deletes start than were planned
abbrev pub is_beyond_plan : Action → TimedStage → List Message → Bool
is_beyond_plan action stage earlier =
    (is_begin stage && list_any is_planned earlier)
    && is_used_up (share_of action (begun_totals earlier)) (share_of action (planned_totals earlier))

abbrev pub within_plan : Action → TimedStage → List Message → Result (List Message) Fault → Result (List Message) Fault
within_plan action stage earlier answer = if is_beyond_plan action stage earlier then Err NotPlanned else answer

-- at the summary nothing is open, and its totals count the completed steps
abbrev pub summed : Totals → List Message → Result (List Message) Fault
summed totals earlier =
    if any_open earlier then Err Unended
    else if same_totals totals (completed_totals earlier) then Ok (summary totals ∷ earlier)
    else Err (WrongTotals totals (completed_totals earlier))

-- the summary of a plan comes once, and its totals count the planned changes
abbrev pub plan_summed : Totals → List Message → Result (List Message) Fault
plan_summed totals earlier =
    option_map_or (λ line. Err (PlanAgain line)) (line_of is_plan_summary earlier)
    (if same_totals totals (planned_totals earlier) then Ok (plan_summary totals ∷ earlier)
    else Err (WrongPlanTotals totals (planned_totals earlier)))

-- The messages after one more message, or its first fault. The version stands on line `first`. The
-- latest message is the first of the list.
abbrev pub after_version : List Message → (first : ℕ) → Message → Result (List Message) Fault
after_version earlier first version = Err (VersionAgain first)
after_version earlier first (step address action stage) =
    before_summary earlier (step_on action stage (length earlier + 1) (state_of address earlier)
    >>= λ state. within_plan action stage earlier (Ok (step address action stage ∷ earlier)))
after_version earlier first (provision address stage) =
    before_summary earlier (provision_on stage (length earlier + 1) (state_of address earlier)
    >>= λ state. Ok (provision address stage ∷ earlier))
after_version earlier first (planned intent address) = before_summary earlier (Ok (planned intent address ∷ earlier))
after_version earlier first (plan_summary totals) = before_summary earlier (plan_summed totals earlier)
after_version earlier first (summary totals) = before_summary earlier (summed totals earlier)
after_version earlier first (diagnostic b address) = Ok (diagnostic b address ∷ earlier)
after_version earlier first outputs = if awaits_outputs earlier then Ok (outputs ∷ earlier) else Err OutputsAlone
after_version earlier first other = Ok (other ∷ earlier)
after_version earlier first foreign = Ok (foreign ∷ earlier)

-- the version comes first, and only once
abbrev pub as_first : List Message → Message → Result (List Message) Fault
as_first earlier version = Ok (version ∷ earlier)
as_first earlier (step address action stage) = Err NoVersion
as_first earlier (provision address stage) = Err NoVersion
as_first earlier (planned intent address) = Err NoVersion
as_first earlier (plan_summary totals) = Err NoVersion
as_first earlier (summary totals) = Err NoVersion
as_first earlier (diagnostic b address) = Err NoVersion
as_first earlier outputs = Err NoVersion
as_first earlier other = Err NoVersion
as_first earlier foreign = Ok (foreign ∷ earlier)

abbrev pub next : List Message → Message → Result (List Message) Fault
next earlier message =
    option_map_or (λ first. after_version earlier first message) (line_of is_version earlier) (as_first earlier message)

-- the messages after one more parsed line, or its first fault
abbrev pub read_tree : (find : Bool) → List Message → Data → Result (List Message) Fault
read_tree find earlier d = tree_message find d >>= next earlier

-- the messages after one more text, or its first fault
abbrev pub read_text : (find : Bool) → List Message → List ℕ → Result (List Message) Fault
read_text find earlier text = text_message find text >>= next earlier

-- the messages after one more line, or its first fault
unfoldable pub read_line : (find : Bool) → List Message → List ℕ → Result (List Message) Fault
read_line find earlier text = line_message find text >>= next earlier

-- ---- the whole stream

-- how many lines were ignored, where `find` asks for that
abbrev pub passed_of : Mode → List Message → Option ℕ
passed_of mode messages = if mode.find then Some (count_by is_foreign messages) else None

-- the verdict on a whole stream with these totals
abbrev pub whole_with : Mode → (is_plan : Bool) → Totals → List Message → Whole
whole_with mode is_plan totals messages = record {
  totals = totals;
  has_errors = list_any is_error messages;
  lines = length messages;
  is_plan = is_plan;
  passed = passed_of mode messages;
}

-- the verdict on the stream of an apply, with the completed totals
abbrev pub whole_of : Mode → List Message → Whole
whole_of mode messages = whole_with mode false (completed_totals messages) messages

-- the verdict on the stream of a plan, with the planned totals
abbrev pub whole_plan_of : Mode → List Message → Whole
whole_plan_of mode messages = whole_with mode true (planned_totals messages) messages

-- the summary of a plan was read, no summary of an apply, and no create, update or delete has
-- started
abbrev pub is_plan_stream : List Message → Bool
is_plan_stream messages =
    is_some (line_of is_plan_summary messages)
    && (not (is_some (line_of is_summary messages)) && same_totals (begun_totals messages) no_totals)

-- each line was ignored, as the lines of a log are that hold no message
abbrev pub is_without_messages : List Message → Bool
is_without_messages messages = count_by is_foreign messages == length messages

-- why a stream has no end: it is that of a plan, it has no message, or its end is missing
abbrev pub no_end_of : List Message → Fault
no_end_of messages =
    if is_plan_stream messages then NoApply
    else if is_without_messages messages then NoMessage (length messages)
    else NoEnd

-- an apply was summed up, no error was told, and some planned create never began
abbrev pub leaves_planned : List Message → Bool
leaves_planned messages =
    (list_any is_summary messages && not (list_any is_error messages)) && any_unbegun messages

-- The verdict on the stream of an apply, or the fault of its end. Without an error each planned
-- create began. There must be a summary or an error.
abbrev pub apply_end : Mode → List Message → Result Whole Fault
apply_end mode messages =
    if leaves_planned messages then Err Planned
    else if list_any is_summary messages || list_any is_error messages then Ok (whole_of mode messages)
    else Err (no_end_of messages)

-- The verdict at the end, or the fault of the end. Nothing may be open. The stream is that of an
-- apply, or that of a plan where such a stream is accepted.
unfoldable pub end_of : Mode → List Message → Result Whole Fault
end_of mode messages =
    if any_open messages then Err Unended
    else if mode.plan && is_plan_stream messages then Ok (whole_plan_of mode messages)
    else apply_end mode messages

abbrev pub at_line : {A : Type 0} → Mode → List Message → (line : ℕ) → Result A Fault → Result A Finding
at_line mode earlier line (Ok x) = Ok x
at_line mode earlier line (Err fault) =
    Err (record { line = line; fault = fault; passed = passed_of mode earlier })

-- the verdict after the earlier messages, or the first finding; a fault of the end has the number
-- of the last line
unfoldable pub verdict_after : Mode → List Message → List (List ℕ) → Result Whole Finding
verdict_after mode earlier [] = at_line mode earlier (length earlier) (end_of mode earlier)
verdict_after mode earlier (text ∷ texts) =
    at_line mode earlier (length earlier + 1) (read_line mode.find earlier text)
    >>= λ messages. verdict_after mode messages texts

-- the verdict on a stream
abbrev pub verdict_of : Mode → List (List ℕ) → Result Whole Finding
verdict_of mode texts = verdict_after mode [] texts

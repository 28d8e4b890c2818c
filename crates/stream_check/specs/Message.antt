-- The message of a line, as far as the rules need it (Machine-Readable UI, "Message Types").
use Rattle.std.specs.Prelude.{ℕ, List, codes, Bool, ◌||◌, if◌then◌else◌, Option, Some, None, Result, Ok}
use Rattle.std.specs.Option.{option_map_or}
use Rattle.std.specs.Str.{bytes_eq}
use Rattle.serde_json.specs.Data.{Data}
use Rattle.stream_check.specs.declared.messages.action.Action.{Action}
use Rattle.stream_check.specs.declared.messages.action.Action.TheVariants.{Refresh}
use Rattle.stream_check.specs.declared.messages.intent.Intent.{Intent}
use Rattle.stream_check.specs.declared.messages.intent.Intent.TheVariants as intent
use Rattle.stream_check.specs.declared.messages.path.Path.TheVariants as path
use Rattle.stream_message.specs.declared.stage.Stage.{Stage}
use Rattle.stream_message.specs.declared.stage.Stage.TheVariants as stage
use Rattle.stream_check.specs.declared.messages.timed_stage.TimedStage.{TimedStage}
use Rattle.stream_check.specs.declared.messages.timed_stage.TimedStage.TheVariants.{Start, Progress, Complete, Errored}
use Rattle.stream_check.specs.declared.messages.totals.Totals.{Totals}
use Rattle.stream_check.specs.declared.rules.fault.Fault.{Fault}
use Rattle.apply_json.specs.Tree.{text_of}
use Rattle.stream_message.specs.Members.{resource_address}
use Rattle.stream_check.specs.Members.{count_at, object_at, text_at}
use Rattle.stream_check.specs.Results.{◌>>=◌}
use Rattle.stream_check.specs.Words.{action_named}

pub data Message : Type 0 where
  -- the version
  version : Message
  -- a stage of a step: an action on the object of an address
  step : List ℕ → Action → TimedStage → Message
  -- a stage of a provisioner of the object of an address
  provision : List ℕ → Stage → Message
  -- a planned change, with the address of its object
  planned : Intent → (address : Option (List ℕ)) → Message
  -- the summary of a plan
  plan_summary : Totals → Message
  -- the summary of an apply or a destroy
  summary : Totals → Message
  -- an error or a warning, with the address that it names
  diagnostic : (is_error : Bool) → (address : Option (List ℕ)) → Message
  -- the outputs of a plan or an apply
  outputs : Message
  -- a message that no rule is about
  other : Message
  -- a line of a log that holds no message, and is ignored
  foreign : Message

-- the address that the message is about
abbrev pub address_of : Message → Option (List ℕ)
address_of version = None
address_of (step address action stage) = Some address
address_of (provision address stage) = Some address
address_of (planned intent address) = None
address_of (plan_summary totals) = None
address_of (summary totals) = None
address_of (diagnostic is_error address) = address
address_of outputs = None
address_of other = None
address_of foreign = None

-- ---- members

-- the address and the action word of `hook`
abbrev pub subject_of : Data → Result (List ℕ × List ℕ) Fault
subject_of hook = do
  resource ← object_at path.Address (codes "resource") path.Resource hook
  address ← text_at path.Address (codes "addr") resource
  word ← text_at path.Action (codes "action") hook
  Ok (address, word)

-- the message about a step; with an unknown action it is `other`
abbrev pub step_or_other : List ℕ × List ℕ → TimedStage → Message
step_or_other subject stage = option_map_or (λ action. step subject.0 action stage) (action_named subject.1) other

-- ---- known types

unfoldable pub start_of : Data → Result Message Fault
start_of d = do
  hook ← object_at path.Address (codes "hook") path.Hook d
  subject ← subject_of hook
  Ok (step_or_other subject Start)

-- the stage with its seconds; a start has none
abbrev pub timed_stage_of : Stage → (seconds : ℕ) → TimedStage
timed_stage_of stage.Start seconds = Start
timed_stage_of stage.Progress seconds = Progress seconds
timed_stage_of stage.Complete seconds = Complete seconds
timed_stage_of stage.Errored seconds = Errored seconds

unfoldable pub timed_of : (ℕ → TimedStage) → Data → Result Message Fault
timed_of stage d = do
  hook ← object_at path.Address (codes "hook") path.Hook d
  subject ← subject_of hook
  seconds ← count_at path.Seconds (codes "elapsed_seconds") hook
  Ok (step_or_other subject (stage seconds))

-- the address of `hook`
abbrev pub hook_address_of : Data → Result (List ℕ) Fault
hook_address_of d = do
  hook ← object_at path.Address (codes "hook") path.Hook d
  resource ← object_at path.Address (codes "resource") path.Resource hook
  text_at path.Address (codes "addr") resource

-- a message about a provisioner
unfoldable pub provision_of : Stage → Data → Result Message Fault
provision_of stage d = do
  address ← hook_address_of d
  Ok (provision address stage)

-- a refresh is a step without seconds
unfoldable pub refresh_of : TimedStage → Data → Result Message Fault
refresh_of stage d = do
  address ← hook_address_of d
  Ok (step address Refresh stage)

-- the intent that a word names; `move`, `read`, `import` and others change no total
abbrev pub intent_named : List ℕ → Intent
intent_named word =
    if bytes_eq word (codes "create") then intent.Create
    else if bytes_eq word (codes "update") then intent.Update
    else if bytes_eq word (codes "delete") then intent.Delete
    else if bytes_eq word (codes "replace") then intent.Replace
    else intent.Nothing

-- a planned change; an address that is no text counts as missing
unfoldable pub planned_of : Data → Result Message Fault
planned_of d = do
  change ← object_at path.ChangeAction (codes "change") path.Change d
  word ← text_at path.ChangeAction (codes "action") change
  Ok (planned (intent_named word) (resource_address change))

-- the totals of `changes`
abbrev pub totals_in : Data → Result Totals Fault
totals_in changes = do
  added ← count_at path.Added (codes "add") changes
  changed ← count_at path.Changed (codes "change") changes
  removed ← count_at path.Removed (codes "remove") changes
  Ok (record { added = added; changed = changed; removed = removed })

-- the summary of that operation; the summary of an unknown operation is `other`
abbrev pub summary_named : List ℕ → Totals → Message
summary_named operation totals =
    if bytes_eq operation (codes "apply") || bytes_eq operation (codes "destroy") then summary totals
    else if bytes_eq operation (codes "plan") then plan_summary totals
    else other

unfoldable pub summary_of : Data → Result Message Fault
summary_of d = do
  changes ← object_at path.Operation (codes "changes") path.Changes d
  operation ← text_at path.Operation (codes "operation") changes
  totals ← totals_in changes
  Ok (summary_named operation totals)

-- an address that is no text counts as missing
unfoldable pub diagnostic_of : Data → Result Message Fault
diagnostic_of d = do
  members ← object_at path.Severity (codes "diagnostic") path.Diagnostic d
  severity ← text_at path.Severity (codes "severity") members
  Ok (diagnostic (bytes_eq severity (codes "error")) (text_of (codes "address") members))

-- the message of a type that is about no step, refresh or provisioner
abbrev pub general_message : List ℕ → Data → Result Message Fault
general_message name d =
    if bytes_eq name (codes "planned_change") then planned_of d
    else if bytes_eq name (codes "change_summary") then summary_of d
    else if bytes_eq name (codes "diagnostic") then diagnostic_of d
    else if bytes_eq name (codes "outputs") then Ok outputs
    else Ok other

-- the message of a type that is no start, progress or end of a step
abbrev pub stepless_message : List ℕ → Data → Result Message Fault
stepless_message name d =
    if bytes_eq name (codes "refresh_start") then refresh_of Start d
    else if bytes_eq name (codes "refresh_complete") then refresh_of (Complete 0) d
    else if bytes_eq name (codes "provision_start") then provision_of stage.Start d
    else if bytes_eq name (codes "provision_progress") then provision_of stage.Progress d
    else if bytes_eq name (codes "provision_complete") then provision_of stage.Complete d
    else if bytes_eq name (codes "provision_errored") then provision_of stage.Errored d
    else general_message name d

-- the message of a type, or the fault of a required member
unfoldable pub typed_message : List ℕ → Data → Result Message Fault
typed_message name d =
    if bytes_eq name (codes "version") then Ok version
    else if bytes_eq name (codes "apply_start") then start_of d
    else if bytes_eq name (codes "apply_progress") then timed_of Progress d
    else if bytes_eq name (codes "apply_complete") then timed_of Complete d
    else if bytes_eq name (codes "apply_errored") then timed_of Errored d
    else stepless_message name d

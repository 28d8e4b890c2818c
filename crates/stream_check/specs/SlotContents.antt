-- The message that the slots of a line make, for private clauses.
use Rattle.std.specs.Prelude.{⊤, ℕ, List, codes, Bool, Option, Some, None, option_map, Result, Ok, Err}
use Rattle.std.specs.Option.{option_and_then, option_map_or}
use Rattle.std.specs.Str.{bytes_eq}
use Rattle.apply_json.specs.ShallowView.{ShallowView, shallow_view, shallow_text, shallow_whole}
use Rattle.stream_message.specs.declared.changes_slots.ChangesSlots.{ChangesSlots}
use Rattle.stream_message.specs.declared.diagnostic_slots.DiagnosticSlots.{DiagnosticSlots}
use Rattle.stream_message.specs.declared.hook_slots.HookSlots.{HookSlots}
use Rattle.stream_message.specs.declared.inner_slot.InnerSlot.{InnerSlot}
use Rattle.stream_message.specs.declared.kind.Kind.{Kind}
use Rattle.stream_message.specs.declared.kind.Kind.TheVariants as kind
use Rattle.stream_message.specs.declared.line_slots.LineSlots.{LineSlots}
use Rattle.stream_message.specs.declared.presence.Presence.{Presence}
use Rattle.stream_message.specs.declared.presence.Presence.TheVariants.{Missing, NoObject, Object}
use Rattle.stream_message.specs.declared.stage.Stage.{Stage}
use Rattle.stream_message.specs.declared.stage.Stage.TheVariants as stage
use Rattle.stream_message.specs.SlotValues.{address_in, diagnostic_address_in, kind_in, provisioner_in}
use Rattle.stream_check.specs.declared.messages.action.Action.TheVariants.{Refresh}
use Rattle.stream_check.specs.declared.messages.member_fault.MemberFault.TheVariants as member_fault
use Rattle.stream_check.specs.declared.messages.path.Path.{Path}
use Rattle.stream_check.specs.declared.messages.path.Path.TheVariants as path
use Rattle.stream_check.specs.declared.messages.timed_stage.TimedStage.{TimedStage}
use Rattle.stream_check.specs.declared.messages.timed_stage.TimedStage.TheVariants.{Start}
use Rattle.stream_check.specs.declared.messages.totals.Totals.{Totals}
use Rattle.stream_check.specs.declared.rules.fault.Fault.{Fault}
use Rattle.stream_check.specs.declared.rules.fault.Fault.TheVariants.{Malformed}
use Rattle.stream_check.specs.About.{About, of_provisioner, of_step}
use Rattle.stream_check.specs.Lines.{untyped_message}
use Rattle.stream_check.specs.Message.{Message, version, step, provision, planned, plan_summary, summary, diagnostic, outputs, other, foreign, intent_named, step_or_other, summary_named, timed_stage_of}
use Rattle.stream_check.specs.Results.{◌>>=◌, or_refuse}

-- ---- required members

-- the object that holds the member; without the object, the member is missing
abbrev pub required_object : (member : Path) → (container : Path) → Presence → Result ⊤ Fault
required_object member container Missing = Err (Malformed member member_fault.Missing)
required_object member container NoObject = Err (Malformed container member_fault.NoObject)
required_object member container Object = Ok tt

abbrev pub required_text : (member : Path) → Option ShallowView → Result (List ℕ) Fault
required_text member None = Err (Malformed member member_fault.Missing)
required_text member (Some s) = or_refuse (Malformed member member_fault.NoText) (shallow_text s)

abbrev pub required_count : (member : Path) → Option ShallowView → Result ℕ Fault
required_count member None = Err (Malformed member member_fault.Missing)
required_count member (Some s) = or_refuse (Malformed member member_fault.NoWholeNumber) (shallow_whole s)

abbrev pub required_inner_text : (member : Path) → (container : Path) → InnerSlot → Result (List ℕ) Fault
required_inner_text member container slot =
    required_object member container slot.is >>= λ there. required_text member (option_map shallow_view slot.value)

-- ---- the message of the slots, or the fault of a member

abbrev pub subject_of_slots : HookSlots → Result (List ℕ × List ℕ) Fault
subject_of_slots hook = do
  address ← required_inner_text path.Address path.Resource hook.resource
  word ← required_text path.Action (option_map shallow_view hook.action)
  Ok (address, word)

abbrev pub address_of_slots : HookSlots → Result (List ℕ) Fault
address_of_slots hook =
    required_object path.Address path.Hook hook.is >>= λ there. required_inner_text path.Address path.Resource hook.resource

abbrev pub start_of_slots : HookSlots → Result Message Fault
start_of_slots hook = do
  there ← required_object path.Address path.Hook hook.is
  subject ← subject_of_slots hook
  Ok (step_or_other subject Start)

abbrev pub timed_of_slots : (ℕ → TimedStage) → HookSlots → Result Message Fault
timed_of_slots stage hook = do
  there ← required_object path.Address path.Hook hook.is
  subject ← subject_of_slots hook
  seconds ← required_count path.Seconds (option_map shallow_view hook.seconds)
  Ok (step_or_other subject (stage seconds))

abbrev pub step_of_slots : Stage → HookSlots → Result Message Fault
step_of_slots stage.Start hook = start_of_slots hook
step_of_slots stage.Progress hook = timed_of_slots (timed_stage_of stage.Progress) hook
step_of_slots stage.Complete hook = timed_of_slots (timed_stage_of stage.Complete) hook
step_of_slots stage.Errored hook = timed_of_slots (timed_stage_of stage.Errored) hook

abbrev pub provision_of_slots : Stage → HookSlots → Result Message Fault
provision_of_slots stage hook = do
  address ← address_of_slots hook
  Ok (provision address stage)

abbrev pub refresh_of_slots : TimedStage → HookSlots → Result Message Fault
refresh_of_slots stage hook = do
  address ← address_of_slots hook
  Ok (step address Refresh stage)

abbrev pub planned_of_slots : LineSlots → Result Message Fault
planned_of_slots line = do
  there ← required_object path.ChangeAction path.Change line.change.is
  word ← required_text path.ChangeAction (option_map shallow_view line.change.action)
  Ok (planned (intent_named word) (address_in line.change))

abbrev pub totals_of_slots : ChangesSlots → Result Totals Fault
totals_of_slots changes = do
  added ← required_count path.Added (option_map shallow_view changes.added)
  changed ← required_count path.Changed (option_map shallow_view changes.changed)
  removed ← required_count path.Removed (option_map shallow_view changes.removed)
  Ok (record { added = added; changed = changed; removed = removed })

abbrev pub summary_of_slots : ChangesSlots → Result Message Fault
summary_of_slots changes = do
  there ← required_object path.Operation path.Changes changes.is
  operation ← required_text path.Operation (option_map shallow_view changes.operation)
  totals ← totals_of_slots changes
  Ok (summary_named operation totals)

abbrev pub diagnostic_of_slots : DiagnosticSlots → Result Message Fault
diagnostic_of_slots members = do
  there ← required_object path.Severity path.Diagnostic members.is
  severity ← required_text path.Severity (option_map shallow_view members.severity)
  Ok (diagnostic (bytes_eq severity (codes "error")) (diagnostic_address_in members))

-- the message of that kind
abbrev pub kind_of_slots : Kind → LineSlots → Result Message Fault
kind_of_slots kind.Version line = Ok version
kind_of_slots (kind.Apply given) line = step_of_slots given line.hook
kind_of_slots (kind.Refresh given) line = refresh_of_slots (timed_stage_of given 0) line.hook
kind_of_slots (kind.Provision given) line = provision_of_slots given line.hook
kind_of_slots (kind.Ephemeral given) line = Ok other
kind_of_slots kind.Planned line = planned_of_slots line
kind_of_slots kind.Summary line = summary_of_slots line.changes
kind_of_slots kind.Diagnostic line = diagnostic_of_slots line.diagnostic
kind_of_slots kind.Outputs line = Ok outputs
kind_of_slots kind.Other line = Ok other

-- a line without a type is a message only in a log
abbrev pub message_of_slots : (find : Bool) → LineSlots → Result Message Fault
message_of_slots find line = option_map_or (λ k. kind_of_slots k line) (kind_in line.head) (untyped_message find)

-- ---- what the message is about

abbrev pub about_result : (provisioner : Option (List ℕ)) → Result Message Fault → Option About
about_result provisioner (Ok (step address action stage)) = Some (of_step action address)
about_result provisioner (Ok (provision address stage)) = Some (of_provisioner provisioner address)
about_result provisioner (Ok version) = None
about_result provisioner (Ok (planned intent address)) = None
about_result provisioner (Ok (plan_summary totals)) = None
about_result provisioner (Ok (summary totals)) = None
about_result provisioner (Ok (diagnostic is_error address)) = None
about_result provisioner (Ok outputs) = None
about_result provisioner (Ok other) = None
about_result provisioner (Ok foreign) = None
about_result provisioner (Err fault) = None

abbrev pub about_of_slots : LineSlots → Option About
about_of_slots line = option_and_then (λ k. about_result (provisioner_in line.hook) (kind_of_slots k line)) (kind_in line.head)

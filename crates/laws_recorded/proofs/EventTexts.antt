-- What a line states: its texts are UTF-8, and its JSON texts are objects, types and values.
use Rattle.std.proofs.Common.{ℕ, List, [], ◌∷◌, IsUtf8, cond, Bool, true, false, Option, Some, None, refl}
use Rattle.std.specs.Prelude.{◌&&◌, ⊤, IfSome, codes, is_some, not, option_map}
use Rattle.std.specs.List.{AllByRecursion}
use Rattle.std.specs.Option.{option_map_or}
use Rattle.std.proofs.lemmas.Str.{IsUtf8-nil}
use Rattle.json.proofs.Printed.Utf8.{IsUtf8-are_ascii}
use Rattle.serde_json.specs.Data.{Data}
use Rattle.apply_json.specs.Tree.{◌>>=◌, member_of, non_empty_text_of, text_of, tree_of, unless_empty}
use Rattle.apply_model.specs.declared.details.note.Note.{Note}
use Rattle.apply_model.specs.declared.details.note.Severity.{Severity}
use Rattle.apply_model.specs.declared.plan.step_kind.StepKind.{StepKind}
use Rattle.stream_message.specs.Located.{from_mark}
use Rattle.stream_message.specs.Members.{address_of, changes_text, diagnostic_text, hook_text, kind_of}
use Rattle.stream_message.specs.Runs.{text_in}
use Rattle.stream_message.specs.declared.kind.Kind.{Kind}
use Rattle.stream_message.specs.declared.kind.Kind.TheVariants as kind
use Rattle.stream_message.specs.declared.stage.Stage.{Stage}
use Rattle.stream_message.specs.declared.stage.Stage.TheVariants as stage
use Rattle.stream_record_lines.specs.Lines.{message_in, stated_line, without_message}
use Rattle.stream_record_lines.specs.Messages.{completed_after, diagnostic_of, event_of, kind_named, message_of, note_of, provisioner_name, provisioner_of, provisioner_with, second_of, seconds_of, severity_named, stage_of_provisioner, stage_of_step, step_at, step_of, step_with, summary_named, summary_of, text_or_empty}
use Rattle.stream_record_lines.specs.declared.event.Event.{Event}
use Rattle.stream_record_lines.specs.declared.event.Event.TheVariants as event
use Rattle.stream_record_lines.specs.declared.provisioner.ProvisionerStage.{ProvisionerStage}
use Rattle.stream_record_lines.specs.declared.provisioner.ProvisionerStage.TheVariants as provisioner_stage
use Rattle.stream_record_lines.specs.declared.stated_line.StatedLine.{StatedLine}
use Rattle.stream_record_lines.specs.declared.stated_line.StatedLine.TheVariants.{Foreign, NoMessage, Message}
use Rattle.stream_record_lines.specs.declared.stated_message.StatedMessage.{StatedMessage}
use Rattle.stream_record_lines.specs.declared.step.StepStage.{StepStage}
use Rattle.stream_record_lines.specs.declared.step.StepStage.TheVariants as step_stage
use Rattle.laws_recorded.specs.Texts.{depth_recorded}
use Rattle.laws_record.specs.Writable.{IsFilled, IsWritableDiag}
use Rattle.laws_check.proofs.Given.{any_given, mapped, next_of, unwrapped}
use Rattle.laws_check.proofs.Legible.{IsLegible, tree_legible}
use Rattle.laws_check.proofs.LookUps.{member_legible, non_empty_utf8, text_utf8}
use Rattle.laws_recorded.proofs.Members.{range_sound}
use Rattle.laws_recorded.proofs.OutputTexts.{IsSoundOutput, outputs_sound}

-- ---- what is sound

pub record IsRecordedNote (note : Note) : Type 0 where
  pub diag : IsWritableDiag depth_recorded note.diag
  pub address : IfSome note.address IsFilled

abbrev pub IsSoundStage : StepStage → Type 0
IsSoundStage (step_stage.Began id) = ⊤
IsSoundStage (step_stage.Progress seconds) = ⊤
IsSoundStage (step_stage.Completed seconds id_key id) = IfSome id IsUtf8
IsSoundStage (step_stage.Failed seconds) = ⊤

abbrev pub IsSoundTurn : ProvisionerStage → Type 0
IsSoundTurn provisioner_stage.Began = ⊤
IsSoundTurn (provisioner_stage.Wrote output) = IsUtf8 output
IsSoundTurn provisioner_stage.Ended = ⊤
IsSoundTurn provisioner_stage.Failed = ⊤

abbrev pub IsSoundEvent : Event → Type 0
IsSoundEvent (event.Version ui) = ⊤
IsSoundEvent (event.Step step) = IsSoundStage step.stage
IsSoundEvent (event.Provisioner provisioner) = IsUtf8 provisioner.name × IsSoundTurn provisioner.stage
IsSoundEvent event.Ephemeral = ⊤
IsSoundEvent (event.Diagnostic note) = IsRecordedNote note
IsSoundEvent (event.Summary summary) = ⊤
IsSoundEvent (event.Outputs outputs) = AllByRecursion IsSoundOutput outputs
IsSoundEvent event.Malformed = ⊤
IsSoundEvent event.Other = ⊤

abbrev pub IsSoundMessage : StatedMessage → Type 0
IsSoundMessage message = IsSoundEvent message.event

abbrev pub IsSoundLine : StatedLine → Type 0
IsSoundLine Foreign = ⊤
IsSoundLine NoMessage = ⊤
IsSoundLine (Message message) = IsSoundMessage message

-- ---- texts of `hook` and `diagnostic`

hook_utf8 : (name : List ℕ) (d : Data) → IsLegible d → IfSome (hook_text name d) IsUtf8
hook_utf8 name d h = next_of IsLegible IsUtf8 (member_of (codes "hook") d) (text_of name) (member_legible (codes "hook") d h) (text_utf8 name)

diagnostic_utf8 : (name : List ℕ) (d : Data) → IsLegible d → IfSome (diagnostic_text name d) IsUtf8
diagnostic_utf8 name d h = next_of IsLegible IsUtf8 (member_of (codes "diagnostic") d) (text_of name) (member_legible (codes "diagnostic") d h) (text_utf8 name)

unless_none : (text : List ℕ) → IsUtf8 text → IfSome (unless_empty text) IsFilled
unless_none [] h = tt
unless_none (byte ∷ bytes) h = record { utf8 = h; filled = λ e. cc }

filled_text : (name : List ℕ) (d : Data) → IsLegible d → IfSome (non_empty_text_of name d) IsFilled
filled_text name d h = next_of IsUtf8 IsFilled (text_of name d) unless_empty (text_utf8 name d h) unless_none

-- ---- steps

stage_sound : (s : Stage) (d : Data) → IsLegible d → IfSome (stage_of_step s d) IsSoundStage
stage_sound stage.Start d h = tt
stage_sound stage.Progress d h = mapped (λ _. Unit {0}) IsSoundStage step_stage.Progress (seconds_of d) (λ n u. tt) (any_given (seconds_of d))
stage_sound stage.Complete d h = mapped (λ _. Unit {0}) IsSoundStage (completed_after d) (seconds_of d) (λ n u. hook_utf8 (codes "id_value") d h) (any_given (seconds_of d))
stage_sound stage.Errored d h = mapped (λ _. Unit {0}) IsSoundStage step_stage.Failed (seconds_of d) (λ n u. tt) (any_given (seconds_of d))

at_sound : (address word : List ℕ) (s : StepStage) → IsSoundStage s → IsSoundEvent (step_at address word s)
at_sound address word s h = of_kind (kind_named word)
  where
    of_kind : (o : Option StepKind) → IsSoundEvent (option_map_or (step_with address s) o event.Other)
    of_kind None = tt
    of_kind (Some k) = h

step_sound : (s : Stage) (d : Data) → IsLegible d → IfSome (step_of s d) IsSoundEvent
step_sound s d h =
    next_of (λ _. Unit {0}) IsSoundEvent (address_of d) (λ address. hook_text (codes "action") d >>= λ word. option_map (step_at address word) (stage_of_step s d)) (any_given (address_of d))
    (λ address u. next_of (λ _. Unit {0}) IsSoundEvent (hook_text (codes "action") d) (λ word. option_map (step_at address word) (stage_of_step s d)) (any_given (hook_text (codes "action") d))
    (λ word v. mapped IsSoundStage IsSoundEvent (step_at address word) (stage_of_step s d) (at_sound address word) (stage_sound s d h)))

-- ---- provisioners

name_utf8 : (d : Data) → IsLegible d → IsUtf8 (provisioner_name d)
name_utf8 d h =
    unwrapped IsUtf8 (member_of (codes "hook") d >>= non_empty_text_of (codes "provisioner")) (codes "?")
    (next_of IsLegible IsUtf8 (member_of (codes "hook") d) (non_empty_text_of (codes "provisioner")) (member_legible (codes "hook") d h) (non_empty_utf8 (codes "provisioner")))
    (IsUtf8-are_ascii (63 ∷ []) refl)

turn_sound : (s : Stage) (d : Data) → IsLegible d → IfSome (stage_of_provisioner s d) IsSoundTurn
turn_sound stage.Start d h = tt
turn_sound stage.Progress d h = mapped IsUtf8 IsSoundTurn provisioner_stage.Wrote (hook_text (codes "output") d) (λ text utf8. utf8) (hook_utf8 (codes "output") d h)
turn_sound stage.Complete d h = tt
turn_sound stage.Errored d h = tt

provisioner_sound : (s : Stage) (d : Data) → IsLegible d → IfSome (provisioner_of s d) IsSoundEvent
provisioner_sound s d h =
    next_of (λ _. Unit {0}) IsSoundEvent (address_of d) (λ address. option_map (provisioner_with address (provisioner_name d)) (stage_of_provisioner s d)) (any_given (address_of d))
    (λ address u. mapped IsSoundTurn IsSoundEvent (provisioner_with address (provisioner_name d)) (stage_of_provisioner s d) (λ turn sound. (name_utf8 d h, sound)) (turn_sound s d h))

-- ---- diagnostics

part_utf8 : (name : List ℕ) (d : Data) → IsLegible d → IsUtf8 (text_or_empty name d)
part_utf8 name d h = unwrapped IsUtf8 (diagnostic_text name d) (codes "") (diagnostic_utf8 name d h) IsUtf8-nil

note_sound : (text : List ℕ) (d : Data) (severity : Severity) → IsLegible d → IsRecordedNote (note_of text d severity)
note_sound text d severity h = record {
  diag = record {
    summary = part_utf8 (codes "summary") d h;
    detail = part_utf8 (codes "detail") d h;
    range = range_sound (codes "range") text;
    snippet = range_sound (codes "snippet") text;
  };
  address = next_of IsLegible IsFilled (member_of (codes "diagnostic") d) (non_empty_text_of (codes "address")) (member_legible (codes "diagnostic") d h) (filled_text (codes "address"));
}

diagnostic_sound : (text : List ℕ) (d : Data) → IsLegible d → IfSome (diagnostic_of text d) IsSoundEvent
diagnostic_sound text d h =
    mapped (λ _. Unit {0}) IsSoundEvent (λ severity. event.Diagnostic (note_of text d severity)) (diagnostic_text (codes "severity") d >>= severity_named) (λ severity u. note_sound text d severity h)
    (any_given (diagnostic_text (codes "severity") d >>= severity_named))

-- ---- the message

summary_sound : (d : Data) → IfSome (summary_of d) IsSoundEvent
summary_sound d = mapped (λ _. Unit {0}) IsSoundEvent event.Summary (changes_text (codes "operation") d >>= summary_named) (λ summary u. tt) (any_given (changes_text (codes "operation") d >>= summary_named))

event_sound : (text : List ℕ) (d : Data) (k : Kind) → IsLegible d → IsSoundEvent (event_of text d k)
event_sound text d kind.Version h = tt
event_sound text d (kind.Apply s) h = unwrapped IsSoundEvent (step_of s d) event.Malformed (step_sound s d h) tt
event_sound text d (kind.Refresh s) h = tt
event_sound text d (kind.Provision s) h = unwrapped IsSoundEvent (provisioner_of s d) event.Malformed (provisioner_sound s d h) tt
event_sound text d (kind.Ephemeral s) h = tt
event_sound text d kind.Planned h = tt
event_sound text d kind.Summary h = unwrapped IsSoundEvent (summary_of d) event.Other (summary_sound d) tt
event_sound text d kind.Diagnostic h = unwrapped IsSoundEvent (diagnostic_of text d) event.Other (diagnostic_sound text d h) tt
event_sound text d kind.Outputs h = outputs_sound text
event_sound text d kind.Other h = tt

message_sound : (text : List ℕ) → IfSome (message_in text) IsSoundMessage
message_sound text =
    next_of IsLegible IsSoundMessage (tree_of text) (message_of text) (tree_legible text)
    (λ d h. mapped (λ _. Unit {0}) IsSoundMessage (λ k. record { second = second_of d; event = event_of text d k }) (kind_of d) (λ k u. event_sound text d k h) (any_given (kind_of d)))

either_line : (foreign : Bool) → IsSoundLine (cond foreign Foreign NoMessage)
either_line true = tt
either_line false = tt

pub line_sound : (find : Bool) (line : List ℕ) → IsSoundLine (stated_line find line)
line_sound find line =
    of_message (text_in find line >>= message_in)
    (next_of (λ _. Unit {0}) IsSoundMessage (text_in find line) message_in (any_given (text_in find line)) (λ text u. message_sound text))
  where
    of_message : (o : Option StatedMessage) → IfSome o IsSoundMessage → IsSoundLine (option_map_or Message o (without_message find line))
    of_message None h = either_line (find && not (is_some (from_mark line)))
    of_message (Some message) h = h

-- What the stream of an apply states, message by message.
use Rattle.std.specs.Prelude.{ℕ, ℤ, pos, ◌++◌, List, [], ◌∷◌, codes, Bool, ◌||◌, true, false, if◌then◌else◌, Option, Some, None, is_some, unwrap_or}
use Rattle.std.specs.List.{list_any}
use Rattle.std.specs.Option.{option_map_or, option_or}
use Rattle.std.specs.Str.{bytes_eq}
use Rattle.apply_model.specs.Plan.SavedPlan.{SavedPlan}
use Rattle.apply_model.specs.declared.details.note.Note.{Note}
use Rattle.apply_model.specs.declared.details.note.Severity.{Severity}
use Rattle.apply_model.specs.declared.details.note.Severity.TheVariants as severity
use Rattle.stream_record_lines.specs.declared.event.Event.{Event}
use Rattle.stream_record_lines.specs.declared.event.Event.TheVariants as event
use Rattle.stream_record_lines.specs.declared.outputs.output.Output.{Output}
use Rattle.stream_record_lines.specs.declared.stated_message.StatedMessage.{StatedMessage}
use Rattle.stream_record_lines.specs.declared.summary.Summary.{Summary}
use Rattle.stream_record_lines.specs.declared.summary.Summary.TheVariants as sums
use Rattle.stream_record_steps.specs.Begun.{Begun, none_begun}
use Rattle.stream_record_steps.specs.Steps.{planned_steps}
use Rattle.stream_record_steps.specs.Taken.{after_provisioner, after_step}
use Rattle.stream_record_steps.specs.Tallies.{no_lines}
use Rattle.stream_record_steps.specs.UnderWay.{with_odd}
use Rattle.stream_record_steps.specs.declared.tally.Tally.{Tally}

-- What the lines of a stream state.
pub record StreamRead : Type 0 where
  -- the steps of the plan that began
  pub begun : Begun
  -- the errors and warnings, in their order
  pub notes : List Note
  -- the outputs of the last message that has some
  pub outputs : List Output
  -- the lines that are no message
  pub no_message : Tally
  -- the line of the first message about an ephemeral resource
  pub ephemeral : Option ℕ
  -- the last summary of an apply or a destroy
  pub summary : Option Summary
  -- the version of the interface is that of the default form
  pub is_default_form : Bool
  -- the second of the last message
  pub last_second : ℤ

-- before the first line
abbrev pub no_stream : SavedPlan → StreamRead
no_stream plan = record {
  begun = none_begun (planned_steps plan.changes);
  notes = [];
  outputs = [];
  no_message = no_lines;
  ephemeral = None;
  summary = None;
  is_default_form = false;
  last_second = pos 0;
}

-- What stands before a plan's summary is passed over, but for the lines that are no message, the
-- version and the second.
abbrev pub passed_over : SavedPlan → StreamRead → StreamRead
passed_over plan stream = record (no_stream plan) {
  no_message = stream.no_message;
  is_default_form = stream.is_default_form;
  last_second = stream.last_second;
}

-- the version of the interface that the default form states
abbrev pub is_default_version : Option (List ℕ) → Bool
is_default_version ui = option_map_or (λ version. bytes_eq version (codes "1.0")) ui false

-- what a summary makes of the stream
abbrev pub with_summary : SavedPlan → Summary → StreamRead → StreamRead
with_summary plan sums.Plan stream = passed_over plan stream
with_summary plan sums.Apply stream = record stream { summary = Some sums.Apply }
with_summary plan sums.Destroy stream = record stream { summary = Some sums.Destroy }

-- what a message on this line makes of the stream; its second is that of the stream
abbrev pub with_event : SavedPlan → (line : ℕ) → Event → StreamRead → StreamRead
with_event plan line (event.Version ui) stream = record stream { is_default_form = is_default_version ui }
with_event plan line (event.Step step) stream = record stream { begun = after_step line stream.last_second step stream.begun }
with_event plan line (event.Provisioner provisioner) stream =
    record stream { begun = after_provisioner line stream.last_second provisioner stream.begun }
with_event plan line event.Ephemeral stream = record stream { ephemeral = option_or stream.ephemeral (Some line) }
with_event plan line (event.Diagnostic note) stream = record stream { notes = stream.notes ++ note ∷ [] }
with_event plan line (event.Summary summary) stream = with_summary plan summary stream
with_event plan line (event.Outputs outputs) stream = record stream { outputs = outputs }
with_event plan line event.Malformed stream = record stream { begun = with_odd line stream.begun }
with_event plan line event.Other stream = stream

-- The second of a message is that of its timestamp, else that of the message before.
abbrev pub with_second : Option ℤ → StreamRead → StreamRead
with_second second stream = record stream { last_second = unwrap_or second stream.last_second }

-- what a message on this line makes of the stream
abbrev pub after_message : SavedPlan → (line : ℕ) → StatedMessage → StreamRead → StreamRead
after_message plan line message stream = with_event plan line message.event (with_second message.second stream)

-- ---- a stream that was cut off

abbrev pub is_error : Severity → Bool
is_error severity.Error = true
is_error severity.Warning = false

abbrev pub has_error : List Note → Bool
has_error notes = list_any (λ note. is_error note.severity) notes

-- The second of the last message, if the stream was cut off: it has no summary of an apply or a
-- destroy, and no error.
abbrev pub cut_off_at : StreamRead → Option ℤ
cut_off_at stream = if is_some stream.summary || has_error stream.notes then None else Some stream.last_second

-- What is known of a stream: sound texts, line after line.
use Rattle.std.proofs.Common.{◌≡◌, ℕ, ◌+◌, List, [], ◌∷◌, cond, length, nat_lt, Bool, true, false, Option, Some, None, Result, Ok, Err, subst}
use Rattle.std.specs.Prelude.{◌&&◌, IfOk, not}
use Rattle.std.specs.List.{AllByRecursion}
use Rattle.std.specs.Option.{option_map_or}
use Rattle.apply_model.specs.Plan.SavedPlan.{SavedPlan}
use Rattle.stream_lines.specs.Limits.{max_bytes}
use Rattle.stream_record_lines.specs.Lines.{stated_line}
use Rattle.stream_record_lines.specs.declared.event.Event.{Event}
use Rattle.stream_record_lines.specs.declared.event.Event.TheVariants as event
use Rattle.stream_record_lines.specs.declared.stated_line.StatedLine.{StatedLine}
use Rattle.stream_record_lines.specs.declared.stated_line.StatedLine.TheVariants.{Foreign, NoMessage, Message}
use Rattle.stream_record_lines.specs.declared.stated_message.StatedMessage.{StatedMessage}
use Rattle.stream_record_lines.specs.declared.summary.Summary.{Summary}
use Rattle.stream_record_lines.specs.declared.summary.Summary.TheVariants as sums
use Rattle.stream_record_steps.specs.Steps.{planned_steps}
use Rattle.stream_record_stream.specs.Reading.{Known, at_end, either, is_of_another_plan, nothing_known, read_after, read_of, repeated, version_again, with_line, with_mark, with_message, with_stated}
use Rattle.stream_record_stream.specs.Streams.{StreamRead, after_message, with_event, with_second, with_summary}
use Rattle.stream_record_stream.specs.declared.stream_fault.StreamFault.{StreamFault}
use Rattle.stream_record_stream.specs.declared.stream_fault.StreamFault.TheVariants as fault
use Rattle.laws_recorded.proofs.BegunTexts.{IsSoundBegun, none_sound, provisioner_kept, step_kept}
use Rattle.laws_recorded.proofs.EventTexts.{IsRecordedNote, IsSoundEvent, IsSoundLine, line_sound}
use Rattle.laws_recorded.proofs.Lists.{joined}
use Rattle.laws_recorded.proofs.OutputTexts.{IsSoundOutput}

pub record IsSoundStream (stream : StreamRead) : Type 0 where
  pub begun : IsSoundBegun stream.begun
  pub notes : AllByRecursion IsRecordedNote stream.notes
  pub outputs : AllByRecursion IsSoundOutput stream.outputs

abbrev IsSoundKnown : Known → Type 0
IsSoundKnown known = IsSoundStream known.stream

-- ---- one message

summary_kept : (plan : SavedPlan) (summary : Summary) (stream : StreamRead) → IsSoundStream stream → IsSoundStream (with_summary plan summary stream)
summary_kept plan sums.Plan stream h = record { begun = none_sound (planned_steps plan.changes); notes = tt; outputs = tt }
summary_kept plan sums.Apply stream h = record { begun = h.begun; notes = h.notes; outputs = h.outputs }
summary_kept plan sums.Destroy stream h = record { begun = h.begun; notes = h.notes; outputs = h.outputs }

event_kept : (plan : SavedPlan) (line : ℕ) (e : Event) (stream : StreamRead) → IsSoundEvent e → IsSoundStream stream → IsSoundStream (with_event plan line e stream)
event_kept plan line (event.Version ui) stream one h = record { begun = h.begun; notes = h.notes; outputs = h.outputs }
event_kept plan line (event.Step step) stream one h =
    record { begun = step_kept line stream.last_second step stream.begun one h.begun; notes = h.notes; outputs = h.outputs }
event_kept plan line (event.Provisioner provisioner) stream one h =
    record { begun = provisioner_kept line stream.last_second provisioner stream.begun one h.begun; notes = h.notes; outputs = h.outputs }
event_kept plan line event.Ephemeral stream one h = record { begun = h.begun; notes = h.notes; outputs = h.outputs }
event_kept plan line (event.Diagnostic note) stream one h = record { begun = h.begun; notes = joined IsRecordedNote stream.notes (note ∷ []) h.notes (one, tt); outputs = h.outputs }
event_kept plan line (event.Summary summary) stream one h = summary_kept plan summary stream h
event_kept plan line (event.Outputs outputs) stream one h = record { begun = h.begun; notes = h.notes; outputs = one }
event_kept plan line event.Malformed stream one h = record { begun = record { by_step = h.begun.by_step }; notes = h.notes; outputs = h.outputs }
event_kept plan line event.Other stream one h = h

message_kept : (plan : SavedPlan) (line : ℕ) (message : StatedMessage) (stream : StreamRead) → IsSoundEvent message.event → IsSoundStream stream → IsSoundStream (after_message plan line message stream)
message_kept plan line message stream one h =
    event_kept plan line message.event (with_second message.second stream) one (record { begun = h.begun; notes = h.notes; outputs = h.outputs })

-- ---- one line

stated_kept : (plan : SavedPlan) (number : ℕ) (stated : StatedLine) (known : Known) → IsSoundLine stated → IsSoundKnown known → IfOk (with_stated plan number stated known) IsSoundKnown
stated_kept plan number Foreign known one h = h
stated_kept plan number NoMessage known one h = record { begun = h.begun; notes = h.notes; outputs = h.outputs }
stated_kept plan number (Message message) known one h = unless_repeated (repeated message known)
  where
    unless_repeated : (o : Option ℕ) → IfOk (option_map_or Err o (Ok (with_message plan number message known))) IsSoundKnown
    unless_repeated None = message_kept plan number message known.stream one h
    unless_repeated (Some first) = tt

line_kept : (plan : SavedPlan) (find : Bool) (number : ℕ) (line : List ℕ) (known : Known) → IsSoundKnown known → IfOk (with_line plan find number line known) IsSoundKnown
line_kept plan find number line known h =
    stated_kept plan number (stated_line find line) (with_mark line known) (line_sound find line) (record { begun = h.begun; notes = h.notes; outputs = h.outputs })

-- ---- all lines

end_kept : (find : Bool) (known : Known) → IsSoundKnown known → IfOk (at_end find known) IsSoundStream
end_kept find known h = of_tests (not known.has_message) (is_of_another_plan known.stream.begun)
  where
    of_tests : (a b : Bool) → IfOk (cond a (Err (fault.NoMessage (not find && known.has_mark))) (cond b (Err fault.NoStepOfPlan) (Ok known.stream))) IsSoundStream
    of_tests true b = tt
    of_tests false true = tt
    of_tests false false = h

unless_long : (long : Bool) (f : StreamFault) (r : Result StreamRead StreamFault) → IfOk r IsSoundStream → IfOk (cond long (Err f) r) IsSoundStream
unless_long true f r h = tt
unless_long false f r h = h

go_on : (r : Result Known ℕ) (more : Known → Result StreamRead StreamFault) (f : ℕ → StreamFault) → ((known : Known) → IsSoundKnown known → IfOk (more known) IsSoundStream)
    → IfOk r IsSoundKnown → IfOk (either r more (λ first. Err (f first))) IsSoundStream
go_on (Ok known) more f step h = step known h
go_on (Err first) more f step h = tt

after_sound : (plan : SavedPlan) (find : Bool) (number : ℕ) (known : Known) (lines : List (List ℕ)) → IsSoundKnown known → IfOk (read_after plan find number known lines) IsSoundStream
after_sound plan find number known [] h = end_kept find known h
after_sound plan find number known (line ∷ lines) h =
    unless_long (nat_lt max_bytes (length line)) (fault.TooLong number)
    (either (with_line plan find number line known) (λ more. read_after plan find (number + 1) more lines) (λ first. Err (version_again find number first lines)))
    (go_on (with_line plan find number line known) (λ more. read_after plan find (number + 1) more lines) (λ first. version_again find number first lines)
    (λ more sound. after_sound plan find (number + 1) more lines sound) (line_kept plan find number line known h))

pub read_sound : (plan : SavedPlan) (find : Bool) (before : ℕ) (lines : List (List ℕ)) (stream : StreamRead) → read_of plan find before lines ≡ Ok stream → IsSoundStream stream
read_sound plan find before lines stream e =
    subst (λ r. IfOk r IsSoundStream) e
    (after_sound plan find (before + 1) (nothing_known plan) lines (record { begun = none_sound (planned_steps plan.changes); notes = tt; outputs = tt }))

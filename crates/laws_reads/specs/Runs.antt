-- What is read of the stream of a run.
use Rattle.std.specs.Prelude.{◌≡◌, ℕ, pos, List, Bool, if◌then◌else◌, Option, Some, None, option_map}
use Rattle.apply_model.specs.declared.details.note.Note.{Note}
use Rattle.apply_events.specs.declared.event.Event as told
use Rattle.apply_text.specs.declared.operation.Operation.{Operation}
use Rattle.apply_text.specs.declared.operation.Operation.TheVariants.{Apply, Destroy}
use Rattle.stream_record_lines.specs.declared.outputs.output.Output.{Output}
use Rattle.stream_record_lines.specs.declared.summary.Summary.{Summary}
use Rattle.stream_record_lines.specs.declared.summary.Summary.TheVariants as sums
use Rattle.stream_record_steps.specs.Begun.{none_begun}
use Rattle.stream_record_steps.specs.Steps.{planned_steps}
use Rattle.stream_record_steps.specs.Tallies.{no_lines}
use Rattle.stream_record_stream.specs.Streams.{StreamRead, cut_off_at}
use Rattle.laws_begun.specs.Telling.{Telling, after_events}

abbrev pub summary_of : Operation → Summary
summary_of Apply = sums.Apply
summary_of Destroy = sums.Destroy

-- In Terraform's form an error leaves out what comes after the diagnostics.
abbrev pub unless : {T : Type 0} → (left_out : Bool) → T → Option T
unless left_out value = if left_out then None else Some value

-- What is read of the stream of a run. The first message of a hook stands on this line.
pub record IsOfRun (telling : Telling) (start line : ℕ) (events : List told.Event) (notes : List Note) (outputs : List Output)
    (summary : Option Operation) (is_default_form : Bool) (read : StreamRead) : Type 0 where
  pub begun : read.begun ≡ after_events telling (pos start) line events (none_begun (planned_steps telling.plan.changes))
  pub notes_are : read.notes ≡ notes
  pub outputs_are : read.outputs ≡ outputs
  pub summary_is : read.summary ≡ option_map (λ operation. summary_of operation) summary
  pub form : read.is_default_form ≡ is_default_form
  pub no_message : read.no_message ≡ no_lines
  pub ephemeral : read.ephemeral ≡ None
  pub whole : cut_off_at read ≡ None

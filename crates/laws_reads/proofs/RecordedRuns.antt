-- What is recorded of a run whose stream is whole.
use Rattle.std.proofs.Common.{ℕ, Bool, List, Option, ap, ◌∙◌, subst}
use Rattle.std.specs.Prelude.{pos}
use Rattle.apply_model.specs.declared.details.note.Note.{Note}
use Rattle.apply_events.specs.declared.event.Event as told
use Rattle.apply_text.specs.declared.operation.Operation.{Operation}
use Rattle.stream_record_lines.specs.declared.outputs.output.Output.{Output}
use Rattle.stream_record_steps.specs.Begun.{Begun, none_begun}
use Rattle.stream_record_steps.specs.Steps.{planned_steps}
use Rattle.stream_record_stream.specs.Streams.{StreamRead}
use Rattle.stream_record_outcomes.specs.Assignment.{considered}
use Rattle.stream_record_script.specs.Recordings.{PlanRead, circumstances_of, notes_in, steps_in}
use Rattle.laws_reads.specs.Outcomes.{AreRecorded}
use Rattle.laws_reads.specs.Runs.{IsOfRun}
use Rattle.laws_begun.specs.Telling.{Telling}
use Rattle.laws_reads.proofs.Outcomes.{whole_recording}
use Rattle.laws_reads.proofs.PlanKept.{events_keep}

-- the recording of a run
pub run_is_recorded : (given : PlanRead) (telling : Telling) (start line : ℕ) (events : List told.Event) (notes : List Note) (outputs : List Output)
    (summary : Option Operation) (is_default_form : Bool) (read : StreamRead)
    → IsOfRun telling start line events notes outputs summary is_default_form read
    → AreRecorded telling.plan.changes read.begun (considered (circumstances_of given.note read) read.notes) is_default_form (steps_in given read) (notes_in given read)
run_is_recorded given telling start line events notes outputs summary is_default_form read is =
    let planned = ap (λ (b : Begun). b.planned) is.begun ∙ events_keep telling (pos start) line events (none_begun (planned_steps telling.plan.changes)) in
    subst (λ (form : Bool). AreRecorded telling.plan.changes read.begun (considered (circumstances_of given.note read) read.notes) form (steps_in given read) (notes_in given read)) is.form
    (whole_recording telling.plan.changes (circumstances_of given.note read) read.begun read.notes planned is.whole)

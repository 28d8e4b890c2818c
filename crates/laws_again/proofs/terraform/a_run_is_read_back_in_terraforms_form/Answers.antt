use Rattle.std.proofs.Common.{◌∙◌, ◌<◌, ◌+◌, ◌++◌, List, map, Option, false, refl, ap, inr, arith}
use Rattle.apply_events.specs.Totals.{totals_of}
use Rattle.apply_model.specs.declared.details.note.Note.{Note}
use Rattle.apply_plan_terraform.specs.declared.plan_notes.PlanNote.{PlanNote}
use Rattle.apply_run.specs.Bytes.{IsRead}
use Rattle.apply_run.specs.Read.{extras_of}
use Rattle.apply_text.specs.Order.{hook_messages_of}
use Rattle.apply_text_terraform.specs.Message.{diagnostic_address}
use Rattle.apply_writer.specs.Stream.Terraform.{contains_error}
use Rattle.stream_record_outcomes.specs.Assignment.{considered}
use Rattle.stream_record_script.specs.Recordings.{circumstances_of}
use Rattle.laws_lines.specs.Reading.{outputs_read}
use Rattle.laws_lines.specs.Stated.{told_in_form}
use Rattle.laws_own_streams.specs.Runs.{notes_read_by_ends_in_form, planned_count, shown_in_form, without_hooks}
use Rattle.laws_reads.specs.Runs.{unless}
use Rattle.laws_texts.specs.TimeLines.{notes_by_ends}
use Rattle.laws_again.specs.Streams.{inputs_of}
use Rattle.laws_again.proofs.Considered.{left_out, shown_last}
use Rattle.laws_again.proofs.PlainRuns.{events_end, given_of_steps, messages_end}
use Rattle.laws_again.proofs.terraform.a_run_is_read_back_in_terraforms_form.Goals as goal

pub returns-clause-back : goal.returns-clause-back
returns-clause-back c plan script stated lanes start operation events of_plan read run early apart ends shown finished note_is reads =
    let saved = stated.plan in
    let steps = stated.script in
    let line = run.time_line in
    let some = run.sizes.some in
    let positive : 0 < lanes = omega (arith, some) in
    let given = inputs_of plan script in
    let work = without_hooks saved steps in
    let hooks = hook_messages_of events in
    let extras = extras_of stated in
    let first = 2 + planned_count saved stated.details.changes in
    let telling = told_in_form saved steps stated.details.changes in
    let notes = notes_read_by_ends_in_form saved steps extras events in
    let told = map shown_in_form (notes_by_ends diagnostic_address saved steps events) in
    let circumstances = circumstances_of stated.details.note read in
    let is : IsRead given saved steps = record { plan_is = run.read.plan_is; script_is = run.read.script_is } in
    let follow = c.a_run_of_what_was_read_can_be_followed.ensures given work events is refl apart (events_end saved steps events ends) in
    let got = c.a_run_of_a_finished_plan_is_read_in_terraforms_form.ensures plan script stated lanes start operation events read run.read finished
    (record { hooks = refl; some = some; line = line; starts = early }) shown.reads (messages_end steps hooks ends) reads in
    let are = c.the_steps_of_a_run_are_recorded.ensures of_plan telling start first hooks notes (outputs_read extras operation (totals_of saved events))
    (unless (contains_error extras.notes (totals_of saved events)) operation) false read got in record {
      own = record {
        hooks = refl;
        some = some;
        line = line;
        apart = follow.apart;
        outcomes = given_of_steps saved script steps is.script_is;
        ends = ends;
      };
      whole = c.hook_messages_of_a_run_are_of_whole_steps.ensures work lanes events positive follow line;
      plan = refl;
      script = refl;
      begun_is = got.begun;
      form = inr (record { other = refl; address = refl; deletes = shown.deletes });
      notes_are = ap (λ (n : Option PlanNote). considered (circumstances_of n read) read.notes) note_is
          ∙ ap (considered circumstances) got.notes_are
          ∙ ap (λ (ns : List Note). considered circumstances (told ++ ns)) (shown_last stated.details.note finished stated.extras.notes)
          ∙ left_out stated.details.note finished read told (map shown_in_form stated.extras.notes);
      recorded_are = are;
    }

pub returns-clause-notes : goal.returns-clause-notes
returns-clause-notes c plan script stated lanes start operation events read run early ends shown finished reads =
    (c.a_run_of_a_finished_plan_is_read_in_terraforms_form.ensures plan script stated lanes start operation events read run.read finished
    (record { hooks = refl; some = run.sizes.some; line = run.time_line; starts = early }) shown.reads
    (messages_end stated.script (hook_messages_of events) ends) reads).notes_are
    ∙ c.shallow_diagnostics_are_read_whole.ensures plan script stated events run.read shown.shallow

pub returns-clause-outputs : goal.returns-clause-outputs
returns-clause-outputs c plan script stated lanes start operation events read run early ends shown finished reads =
    (c.a_run_of_a_finished_plan_is_read_in_terraforms_form.ensures plan script stated lanes start operation events read run.read finished
    (record { hooks = refl; some = run.sizes.some; line = run.time_line; starts = early }) shown.reads
    (messages_end stated.script (hook_messages_of events) ends) reads).outputs_are

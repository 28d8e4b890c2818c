use Rattle.std.proofs.Common.{◌≡◌, ◌<◌, ◌≤◌, ◌^◌, ◌+◌, ◌++◌, List, false, length, subst, ap, map, arith}
use Rattle.apply_model.specs.declared.details.note.Note.{Note}
use Rattle.apply_events.specs.Totals.{totals_of}
use Rattle.apply_hooks.specs.Hooks.{max_hooks}
use Rattle.apply_text_terraform.specs.declared.form.Form.TheVariants.{Terraform}
use Rattle.apply_run.specs.FromBytes.{work_for}
use Rattle.apply_run.specs.Read.{applied_plan, applied_script, extras_of}
use Rattle.apply_text.specs.Order.{hook_messages_of}
use Rattle.apply_text_terraform.specs.Message.{diagnostic_address}
use Rattle.apply_writer.specs.Stream.Terraform.{contains_error}
use Rattle.laws_lines.specs.Reading.{outputs_read}
use Rattle.laws_lines.specs.Stated.{told_in_form}
use Rattle.laws_own_streams.specs.Runs.{planned_count, shown_in_form}
use Rattle.laws_own_streams.proofs.FilledAddresses.{loose_filled}
use Rattle.laws_own_streams.proofs.OwnReads.{form_read}
use Rattle.laws_own_streams.proofs.ReadScripts.{applied_addressed, applied_told}
use Rattle.laws_own_streams.proofs.a_run_in_lanes_is_read_in_terraforms_form.Goals as goal
use Rattle.laws_reads.specs.Runs.{IsOfRun, unless}
use Rattle.laws_texts.proofs.TimeLineStreams.{told_by_ends}

pub returns-clause-as_told : goal.returns-clause-as_told
returns-clause-as_told c given stated lanes start operation events read is run succeed reads =
    let plan = applied_plan stated in
    let script = applied_script stated in
    let work = work_for Terraform given stated in
    let some : 0 < lanes = (let low = run.some in omega arith) in
    let few_hooks : length given.hooks ≤ max_hooks = (let none : length given.hooks ≡ 0 = ap length run.hooks in omega arith) in
    let limits = (c.what_was_read_for_terraforms_form_may_be_applied.ensures given stated is).limits in
    let fit = c.every_event_of_a_time_line_can_happen.ensures work lanes events some limits few_hooks run.line in
    let few : length events < 2 ^ 64 = (let most = c.a_time_line_has_few_events.ensures.few work lanes events some limits run.line in omega arith) in
    form_read plan script start operation events read
    (record {
      bits = c.events_that_can_happen_fit_bits.ensures plan script events limits.short_steps fit few;
      told = applied_told stated given.script is.script_is start events run.starts fit;
      fit = fit;
      falls = c.the_time_of_a_time_line_never_falls.ensures.of_steps work lanes events run.line;
    })
    (extras_of stated) (c.what_was_read_for_terraforms_form_can_be_read_back.ensures given stated is)
    (applied_addressed stated (c.no_address_is_empty.ensures given.plan stated.plan is.plan_is))
    (loose_filled given.script stated is.extras_are) succeed
    (c.an_error_is_read_if_there_is_no_summary.ensures given stated lanes start events is run) reads

pub returns-clause-by_ends : goal.returns-clause-by_ends
returns-clause-by_ends c given stated lanes start operation events read is run succeed ends reads =
    let plan = applied_plan stated in
    let extras = extras_of stated in
    subst
    (λ (l : List Note).
    IsOfRun (told_in_form plan (applied_script stated) stated.details.changes) start (2 + planned_count plan stated.details.changes) (hook_messages_of events)
    (map shown_in_form l ++ map shown_in_form extras.notes) (outputs_read extras operation (totals_of plan events)) (unless (contains_error extras.notes (totals_of plan events)) operation) false read)
    (told_by_ends diagnostic_address plan (work_for Terraform given stated) lanes events run.hooks run.line ends)
    (returns-clause-as_told c given stated lanes start operation events read is run succeed reads)

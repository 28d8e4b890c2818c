use Rattle.std.proofs.Common.{◌≡◌, ◌∙◌, ◌++◌, List, [], Bool, cond, Option, sym, ap, ap₂, subst}
use Rattle.std.specs.Prelude.{map}
use Rattle.serde_json.specs.Data.{no_members}
use Rattle.apply_model.specs.declared.details.note.Note.{Note}
use Rattle.apply_model.specs.declared.details.output as model
use Rattle.apply_plan_terraform.specs.declared.plan_notes.PlanNote.{PlanNote}
use Rattle.apply_plan_terraform.specs.Notes.{written_notes}
use Rattle.apply_plan_terraform.specs.Outputs.{OutputsOfPlan, written_outputs}
use Rattle.apply_run.specs.Read.{extras_of}
use Rattle.apply_text.specs.declared.operation.Operation.{Operation}
use Rattle.apply_text_terraform.specs.Message.{diagnostic_address}
use Rattle.apply_writer.specs.Stream.Terraform.{StreamExtras}
use Rattle.stream_record_lines.specs.declared.outputs.output.Output.{Output}
use Rattle.stream_record_outcomes.specs.Assignment.{considered}
use Rattle.stream_record_script.specs.Outputs.{script_outputs}
use Rattle.stream_record_script.specs.Recordings.{circumstances_of, notes_in, steps_in}
use Rattle.laws_lines.specs.Reading.{outputs_of_apply}
use Rattle.laws_outputs.specs.Again.{AreShownAlike, told_again}
use Rattle.laws_lines.specs.Outputs.{outputs_told}
use Rattle.laws_own_streams.specs.Runs.{shown_in_form}
use Rattle.laws_record.specs.Extras.{outputs_by_name}
use Rattle.laws_texts.specs.TimeLines.{notes_by_ends}
use Rattle.laws_again.specs.TerraformStreams.{AreOutputsAgain}
use Rattle.laws_again.proofs.Considered.{with_last, with_left_out}
use Rattle.laws_again.proofs.terraform.a_script_that_goes_alike_has_the_stream_of_its_run_in_terraforms_form.Goals as goal

pub returns : goal.returns
returns c plan script stated other other_extras lanes start operation events others of_plan read run soon apart ends shown finished note_is reads alike has known_outputs extras_are line =
    let saved = stated.plan in
    let steps = stated.script in
    let extras = extras_of stated in
    let recorded = steps_in of_plan read in
    let left = notes_in of_plan read in
    let loose = map shown_in_form stated.extras.notes in
    let known = considered (circumstances_of of_plan.note read) read.notes in
    let told = notes_by_ends diagnostic_address saved steps events in
    let back = c.a_run_is_read_back_in_terraforms_form.ensures.back plan script stated lanes start operation events of_plan read run soon apart ends shown finished note_is reads in
    let notes_are = c.a_run_is_read_back_in_terraforms_form.ensures.notes plan script stated lanes start operation events read run soon ends shown finished reads in
    let outputs_are = c.a_run_is_read_back_in_terraforms_form.ensures.outputs plan script stated lanes start operation events read run soon ends shown finished reads in
    let same_outputs = c.outputs_that_were_read_come_again.ensures.shown plan script stated run.read in
    let outputs_again : AreOutputsAgain saved extras other_extras operation events = λ passed apply.
    (let read_are : read.outputs ≡ outputs_told extras.outputs =
    outputs_are ∙ ap₂ (λ (b : Bool) (o : Operation). cond b [] (outputs_of_apply o (outputs_told extras.outputs))) passed apply in
    let same : other_extras.outputs ≡ told_again stated.details.outputs extras.outputs =
    ap (λ (e : StreamExtras). e.outputs) extras_are
    ∙ ap₂ (λ (p : OutputsOfPlan) (os : List Output). written_outputs stated.details.outputs (outputs_by_name (script_outputs p os) no_members)) known_outputs read_are in
    subst (λ (os : List model.Output.Output). AreShownAlike os extras.outputs) (sym same) same_outputs) in
    c.a_run_that_was_read_back_has_the_same_stream_in_terraforms_form.ensures saved steps other extras other_extras lanes start operation events others read.begun loose known recorded left back alike has line
    (record {
      details = ap (λ (e : StreamExtras). e.details) extras_are;
      of_plan = written_notes stated.details.note [];
      notes_are = ap₂ (λ (n : Option PlanNote) (ns : List Note). considered (circumstances_of n read) ns ++ written_notes stated.details.note []) note_is notes_are
          ∙ with_left_out stated.details.note finished read told stated.extras.notes;
      left_are = ap (λ (e : StreamExtras). e.notes) extras_are ∙ sym (with_last stated.details.note finished left);
      outputs = outputs_again;
    })

use Rattle.std.proofs.Common.{◌∙◌, ◌++◌, List, refl, sym, ap}
use Rattle.std.proofs.lemmas.List.{append_assoc}
use Rattle.apply_model.specs.declared.details.note.Note.{Note}
use Rattle.apply_text.specs.Order.{hook_messages_of}
use Rattle.apply_text_terraform.specs.Message.{diagnostic_address}
use Rattle.apply_writer.specs.Stream.Terraform.{StreamExtras, planned_id_of}
use Rattle.laws_lines.specs.Stated.{id_in_form}
use Rattle.laws_own_streams.specs.Runs.{without_hooks}
use Rattle.laws_texts.specs.TimeLines.{notes_by_ends}
use Rattle.laws_again.specs.TerraformStreams.{terraform_reading}
use Rattle.laws_again.proofs.TerraformRuns.{id_is, same_outputs}
use Rattle.laws_again.proofs.terraform.a_run_that_was_read_back_has_the_same_stream_in_terraforms_form.Goals as goal

pub returns : goal.returns
returns c saved steps other extras other_extras lanes start operation events others begun loose notes recorded left back goes has line beyond =
    let work = without_hooks saved steps in
    let again = without_hooks saved other in
    let reading = terraform_reading saved steps extras.details start in
    let first = c.works_that_go_alike_have_the_same_hook_messages.ensures work again lanes events goes back.own.line in
    let same = c.time_lines_are_unique.ensures again lanes others first.0 line first.1 in
    let known = c.what_is_recorded_goes_as_the_steps_went.ensures work lanes events reading begun loose notes recorded left back in
    let with_outputs : StreamExtras = record { details = extras.details; notes = extras.notes; outputs = other_extras.outputs } in
    c.time_lines_that_end_alike_have_the_same_stream_in_terraforms_form.ensures work again with_outputs other_extras start operation lanes lanes events others (record {
      beyond = record { details = beyond.details; outputs = refl };
      messages = record {
        no_hooks = refl;
        others_no_hooks = refl;
        line = back.own.line;
        others_line = line;
        hooks = ap hook_messages_of same ∙ first.2;
        alike = λ d k kind begins at.
            (let is = known.began d k kind at begins in
            c.recorded_outcomes_end_as_the_steps_ended.ensures.planned work lanes d k begun recorded (id_in_form saved steps extras.details) other kind
            (planned_id_of extras.details d) known has at begins
            (id_is saved steps extras.details d k is.change kind is.change_at is.kind_at));
      };
      notes = ap (λ (l : List Note). notes_by_ends diagnostic_address saved other events ++ l) beyond.left_are
          ∙ sym (append_assoc (notes_by_ends diagnostic_address saved other events) left beyond.of_plan)
          ∙ ap (λ (l : List Note). l ++ beyond.of_plan) (c.recorded_diagnostics_come_again.ensures.again work lanes events reading begun loose notes recorded left other back has)
          ∙ beyond.notes_are;
    })
    ∙ same_outputs saved steps extras start events operation extras.outputs other_extras.outputs
    (c.no_stream_depends_on_a_sensitive_value.ensures.outputs saved steps extras.details extras.notes other_extras.outputs extras.outputs start operation events)
    beyond.outputs

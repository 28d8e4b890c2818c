use Rattle.std.proofs.Common.{sym, subst}
use Rattle.std.specs.Prelude.{map}
use Rattle.apply_model.specs.Script.OutcomeMap.{OutcomeMap}
use Rattle.stream_record_outcomes.specs.Assignment.{considered}
use Rattle.stream_record_script.specs.Recordings.{choices_of, circumstances_of, notes_in, steps_in}
use Rattle.laws_lanes.specs.Alike.{GoesAlike}
use Rattle.laws_own_streams.specs.Runs.{shown_in_form, without_hooks}
use Rattle.laws_steps_again.specs.Again.{HasRecorded}
use Rattle.laws_again.specs.TerraformStreams.{terraform_reading}
use Rattle.laws_again.proofs.unwaited_in_terraforms_form.a_recorded_script_without_waits_has_the_stream_of_its_run_in_terraforms_form.Goals as goal

pub returns : goal.returns
returns c plan script stated other other_extras lanes start operation events others after early of_plan read wishes run soon told finished note_is in_lanes reads are sound other_is known_outputs extras_are line =
    let saved = stated.plan in
    let steps = stated.script in
    let work = without_hooks saved steps in
    let recorded = steps_in of_plan read in
    let left = notes_in of_plan read in
    let loose = map shown_in_form stated.extras.notes in
    let known_notes = considered (circumstances_of of_plan.note read) read.notes in
    let reading = terraform_reading saved steps stated.details.changes start in
    let choices = choices_of of_plan wishes read in
    let apart = told.told.addresses in
    let ends = told.told.ends in
    let unnamed = told.told.none in
    let back = c.a_run_is_read_back_in_terraforms_form.ensures.back plan script stated lanes start operation events of_plan read run soon apart ends told.shown finished note_is reads in
    let without = c.a_stream_without_waits_gets_none.ensures work lanes events reading read.begun loose known_notes recorded left choices after early back unnamed in_lanes are in
    let known = c.the_steps_of_a_run_without_waits_are_known.ensures work lanes events reading read.begun loose known_notes recorded left choices after early back unnamed are sound without in
    let alike = c.a_script_of_known_steps_has_what_was_recorded.ensures.alike work lanes read.begun recorded after known in
    let has = c.a_script_of_known_steps_has_what_was_recorded.ensures.outcomes work lanes events reading read.begun loose known_notes recorded left after back known in
    c.a_script_that_goes_alike_has_the_stream_of_its_run_in_terraforms_form.ensures plan script stated other other_extras lanes start operation events others of_plan read
    run soon apart ends told.shown finished note_is reads
    (subst (λ (s : OutcomeMap). GoesAlike work (without_hooks saved s) lanes) (sym other_is) alike)
    (subst (HasRecorded work lanes recorded) (sym other_is) has)
    known_outputs extras_are line

use Rattle.std.proofs.Common.{[], sym, subst}
use Rattle.apply_model.specs.Script.OutcomeMap.{OutcomeMap}
use Rattle.stream_record_script.specs.Recordings.{choices_of, notes_in, steps_in}
use Rattle.laws_lanes.specs.Alike.{GoesAlike}
use Rattle.laws_own_streams.specs.Runs.{without_hooks}
use Rattle.laws_steps_again.specs.Again.{HasRecorded}
use Rattle.laws_again.specs.ReadBack.{plain_reading}
use Rattle.laws_again.proofs.plain.a_recorded_script_has_the_stream_of_its_run.Goals as goal

pub returns : goal.returns
returns c plan script saved steps other lanes start operation events others graph waits after early of_plan read wishes run soon told pins reads are recorded_are other_is line =
    let work = without_hooks saved steps in
    let recorded = steps_in of_plan read in
    let left = notes_in of_plan read in
    let reading = plain_reading saved steps start in
    let choices = choices_of of_plan wishes read in
    let back = c.a_run_is_read_back.ensures plan script saved steps lanes start operation events of_plan read run soon told.addresses told.ends reads in
    let known = c.the_steps_of_what_was_read_back_are_known.ensures work lanes events reading read.begun [] read.notes recorded left graph waits back are (told.waits waits are) in
    let alike = c.a_work_goes_alike_with_the_script_of_its_stream.ensures.alike work lanes read.begun recorded waits after early choices known pins recorded_are in
    let has = c.a_work_goes_alike_with_the_script_of_its_stream.ensures.outcomes work lanes events reading read.begun [] read.notes recorded left waits after early choices back known pins recorded_are in
    c.a_run_that_was_read_back_has_the_same_stream.ensures saved steps other lanes start operation events others read.begun read.notes recorded left back
    (subst (λ (s : OutcomeMap). GoesAlike work (without_hooks saved s) lanes) (sym other_is) alike)
    (subst (HasRecorded work lanes recorded) (sym other_is) has)
    line

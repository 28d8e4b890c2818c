use Rattle.std.proofs.Common.{[], sym, subst}
use Rattle.apply_model.specs.Script.OutcomeMap.{OutcomeMap}
use Rattle.stream_record_script.specs.Recordings.{choices_of, notes_in, steps_in}
use Rattle.laws_lanes.specs.Alike.{GoesAlike}
use Rattle.laws_own_streams.specs.Runs.{without_hooks}
use Rattle.laws_steps_again.specs.Again.{HasRecorded}
use Rattle.laws_again.specs.ReadBack.{plain_reading}
use Rattle.laws_again.proofs.unwaited.a_recorded_script_without_waits_has_the_stream_of_its_run.Goals as goal

pub returns : goal.returns
returns c plan script saved steps other lanes start operation events others after early of_plan read wishes run soon told reads are sound none other_is line =
    let work = without_hooks saved steps in
    let recorded = steps_in of_plan read in
    let left = notes_in of_plan read in
    let reading = plain_reading saved steps start in
    let choices = choices_of of_plan wishes read in
    let back = c.a_run_is_read_back.ensures plan script saved steps lanes start operation events of_plan read run soon told.addresses told.ends reads in
    let known = c.the_steps_of_a_run_without_waits_are_known.ensures work lanes events reading read.begun [] read.notes recorded left choices after early back told.none are sound none in
    let alike = c.a_script_of_known_steps_has_what_was_recorded.ensures.alike work lanes read.begun recorded after known in
    let has = c.a_script_of_known_steps_has_what_was_recorded.ensures.outcomes work lanes events reading read.begun [] read.notes recorded left after back known in
    c.a_run_that_was_read_back_has_the_same_stream.ensures saved steps other lanes start operation events others read.begun read.notes recorded left back
    (subst (λ (s : OutcomeMap). GoesAlike work (without_hooks saved s) lanes) (sym other_is) alike)
    (subst (HasRecorded work lanes recorded) (sym other_is) has)
    line

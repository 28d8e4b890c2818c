use Rattle.std.proofs.Common.{◌∙◌, List, ap, arith, length, refl, sym}
use Rattle.std.specs.Prelude.{slice_get}
use Rattle.std.proofs.lemmas.Option.{slice_get_read}
use Rattle.stream_record_steps.specs.Steps.{PlannedStep}
use Rattle.stream_record_script.proofs.RunTimes.{few_seconds}
use Rattle.stream_record_script.proofs.runs.steps_of_plan.Goals as goal

pub run_at-run-requires : goal.run_at-run-requires
run_at-run-requires c =
    let planned = c.planned-planned.result.now in
    let place = c.loop-place.place in
    let step = c.index-planned-place.result in
    few_seconds c.args.begun.now.planned c.args.recorded.now place step c.requires
    (ap (λ (steps : List PlannedStep). slice_get steps place) (sym c.planned-planned.ensures)
    ∙ slice_get_read planned (length planned) place step refl (omega arith) c.index-planned-place.is)

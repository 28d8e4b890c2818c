use Rattle.std.proofs.Common.{◌≡◌, ◌∙◌, ℕ, List, Bool, true, false, Option, Some, refl, sym, subst}
use Rattle.apply_plan_terraform.specs.ReadDetails.{DetailsOfPlan}
use Rattle.apply_run.specs.Read.{StatedInputs, extras_of, is_unfinished}
use Rattle.stream_record_script.specs.Recordings.{choices_of, steps_in}
use Rattle.stream_record_script.specs.Runs.{steps_of_plan}
use Rattle.stream_record_waits.specs.Recorded.{AreRecordedWaits}
use Rattle.laws_again.specs.TerraformStreams.{IsToldWholeInForm}
use Rattle.laws_again.proofs.ComesAgain.{as_it_is, graph_waits}
use Rattle.laws_again.proofs.TerraformComesAgain.{inputs, plan_read, stream_written, told_again}
use Rattle.laws_again.proofs.terraform.a_stream_of_our_own_comes_again_in_terraforms_form.Goals as goal

pub returns-clause-stream : goal.returns-clause-stream
returns-clause-stream c plan script graph choice lanes start operation stream text warnings again own soon told as_is is anew = of_test (is_unfinished details.note) refl
  where
    details : DetailsOfPlan
    details = is.is.parts.details.details

    of_test : (unfinished : Bool) → is_unfinished details.note ≡ unfinished → again ≡ stream
    of_test true unfinished =
        c.a_plan_left_unfinished_has_one_stream.ensures plan script (Some text) details lanes start operation stream again is.is.parts.details.read unfinished own anew
    of_test false finished =
        let of_plan = plan_read plan (Some graph) choice stream text warnings is in
        let read = is.is.read in
        let both = told_again (λ (s : StatedInputs). IsToldWholeInForm s lanes graph) plan script (Some graph) choice lanes start operation stream text warnings again is own told finished
        (as_it_is is.saved choice stream read as_is is.is.parts.was_read) anew
        (c.a_run_accepts_each_script_that_record_writes.ensures.same plan (Some graph) choice stream text warnings is)
        (c.outputs_and_diagnostics_of_a_stream_are_read_back.ensures plan (Some graph) choice stream text warnings is) in
        let first = both.first in
        let second = both.second in
        let waits = graph_waits is.saved.changes graph is.waits is.stated in
        second.stream_is
        ∙ c.a_recorded_script_has_the_stream_of_its_run_in_terraforms_form.ensures plan script (inputs is.saved details first.has.steps first.has.extras) second.steps
        (extras_of (inputs is.saved details second.steps second.extras)) lanes start operation first.has.events second.events
        graph waits.0 is.is.is.after is.is.is.early of_plan read choice.wishes first.has.run soon first.told
        finished is.is.parts.details.note_is as_is.pins_nothing both.reads waits.1.1
        (subst (λ (o : Option (List (List ℕ))). AreRecordedWaits (steps_of_plan read.begun (steps_in of_plan read)) o (choices_of of_plan choice.wishes read) is.is.is.after is.is.is.early)
        waits.1.0 is.is.is.waits)
        both.steps_are is.is.parts.details.outputs_are both.extras_are second.run.time_line
        ∙ sym first.has.stream_is

pub returns-clause-applied : goal.returns-clause-applied
returns-clause-applied c plan script graph choice lanes start operation stream text warnings again report other_report before after other_before other_after applied none all soon told as_is is anew other_none other_all =
    returns-clause-stream c plan script graph choice lanes start operation stream text warnings again
    (stream_written plan script lanes start operation report before after stream applied none all)
    soon told as_is is
    (stream_written plan (Some text) lanes start operation other_report other_before other_after again anew other_none other_all)

use Rattle.std.proofs.Common.{◌≡◌, ◌∙◌, ℕ, List, Option, Some, Ok, false, sym, subst}
use Rattle.apply_model.specs.Plan.SavedPlan.{SavedPlan}
use Rattle.stream_lines.specs.Cut.{cut_lines}
use Rattle.stream_record_script.specs.Recordings.{PlanRead, choices_of, steps_in}
use Rattle.stream_record_script.specs.Runs.{steps_of_plan}
use Rattle.stream_record_stream.specs.Reading.{read_of}
use Rattle.stream_record_waits.specs.Recorded.{AreRecordedWaits}
use Rattle.laws_record.specs.Writable.{written}
use Rattle.laws_waits.specs.Scripts.{recorded_script}
use Rattle.laws_again.proofs.ComesAgain.{HasStream, HasWholeStream, as_it_is, graph_waits, stream_written}
use Rattle.laws_again.proofs.plain.a_stream_of_our_own_comes_again.Goals as goal

pub returns-clause-stream : goal.returns-clause-stream
returns-clause-stream c plan script graph choice lanes start operation stream text warnings again own soon told as_is is anew =
    let of_plan : PlanRead = record { plan = is.saved; note = is.is.note; outputs = is.is.outputs } in
    let read = is.is.read in
    let here : own.saved ≡ is.saved = (let both = sym own.run.read.plan_is ∙ is.read in cc) in
    let there : anew.saved ≡ is.saved = (let both = sym anew.run.read.plan_is ∙ is.read in cc) in
    let first : HasWholeStream plan script graph is.saved lanes start operation stream = subst
    (λ (s : SavedPlan). HasWholeStream plan script graph s lanes start operation stream) here
    (record { has = record { steps = own.steps; events = own.events; run = own.run; stream_is = own.stream_is }; told = told }) in
    let second : HasStream plan (Some text) is.saved lanes start operation again = subst
    (λ (s : SavedPlan). HasStream plan (Some text) s lanes start operation again) there
    (record { steps = anew.steps; events = anew.events; run = anew.run; stream_is = anew.stream_is }) in
    let waits = graph_waits is.saved.changes graph is.waits is.stated in
    let reads = subst (λ (bytes : List ℕ). read_of is.saved false 0 (cut_lines bytes) ≡ Ok read) first.has.stream_is (as_it_is is.saved choice stream read as_is is.is.parts.was_read) in
    let same = c.a_run_accepts_each_script_that_record_writes.ensures.same plan (Some graph) choice stream text warnings is in
    let other_is : second.steps ≡ written is.saved.changes (recorded_script is.saved read.begun (steps_in of_plan read) is.is.is.after) = (let both = sym second.run.read.script_is ∙ same in cc) in
    second.stream_is
    ∙ c.a_recorded_script_has_the_stream_of_its_run.ensures plan script is.saved first.has.steps second.steps lanes start operation first.has.events second.events
    graph waits.0 is.is.is.after is.is.is.early of_plan read choice.wishes first.has.run soon first.told
    as_is.pins_nothing reads waits.1.1
    (subst (λ (o : Option (List (List ℕ))). AreRecordedWaits (steps_of_plan read.begun (steps_in of_plan read)) o (choices_of of_plan choice.wishes read) is.is.is.after is.is.is.early) waits.1.0 is.is.is.waits)
    other_is second.run.time_line
    ∙ sym first.has.stream_is

pub returns-clause-applied : goal.returns-clause-applied
returns-clause-applied c plan script graph choice lanes start operation stream text warnings again report other_report before after other_before other_after applied none all soon told as_is is anew other_none other_all =
    returns-clause-stream c plan script graph choice lanes start operation stream text warnings again
    (stream_written plan script lanes start operation report before after stream applied none all)
    soon told as_is is
    (stream_written plan (Some text) lanes start operation other_report other_before other_after again anew other_none other_all)

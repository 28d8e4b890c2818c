use Rattle.std.proofs.Common.{◌≡◌, ◌∙◌, ℕ, List, [], Option, Some, None, Ok, false, sym, subst}
use Rattle.apply_model.specs.Plan.SavedPlan.{SavedPlan}
use Rattle.stream_lines.specs.Cut.{cut_lines}
use Rattle.stream_record_script.specs.Recordings.{PlanRead, choices_of, notes_in, steps_in}
use Rattle.stream_record_script.specs.Runs.{steps_of_plan}
use Rattle.stream_record_stream.specs.Reading.{read_of}
use Rattle.stream_record_waits.specs.Recorded.{AreRecordedWaits}
use Rattle.laws_own_streams.specs.Runs.{without_hooks}
use Rattle.laws_record.specs.Writable.{written}
use Rattle.laws_waits.specs.Scripts.{recorded_script}
use Rattle.laws_again.specs.ReadBack.{plain_reading}
use Rattle.laws_again.proofs.ComesAgain.{HasStream, stream_written}
use Rattle.laws_again.proofs.WithoutGraph.{HasStreamWithoutWaits, no_waits_stated, whole_as_it_is}
use Rattle.laws_again.proofs.unwaited.a_stream_without_waits_comes_again.Goals as goal

pub returns-clause-stream : goal.returns-clause-stream
returns-clause-stream c plan script choice lanes start operation stream text warnings again own soon told as_is is anew =
    let of_plan : PlanRead = record { plan = is.saved; note = is.is.note; outputs = is.is.outputs } in
    let read = is.is.read in
    let recorded = steps_in of_plan read in
    let choices = choices_of of_plan choice.wishes read in
    let here : own.saved ≡ is.saved = (let both = sym own.run.read.plan_is ∙ is.read in cc) in
    let there : anew.saved ≡ is.saved = (let both = sym anew.run.read.plan_is ∙ is.read in cc) in
    let first : HasStreamWithoutWaits plan script is.saved lanes start operation stream = subst
    (λ (s : SavedPlan). HasStreamWithoutWaits plan script s lanes start operation stream) here
    (record { has = record { steps = own.steps; events = own.events; run = own.run; stream_is = own.stream_is }; told = told }) in
    let second : HasStream plan (Some text) is.saved lanes start operation again = subst
    (λ (s : SavedPlan). HasStream plan (Some text) s lanes start operation again) there
    (record { steps = anew.steps; events = anew.events; run = anew.run; stream_is = anew.stream_is }) in
    let reads = subst (λ (bytes : List ℕ). read_of is.saved false 0 (cut_lines bytes) ≡ Ok read) first.has.stream_is
    (whole_as_it_is is.saved choice lanes stream read as_is is.is.parts.was_read) in
    let same = c.a_run_accepts_each_script_that_record_writes.ensures.same plan None choice stream text warnings is in
    let other_is : second.steps ≡ written is.saved.changes (recorded_script is.saved read.begun recorded is.is.is.after) = (let both = sym second.run.read.script_is ∙ same in cc) in
    let are = subst (λ (o : Option (List (List ℕ))). AreRecordedWaits (steps_of_plan read.begun recorded) o choices is.is.is.after is.is.is.early)
    (no_waits_stated is.saved.changes is.waits is.stated) is.is.is.waits in
    let back = c.a_run_is_read_back.ensures plan script is.saved first.has.steps lanes start operation first.has.events of_plan read
    first.has.run soon first.told.addresses first.told.ends reads in
    let none = c.a_stream_without_waits_gets_none.ensures (without_hooks is.saved first.has.steps) lanes first.has.events (plain_reading is.saved first.has.steps start)
    read.begun [] read.notes recorded (notes_in of_plan read) choices is.is.is.after is.is.is.early back first.told.none as_is.in_lanes are in
    second.stream_is
    ∙ c.a_recorded_script_without_waits_has_the_stream_of_its_run.ensures plan script is.saved first.has.steps second.steps lanes start operation first.has.events second.events
    is.is.is.after is.is.is.early of_plan read choice.wishes first.has.run soon first.told reads are is.is.is.sound none
    other_is second.run.time_line
    ∙ sym first.has.stream_is

pub returns-clause-applied : goal.returns-clause-applied
returns-clause-applied c plan script choice lanes start operation stream text warnings again report other_report before after other_before other_after applied none all soon told as_is is anew other_none other_all =
    returns-clause-stream c plan script choice lanes start operation stream text warnings again
    (stream_written plan script lanes start operation report before after stream applied none all)
    soon told as_is is
    (stream_written plan (Some text) lanes start operation other_report other_before other_after again anew other_none other_all)

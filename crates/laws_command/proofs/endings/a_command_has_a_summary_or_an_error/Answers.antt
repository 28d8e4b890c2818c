use Rattle.std.proofs.Common.{ℕ, ◌≤◌, [], Bool, true, false, arith, cond, length}
use Rattle.apply_model.specs.Plan.SavedPlan.{SavedPlan}
use Rattle.apply_events.specs.Step.{Work, kinds_of}
use Rattle.apply_command.specs.Reading.{is_applied, planned_reading}
use Rattle.laws_check.specs.WholeSteps.{CanRun}
use Rattle.apply_run.specs.Schedule.{ByWorkers, InLanes, IsOfSize, Schedule}
use Rattle.laws_run.specs.WaitingSteps.{HasFewSteps}
use Rattle.laws_command.proofs.CommandEnds.{a_summary_or_an_error}
use Rattle.laws_command.proofs.endings.a_command_has_a_summary_or_an_error.Goals as goal

can_run : (schedule : Schedule) (work : Work) → IsOfSize schedule → HasFewSteps work → CanRun schedule work
can_run (ByWorkers workers capacity) work sizes few = tt
can_run (InLanes lanes) work sizes few = ((let low = sizes.some in omega arith), few)

-- so has a plan without changes
few_of_either : (applied : Bool) (plan none : SavedPlan) → ((c : ℕ) → length (kinds_of plan c) ≤ 2) → ((c : ℕ) → length (kinds_of none c) ≤ 2)
    → (c : ℕ) → length (kinds_of (cond applied plan none) c) ≤ 2
few_of_either true plan none few of_none = few
few_of_either false plan none few of_none = of_none

pub returns : goal.returns
returns c schedule command refresh lanes given start operation report before after run =
    let applied = run.applied in
    let read = applied.read in
    let events = applied.streamed.events in
    let work = (planned_reading command refresh lanes).work given read in
    let stated : Work = record { plan = read.stated.plan; script = read.stated.script; hooks = given.hooks } in
    let none : SavedPlan = record { version = read.stated.plan.version; changes = [] } in
    let limits = c.what_was_read_is_within_limits.ensures given stated (record { plan_is = applied.is_read.stated.plan_is; script_is = applied.is_read.stated.script_is }) in
    let few = few_of_either (is_applied command lanes read) read.stated.plan none limits.few_steps (λ k. omega arith) in
    a_summary_or_an_error command lanes read start operation events given.hooks report.run.counts report.contains_error
    (c.a_run_is_of_whole_steps.ensures schedule work events (can_run schedule work applied.sizes few) applied.streamed.run) applied.streamed.whole.delivered.counts run.error

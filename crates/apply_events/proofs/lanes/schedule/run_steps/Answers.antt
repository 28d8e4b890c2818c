use Rattle.std.proofs.Common.{◌≡◌, ◌+◌, ◌*◌, true, false, get_or, length, refl, sym, ap, ◌∙◌, subst, arith}
use Rattle.apply_hooks.specs.Registry.{rules_of}
use Rattle.apply_model.specs.declared.plan.step_kind.StepKind.TheVariants.{Create}
use Rattle.apply_model.specs.declared.script.wait.Wait.{Wait}
use Rattle.apply_events.specs.declared.lanes.lane_time.LaneTime.{LaneTime}
use Rattle.apply_events.specs.Step.{Work, step_of}
use Rattle.apply_events.specs.StepEvents.{goes_on, step_time}
use Rattle.apply_events.specs.Waits.Done.{done_in, end_after, end_of_turn, first_some}
use Rattle.apply_events.specs.Waits.LaneTime.{later_by}
use Rattle.apply_events.specs.Waits.Queue.{with_step_done}
use Rattle.apply_events.proofs.Waits.Moments.{later_by_second}
use Rattle.apply_events.proofs.Waits.Passing.{IsPassing, ends_first, ends_last, ends_on, ends_over, later_by_round, left_at, not_off, not_on, passed_last, passed_on, passed_over, passing_first, queue_same, step_here}
use Rattle.apply_events.proofs.lanes.schedule.run_steps.Goals as goal

pub loop-step-init : goal.loop-step-init
loop-step-init g c =
    let w : Work = record { plan = c.args.plan.now; script = c.args.script.now; hooks = rules_of c.args.registry.now } in
    let started = c.args.started in
    record {
      end = ends_first w started;
      second = omega arith;
      round = omega arith;
      queue = λ names done numbers q fresh. (done, q, passing_first w started done fresh);
    }

pub later_by-at-requires : goal.later_by-at-requires
later_by-at-requires g c =
    let w : Work = record { plan = c.args.plan.now; script = c.args.script.now; hooks = rules_of c.args.registry.now } in
    let count = ap length c.applied_steps-kinds.ensures.steps in
    let few = c.applied_steps-kinds.ensures.few in
    let low = c.of-course.ensures.few in
    let second = c.loop-step.invariant.second in
    let fits = c.requires.second in
    let within = c.requires.steps in
    let from = c.loop-step.auto.step in
    let to = c.loop-step-test.true in omega arith

pub returns-then-not-course-clause-end : goal.returns-then-not-course-clause-end
returns-then-not-course-clause-end g c =
    let w : Work = record { plan = c.args.plan.now; script = c.args.script.now; hooks = rules_of c.args.registry.now } in
    let started = c.args.started in
    let k = c.loop-step.step in
    let kinds = c.applied_steps-kinds.result.now in
    let s = step_of w started.turn.change k (get_or kinds k Create) in
    let count = ap length c.applied_steps-kinds.ensures.steps in
    let within = c.requires.steps in
    let to = c.loop-step-test.true in
    let from = c.loop-step.auto.step in
    let here = step_here w started.turn.change k kinds c.applied_steps-kinds.ensures.steps (omega arith) in
    let off : goes_on s ≡ false = sym c.of-course.ensures.goes_on ∙ not_on c.of-course.result.goes_on c.if-not-course.true in
    c.later_by-at.ensures ∙ ap (λ n. later_by n c.loop-step.at) c.of-course.ensures.seconds
    ∙ ends_last w started k s to refl here c.loop-step.at (end_of_turn w started) off c.loop-step.invariant.end

pub returns-then-not-course-clause-queue : goal.returns-then-not-course-clause-queue
returns-then-not-course-clause-queue g c = λ names done numbers q fresh.
    let w : Work = record { plan = c.args.plan.now; script = c.args.script.now; hooks = rules_of c.args.registry.now } in
    let started = c.args.started in
    let k = c.loop-step.step in
    let kinds = c.applied_steps-kinds.result.now in
    let s = step_of w started.turn.change k (get_or kinds k Create) in
    let count = ap length c.applied_steps-kinds.ensures.steps in
    let within = c.requires.steps in
    let to = c.loop-step-test.true in
    let from = c.loop-step.auto.step in
    let here = step_here w started.turn.change k kinds c.applied_steps-kinds.ensures.steps (omega arith) in
    let off : goes_on s ≡ false = sym c.of-course.ensures.goes_on ∙ not_on c.of-course.result.goes_on c.if-not-course.true in
    let now = c.loop-step.invariant.queue names done numbers q fresh in
    queue_same (2 * length c.args.plan.now.changes) names now.0 (λ name. first_some (done_in w started name) (done name)) numbers c.loop-step.queue
    (passed_last w started k s to refl here c.loop-step.at now.0 done off now.2) now.1

pub returns-clause-end : goal.returns-clause-end
returns-clause-end g c =
    let w : Work = record { plan = c.args.plan.now; script = c.args.script.now; hooks = rules_of c.args.registry.now } in
    sym (ends_over w c.args.started c.loop-step.step c.loop-step.at c.loop-step-test.false) ∙ c.loop-step.invariant.end

pub returns-clause-queue : goal.returns-clause-queue
returns-clause-queue g c = λ names done numbers q fresh.
    let w : Work = record { plan = c.args.plan.now; script = c.args.script.now; hooks = rules_of c.args.registry.now } in
    let now = c.loop-step.invariant.queue names done numbers q fresh in
    queue_same (2 * length c.args.plan.now.changes) names now.0 (λ name. first_some (done_in w c.args.started name) (done name)) numbers c.loop-step.queue
    (passed_over w c.args.started c.loop-step.step c.loop-step.at now.0 done c.loop-step-test.false now.2) now.1

pub complete-requires-clause-round : goal.complete-requires-clause-round
complete-requires-clause-round g c =
    let at = later_by_round c.loop-step.at c.of-course.result.seconds in
    let is = ap (λ (m : LaneTime). m.round) c.later_by-at.ensures in
    let low = c.loop-step.invariant.round in
    let fits = c.requires.round in omega arith

pub complete-requires-clause-known : goal.complete-requires-clause-known
complete-requires-clause-known g c =
    let w : Work = record { plan = c.args.plan.now; script = c.args.script.now; hooks = rules_of c.args.registry.now } in
    let count = ap length c.applied_steps-kinds.ensures.steps in
    let few = c.applied_steps-kinds.ensures.few in
    let within = c.requires.steps in
    let to = c.loop-step-test.true in
    let change = c.requires.change in
    let k = c.requires.known in
    let now = c.loop-step.invariant.queue k.0 k.1 k.2 k.3 k.4 in
    (2 * length c.args.plan.now.changes, k.0, now.0, k.2, (omega arith, omega arith), now.1, now.2.fresh c.loop-step.step (omega arith) to)

pub loop-step-preserved : goal.loop-step-preserved
loop-step-preserved g c =
    let w : Work = record { plan = c.args.plan.now; script = c.args.script.now; hooks = rules_of c.args.registry.now } in
    let started = c.args.started in
    let k = c.loop-step.step in
    let kinds = c.applied_steps-kinds.result.now in
    let s = step_of w started.turn.change k (get_or kinds k Create) in
    let count = ap length c.applied_steps-kinds.ensures.steps in
    let within = c.requires.steps in
    let to = c.loop-step-test.true in
    let from = c.loop-step.auto.step in
    let here = step_here w started.turn.change k kinds c.applied_steps-kinds.ensures.steps (omega arith) in
    let on : goes_on s ≡ true = sym c.of-course.ensures.goes_on ∙ not_off c.of-course.result.goes_on c.if-not-course.false in
    let next = later_by (step_time s) c.loop-step.at in
    let at : next ≡ c.later_by-at.result = sym (c.later_by-at.ensures ∙ ap (λ n. later_by n c.loop-step.at) c.of-course.ensures.seconds) in
    let few = c.applied_steps-kinds.ensures.few in
    let change = c.requires.change in
    record {
      end = subst (λ m. end_after m (left_at w started (k + 1)) ≡ end_of_turn w started) at (ends_on w started k s to refl here c.loop-step.at (end_of_turn w started) on c.loop-step.invariant.end);
      second =
          let later = later_by_second c.loop-step.at c.of-course.result.seconds in
          let is = ap (λ (m : LaneTime). m.second) c.later_by-at.ensures in
          let low = c.loop-step.invariant.second in
          let short = c.of-course.ensures.few in omega arith;
      round =
          let later = later_by_round c.loop-step.at c.of-course.result.seconds in
          let is = ap (λ (m : LaneTime). m.round) c.later_by-at.ensures in
          let low = c.loop-step.invariant.round in omega arith;
      queue = λ names done numbers q fresh.
          (let now = c.loop-step.invariant.queue names done numbers q fresh in
          let it : Wait = record { change = started.turn.change; step = k } in (
            with_step_done now.0 it c.later_by-at.result,
            c.in_ok-complete.ensures (2 * length c.args.plan.now.changes) names now.0 numbers (omega arith, omega arith) now.1 (now.2.fresh k (omega arith) to),
            subst (λ m. IsPassing w started (k + 1) m (with_step_done now.0 it m) done) at (passed_on w started k s to refl here c.loop-step.at now.0 done on now.2),
          ));
    }

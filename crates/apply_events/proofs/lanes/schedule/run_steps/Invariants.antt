use Rattle.std.proofs.Common.{◌≡◌, ◌+◌, ◌*◌, ◌-◌, ◌<◌, ◌≤◌, ℕ, List, None, Option, length}
use Rattle.apply_hooks.specs.Registry.{rules_of}
use Rattle.apply_model.specs.declared.script.wait.Wait.{Wait}
use Rattle.apply_model.specs.Script.Limits.{max_seconds}
use Rattle.apply_events.specs.declared.lanes.lane_time.LaneTime.{LaneTime}
use Rattle.apply_events.specs.Waits.Done.{end_after, end_of_turn}
use Rattle.apply_events.specs.Waits.Queue.{IsQueue}
use Rattle.apply_events.specs.Step.{Work}
use Rattle.apply_events.proofs.Waits.Passing.{IsPassing, left_at}
use Rattle.apply_events.proofs.lanes.schedule.run_steps.Given as goal

abbrev pub invariant-loop-step : goal.invariant-loop-step
invariant-loop-step g l =
    let w : Work = record { plan = l.plan; script = l.script; hooks = rules_of l.registry } in
    let started = l.fn.started in
    record {
      end : end_after l.at (left_at w started l.step) ≡ end_of_turn w started;
      second : l.at.second ≤ started.begin.second + max_seconds * (l.step - started.turn.first);
      round : l.at.round ≤ started.begin.round;
      queue : (names : List (List Wait)) (done : Wait → Option LaneTime) (numbers : List ℕ)
          → IsQueue (2 * length l.plan.changes) names done numbers l.fn.queue
          → ((step : ℕ) → started.turn.first ≤ step → step < started.turn.first + started.turn.count → done (record { change = started.turn.change; step = step }) ≡ None)
          → (now : Wait → Option LaneTime) × IsQueue (2 * length l.plan.changes) names now numbers l.queue × IsPassing w started l.step l.at now done;
    }

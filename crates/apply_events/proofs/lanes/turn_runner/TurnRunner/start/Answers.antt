use Rattle.std.proofs.Common.{◌+◌, ap, ◌∙◌}
use Rattle.apply_hooks.specs.Registry.{rules_of}
use Rattle.apply_events.specs.Step.{Work}
use Rattle.apply_events.specs.BeforeStep.{before_step, stops_at}
use Rattle.apply_events.proofs.TurnLeft.{turn_begins}
use Rattle.apply_events.proofs.lanes.turn_runner.TurnRunner.start.Goals as goal

pub invariant_of-result : goal.invariant_of-result
invariant_of-result g c =
    let w : Work = record { plan = c.args.plan.now; script = c.args.script.now; hooks = rules_of c.args.registry.now } in
    let started = c.args.started in
    record {
      stops = ap (stops_at (started.turn.first + started.turn.count)) c.runner_of-change_runner.ensures
          ∙ (turn_begins w started.lane started.begin.second started.turn c.requires.known).0;
    }

pub returns : goal.returns
returns g c =
    let w : Work = record { plan = c.args.plan.now; script = c.args.script.now; hooks = rules_of c.args.registry.now } in
    let started = c.args.started in
    ap (before_step (started.turn.first + started.turn.count)) c.runner_of-change_runner.ensures
    ∙ (turn_begins w started.lane started.begin.second started.turn c.requires.known).1

use Rattle.apply_hooks.specs.Registry.{rules_of}
use Rattle.apply_events.proofs.Waits.OneLane.{known_is}
use Rattle.apply_events.proofs.lanes.lane.begin.Goals as goal

pub start-later_events-requires-clause-known : goal.start-later_events-requires-clause-known
start-later_events-requires-clause-known g c = known_is (record { plan = c.args.plan.now; script = c.args.script.now; hooks = rules_of c.args.registry.now }) c.args.started.turn c.requires.known

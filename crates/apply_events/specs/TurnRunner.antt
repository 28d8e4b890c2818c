-- The events still to come of a turn that is being applied, as contracts see them.
use Rattle.std.specs.Prelude.{List}
use Rattle.apply_events.specs.declared.event.Event.{Event}
use Rattle.apply_events.specs.declared.lanes.turn_runner.TurnRunner.{TurnRunner}
use Rattle.apply_events.specs.BeforeStep.{before_step}
use Rattle.apply_events.specs.Runner as runner

-- The events still to come.
abbrev pub to_come : {a b : _} {g : _} → TurnRunner a b g → List Event
to_come r = before_step r.end (runner.to_come r.change_runner)

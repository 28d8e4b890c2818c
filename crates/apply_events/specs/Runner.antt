-- What contracts see of a runner: its course, and the events still to come.
use Rattle.std.specs.Prelude.{List, drop}
use Rattle.apply_hooks.specs.Registry.{rules_of}
use Rattle.apply_events.specs.declared.event.Event.{Event}
use Rattle.apply_events.specs.declared.runner.Runner.{Runner}
use Rattle.apply_events.specs.Course.{Course}
use Rattle.apply_events.specs.Stages.{from_stage}
use Rattle.apply_events.specs.Step.{Step, steps_of}

-- The course of a runner.
abbrev pub course_of : {a b : _} {g : _} → Runner a b g → Course
course_of r = record {
  work = record { plan = r.plan.now; script = r.script.now; hooks = rules_of r.registry.now };
  worker = r.worker;
  change = r.change;
  begin = r.begin;
}

-- The steps of the change from the current step on.
abbrev pub left_of : {a b : _} {g : _} → Runner a b g → List Step
left_of r = drop r.step (steps_of (course_of r).work r.change)

-- The events still to come.
abbrev pub to_come : {a b : _} {g : _} → Runner a b g → List Event
to_come r = from_stage r.worker (left_of r) r.at r.stage

use Rattle.std.proofs.Common.{List}
use Rattle.apply_events.specs.declared.event.Event.{Event}
use Rattle.apply_planning_failures.specs.Planning.{AreBegun}
use Rattle.apply_planning_failures.proofs.Lost.{HasFirst}
use Rattle.apply_planning_failures.proofs.lost_objects.LostObjects.of.Given as goal

abbrev pub invariant-loop-number : goal.invariant-loop-number
invariant-loop-number l = (events : List Event) → AreBegun (record { told = l.told; events = events }) l.begun → HasFirst l.ids l.told events l.number

use Rattle.std.proofs.Common.{length}
use Rattle.apply_planning.specs.ToCome.{to_come}
use Rattle.apply_planning_tests.proofs.tests.described.Given as goal

abbrev pub decreases-loop-event : goal.decreases-loop-event
decreases-loop-event g l = length (to_come l.events)

use Rattle.std.proofs.Common.{length}
use Rattle.apply_events.specs.Runner.{to_come}
use Rattle.apply_events_tests.proofs.tests.described.Given as goal

abbrev pub decreases-loop-event : goal.decreases-loop-event
decreases-loop-event g l = length (to_come l.runner)

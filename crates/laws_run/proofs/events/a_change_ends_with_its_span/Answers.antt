use Rattle.std.proofs.Common.{◌+◌}
use Rattle.apply_events.specs.ChangeEvents.{change_events, span_of}
use Rattle.apply_events.proofs.Rising.{Rises-at_most}
use Rattle.apply_events.proofs.Moments.{change_rises, lane_time_of}
use Rattle.laws_run.proofs.events.a_change_ends_with_its_span.Goals as goal

pub returns : goal.returns
returns c work worker change at = Rises-at_most lane_time_of at (at + span_of work change) (change_events work worker change at) (change_rises work worker change at)

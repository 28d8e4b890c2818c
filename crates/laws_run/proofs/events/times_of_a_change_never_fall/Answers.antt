use Rattle.std.proofs.Common.{◌+◌}
use Rattle.apply_events.specs.ChangeEvents.{change_events, span_of}
use Rattle.apply_events.proofs.Rising.{IsNonDecreasingBy-from_Rises}
use Rattle.apply_events.proofs.Moments.{change_rises, lane_time_of}
use Rattle.laws_run.proofs.events.times_of_a_change_never_fall.Goals as goal

pub returns : goal.returns
returns c work worker change at = IsNonDecreasingBy-from_Rises lane_time_of at (at + span_of work change) (change_events work worker change at) (change_rises work worker change at)

use Rattle.std.proofs.Common.{◌∙◌, ap}
use Rattle.apply_events.specs.WorkerEvents.{worker_events}
use Rattle.apply_events.proofs.Interleaved.{one_worker}
use Rattle.apply_events.specs.Lanes.TimeLine.{lane_events}
use Rattle.laws_run.proofs.TimeLines.Partition.{one_lane}
use Rattle.laws_run.proofs.time_lines_without_waits.one_lane_has_all_changes_in_order.Goals as goal

pub returns : goal.returns
returns c work events line = one_worker (lane_events work 1) events line.interleaved ∙ ap (worker_events work 0) (one_lane work)

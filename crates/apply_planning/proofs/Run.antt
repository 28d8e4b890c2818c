-- The queue, as a told object is done and with it its name, or not.
use Rattle.std.proofs.Common.{◌*◌, List, Option, Some, length, arith}
use Rattle.apply_model.specs.declared.script.wait.Wait.{Wait}
use Rattle.apply_events.specs.declared.lanes.lane_time.LaneTime.{LaneTime}
use Rattle.apply_events.specs.Waits.Queue.{HasPlace}
use Rattle.apply_planning.specs.declared.pending_names.PendingNames.{PendingNames}
use Rattle.apply_planning.specs.declared.told.Told.{Told}
use Rattle.apply_planning.specs.PendingNames.{ArePending, Closes}

pub has_place : (told : List Told) (done : Wait → Option LaneTime) (old new : PendingNames) (name : Wait) (at : LaneTime) → ArePending told done old → Closes old (Some (name, at)) new → HasPlace name (2 * length told)
has_place told done old new name at h closes =
    let zero = closes.0 in let lt = closes.1 in let size = h.owners in (omega arith, omega arith)

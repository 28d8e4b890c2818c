-- Turns that start as in the run.
use Rattle.std.specs.Prelude.{◌≡◌, ◌<◌, ℕ, length}
use Rattle.apply_events.specs.Step.{Work}
use Rattle.stream_record_waits.specs.declared.course.ReadyTurn.{ReadyTurn}
use Rattle.stream_record_waits.specs.Course.{Course}
use Rattle.stream_record_waits.specs.LaneTime.{first_earliest}
use Rattle.laws_record.specs.Schedules.{begin_of}
use Rattle.laws_queue.specs.Dealing.{change_begin, lane_of}
use Rattle.laws_queue.specs.OfLanes.{place_of}

-- The turn is that of a change, and starts when and where the run starts that change.
pub record StartsAsInRun (work : Work) (lanes : ℕ) (course : Course) (turn : ReadyTurn) : Type 0 where
  pub c : ℕ
  pub known : c < length work.plan.changes
  pub step : turn.step ≡ place_of work.plan c
  pub lane : first_earliest course.free ≡ lane_of work lanes c
  pub begin : begin_of course turn ≡ record { second = change_begin work lanes c; round = 0 }

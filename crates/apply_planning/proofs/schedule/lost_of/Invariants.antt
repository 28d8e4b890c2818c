use Rattle.std.proofs.Common.{◌≡◌, ◌<◌, ℕ, get_or, length, take, true}
use Rattle.apply_planning.specs.Schedule.{is_lost_of}
use Rattle.apply_planning.proofs.schedule.lost_of.Given as goal

abbrev pub invariant-loop-place : goal.invariant-loop-place
invariant-loop-place l = record {
  size : length l.lost.items ≡ length l.told;
  each : (k : ℕ) → k < length l.told → get_or l.lost.items k true ≡ is_lost_of l.told (take l.place l.started) k;
}

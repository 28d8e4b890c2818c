use Rattle.std.proofs.Common.{◌≡◌, ◌+◌, ◌*◌, ◌≤◌, drop, length}
use Rattle.stream_record_steps.specs.Steps.{planned_from, planned_steps}
use Rattle.stream_record_script.proofs.recording.step_count.Given as goal

abbrev pub invariant-loop-number : goal.invariant-loop-number
invariant-loop-number l = record {
  few : l.count ≤ 2 * l.number;
  counted : l.count + length (planned_from l.number l.count (drop l.number l.plan.changes)) ≡ length (planned_steps l.plan.changes);
}

use Rattle.std.proofs.Common.{◌≡◌, ◌*◌, ◌≤◌, ◌++◌, drop, map}
use Rattle.stream_record.specs.EvenScript.{even_changes, even_script, planned_steps}
use Rattle.stream_record.proofs.even.even_script.Given as goal

abbrev pub invariant-loop-number : goal.invariant-loop-number
invariant-loop-number l = record {
  few : l.first ≤ 2 * l.number;
  begun : l.changes.items ++ even_changes (planned_steps l.plan.changes) (map (λ numbers. numbers.items) l.waits) l.first (drop l.number l.plan.changes)
      ≡ even_script l.plan.changes (map (λ numbers. numbers.items) l.waits);
}

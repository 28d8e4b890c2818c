use Rattle.std.proofs.Common.{◌≡◌, ◌+◌, take}
use Rattle.apply_plan.specs.Script.RawView.{raw_waits}
use Rattle.apply_plan.proofs.script.raw_entry.RawEntry.count_of_waits.Given as goal

abbrev pub invariant-loop-step : goal.invariant-loop-step
invariant-loop-step l = l.left + raw_waits (take l.step-index l.step-items) ≡ l.limit

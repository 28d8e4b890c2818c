use Rattle.std.proofs.Common.{take}
use Rattle.stream_record_steps.specs.ByAddress.{AreByAddress}
use Rattle.stream_record_steps.proofs.plan_index.PlanIndex.new.Given as goal

abbrev pub invariant-loop-step : goal.invariant-loop-step
invariant-loop-step l = AreByAddress l.by_address (take l.step-index l.step-items)

use Rattle.std.proofs.Common.{◌≡◌, false, take}
use Rattle.std.specs.List.{list_any}
use Rattle.apply_plan.specs.Script.Refusals.{warns_not_a_read}
use Rattle.apply_plan.proofs.Scripts.Refusals.{numbered}
use Rattle.apply_plan.proofs.script.raw_entry.warns_any_not_a_read.Given as goal

abbrev pub invariant-loop-number : goal.invariant-loop-number
invariant-loop-number l = list_any warns_not_a_read (take l.number (numbered l.kinds l.steps)) ≡ false

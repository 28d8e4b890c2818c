use Rattle.std.proofs.Common.{◌≡◌, false, take}
use Rattle.std.specs.List.{list_any}
use Rattle.apply_plan.specs.Script.Refusals.{misplaces_provisioners}
use Rattle.apply_plan.proofs.Scripts.Refusals.{numbered}
use Rattle.apply_plan.proofs.script.raw_entry.misplaces_any_provisioners.Given as goal

abbrev pub invariant-loop-number : goal.invariant-loop-number
invariant-loop-number l = list_any (misplaces_provisioners l.is_deposed) (take l.number (numbered l.kinds l.steps)) ≡ false

use Rattle.std.proofs.Common.{◌≡◌, ◌+◌, take}
use Rattle.std.specs.List.{sum_by}
use Rattle.serde_json.specs.View.{view}
use Rattle.apply_model.specs.Script.Limits.{max_seconds}
use Rattle.input_validate.specs.ScriptFindings.{seconds_in}
use Rattle.input_validate.proofs.script.step.is_too_long.Given as goal

-- what is left of a day, and what the provisioners so far take
abbrev pub invariant-loop-provisioner : goal.invariant-loop-provisioner
invariant-loop-provisioner l =
    l.left + (seconds_in (view l.value) + sum_by (λ v. seconds_in (view v)) (take l.provisioner-index l.provisioner-items)) ≡ max_seconds

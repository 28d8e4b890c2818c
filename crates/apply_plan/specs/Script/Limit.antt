-- Whether an outcome exceeds a limit, for the private type `Limit`.
use Rattle.std.specs.Prelude.{Bool}
use Rattle.apply_model.specs.declared.script.outcome.Outcome.{Outcome}
use Rattle.apply_model.specs.Script.Outcome.{has_too_many_provisioners, has_too_much_output, is_too_long}
use Rattle.apply_plan.specs.declared.script.limit.Limit.{Limit}
use Rattle.apply_plan.specs.declared.script.limit.Limit.TheVariants.{Seconds, Provisioners, Output}

abbrev pub exceeds : Limit → Outcome → Bool
exceeds Seconds outcome = is_too_long outcome
exceeds Provisioners outcome = has_too_many_provisioners outcome
exceeds Output outcome = has_too_much_output outcome

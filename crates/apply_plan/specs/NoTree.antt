-- The error of a plan or script, by the fault of the JSON reader.
use Rattle.apply_json.specs.declared.json_fault.JsonFault.{JsonFault}
use Rattle.apply_json.specs.declared.json_fault.JsonFault.TheVariants.{TooLarge, NotJson, Memory}
use Rattle.apply_plan.specs.declared.plan.plan_error.PlanError.{PlanError}
use Rattle.apply_plan.specs.declared.plan.plan_error.PlanError.TheVariants as plan
use Rattle.apply_plan.specs.declared.script.script_error.ScriptError.{ScriptError}
use Rattle.apply_plan.specs.declared.script.script_error.ScriptError.TheVariants as script

abbrev pub plan_refusal : JsonFault → PlanError
plan_refusal TooLarge = plan.TooLarge
plan_refusal NotJson = plan.NotJson
plan_refusal Memory = plan.Memory

abbrev pub script_refusal : JsonFault → ScriptError
script_refusal TooLarge = script.TooLarge
script_refusal NotJson = script.NotJson
script_refusal Memory = script.Memory

-- The exit status: 0 after success, 1 if a step failed or was halted, 2 if the arguments or the
-- inputs were refused, and 3 if memory was refused or the run failed.
use Rattle.std.specs.Prelude.{ℕ, ◌+◌}
use Rattle.apply_events.specs.declared.counts.Counts.{Counts}
use Rattle.apply_hooks.specs.declared.hook_error.HookError.{HookError}
use Rattle.apply_hooks.specs.declared.hook_error.HookError.TheVariants as hook
use Rattle.apply_plan.specs.declared.plan.plan_error.PlanError.{PlanError}
use Rattle.apply_plan.specs.declared.plan.plan_error.PlanError.TheVariants as plan
use Rattle.apply_plan.specs.declared.script.script_error.ScriptError.{ScriptError}
use Rattle.apply_plan.specs.declared.script.script_error.ScriptError.TheVariants as script
use Rattle.apply_run.specs.declared.refusal.Refusal.{Refusal}
use Rattle.apply_run.specs.declared.refusal.Refusal.TheVariants.{Plan, Script, Waits, Size, Fault}
use Rattle.apply_cli.specs.declared.input_fault.InputFault.{InputFault}
use Rattle.apply_cli.specs.declared.input_fault.InputFault.TheVariants as input
use Rattle.apply_cli.specs.declared.script_file.ScriptFault.{ScriptFault}
use Rattle.apply_cli.specs.declared.script_file.ScriptFault.TheVariants as script_fault
use Rattle.apply_cli_args.specs.declared.usage.Usage.{Usage}
use Rattle.apply_cli_args.specs.declared.usage.Usage.TheVariants as usage

abbrev pub input_status_of : InputFault → ℕ
input_status_of input.Read = 2
input_status_of input.Memory = 3

abbrev pub script_fault_status_of : ScriptFault → ℕ
script_fault_status_of (script_fault.Unopened error) = 2
script_fault_status_of (script_fault.Unread error) = 2
script_fault_status_of script_fault.Memory = 3

abbrev pub plan_status_of : PlanError → ℕ
plan_status_of plan.TooLarge = 2
plan_status_of plan.NotJson = 2
plan_status_of plan.NotAPlan = 2
plan_status_of plan.TooMany = 2
plan_status_of (plan.BadChange n) = 2
plan_status_of (plan.BadActions n) = 2
plan_status_of (plan.BadAddress n) = 2
plan_status_of (plan.Duplicate n) = 2
plan_status_of plan.Memory = 3

abbrev pub script_status_of : ScriptError → ℕ
script_status_of script.TooLarge = 2
script_status_of script.NotJson = 2
script_status_of (script.BadShape place) = 2
script_status_of (script.UnknownChange n) = 2
script_status_of (script.Duplicate n) = 2
script_status_of (script.TooManySteps n) = 2
script_status_of (script.SecondsRange n) = 2
script_status_of (script.TooManyProvisioners n) = 2
script_status_of (script.TooMuchOutput n) = 2
script_status_of (script.NotACreate n) = 2
script_status_of (script.WarnsNotARead n) = 2
script_status_of (script.TooManyWaits n) = 2
script_status_of (script.UnknownWait n) = 2
script_status_of (script.NoSuchStep n) = 2
script_status_of (script.NeverBegins n) = 2
script_status_of (script.BadOutput n) = 2
script_status_of (script.UnknownOutput n) = 2
script_status_of (script.BadDiagnostic n) = 2
script_status_of (script.Planning error) = 2
script_status_of script.Memory = 3

abbrev pub refusal_status_of : Refusal → ℕ
refusal_status_of (Plan refusal) = plan_status_of refusal
refusal_status_of (Script refusal) = script_status_of refusal
refusal_status_of Waits = 2
refusal_status_of Size = 2
refusal_status_of (Fault fault) = 3

-- the number of steps that failed or were halted
abbrev pub unfinished : Counts → ℕ
unfinished counts = counts.failed + counts.halted

abbrev pub usage_status_of : Usage → ℕ
usage_status_of (usage.Help text) = 0
usage_status_of usage.Version = 0
usage_status_of (usage.Words text) = 2
usage_status_of usage.Conflict = 2
usage_status_of (usage.Misplaced misplaced) = 2
usage_status_of usage.Clock = 3
usage_status_of (usage.Moment error) = 2
usage_status_of usage.Hooks = 2
usage_status_of usage.Memory = 3

abbrev pub hook_status_of : HookError → ℕ
hook_status_of hook.Full = 2
hook_status_of hook.Memory = 3

-- The inputs of a run from bytes, and how they are refused.
use Rattle.std.specs.Prelude.{◌≡◌, ◌≤◌, ◌⊎◌, ℕ, List, [], length, Option, Some, None, Result, Ok, Err}
use Rattle.apply_plan.specs.declared.plan.plan_error.PlanError.TheVariants as plan_error
use Rattle.apply_plan.specs.declared.script.script_error.ScriptError.{ScriptError}
use Rattle.apply_plan.specs.declared.script.script_error.ScriptError.TheVariants as script_error
use Rattle.apply_plan.specs.Bytes.{max_bytes}
use Rattle.apply_plan.specs.Plan.SavedPlan.{SavedPlan, plan_of}
use Rattle.apply_plan.specs.Script.OutcomeMap.{OutcomeMap, script_of}
use Rattle.apply_hooks.specs.declared.rule.Rule.{Rule}
use Rattle.apply_run.specs.declared.refusal.Refusal.{Refusal}
use Rattle.apply_run.specs.declared.refusal.Refusal.TheVariants.{Plan, Script, Waits, Size, Fault}

-- the script that the bytes state for the plan; without bytes it is empty
abbrev pub given_script : SavedPlan → Option (List ℕ) → Result OutcomeMap ScriptError
given_script plan None = Ok []
given_script plan (Some bytes) = script_of plan bytes

-- there are bytes of a script, and not too many
abbrev pub MayBeRead : Option (List ℕ) → Type 0
MayBeRead script = (bytes : List ℕ) × (script ≡ Some bytes) × (length bytes ≤ max_bytes)

-- the inputs of a run: the bytes of a plan, those of a script or none, and the rules of each hook
pub record Inputs : Type 0 where
  pub plan : List ℕ
  pub script : Option (List ℕ)
  pub hooks : List (List Rule)

-- the bytes state this plan, and this script for it
pub record IsRead (given : Inputs) (plan : SavedPlan) (script : OutcomeMap) : Type 0 where
  pub plan_is : plan_of given.plan ≡ Ok plan
  pub script_is : given_script plan given.script ≡ Ok script

-- the plan is refused with its error, else the script with its own. Memory may be refused earlier,
-- but never for an input that is too large, or for a script that is absent
abbrev pub WasUnread : (plan_bytes : List ℕ) (script_bytes : Option (List ℕ)) → Refusal → Type 0
WasUnread plan_bytes script_bytes (Plan refusal) = ((refusal ≡ plan_error.Memory) × (length plan_bytes ≤ max_bytes)) ⊎ (plan_of plan_bytes ≡ Err refusal)
WasUnread plan_bytes script_bytes (Script refusal) =
    (plan : SavedPlan) × (plan_of plan_bytes ≡ Ok plan)
    × (((refusal ≡ script_error.Memory) × MayBeRead script_bytes) ⊎ (given_script plan script_bytes ≡ Err refusal))
WasUnread plan_bytes script_bytes Waits = ⊥
WasUnread plan_bytes script_bytes Size = ⊥
WasUnread plan_bytes script_bytes (Fault fault) = ⊥

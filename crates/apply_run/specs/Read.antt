-- What bytes state for Terraform's form, and what was read from them.
use Rattle.std.specs.Prelude.{◌≡◌, ◌≤◌, ◌⊎◌, ℕ, List, [], length, Bool, true, false, if◌then◌else◌, Option, Some, None, Result, Ok, Err}
use Rattle.serde_json.specs.Data.{no_members}
use Rattle.apply_plan.specs.declared.plan.plan_error.PlanError.TheVariants as plan_error
use Rattle.apply_plan.specs.declared.script.script_error.ScriptError.{ScriptError}
use Rattle.apply_plan.specs.declared.script.script_error.ScriptError.TheVariants as script_error
use Rattle.apply_plan.specs.Bytes.{max_bytes}
use Rattle.apply_plan.specs.Plan.SavedPlan.{SavedPlan, plan_of}
use Rattle.apply_plan.specs.Script.OutcomeMap.{OutcomeMap}
use Rattle.apply_plan_terraform.specs.declared.plan_notes.PlanNote.{PlanNote}
use Rattle.apply_plan_terraform.specs.declared.plan_notes.PlanNote.TheVariants.{Partial, Unfinished}
use Rattle.apply_plan_terraform.specs.Extras.{ExtrasOfScript, extras_of_bytes}
use Rattle.apply_plan_terraform.specs.Notes.{written_notes}
use Rattle.apply_plan_terraform.specs.Outputs.{OutputsOfPlan, written_outputs}
use Rattle.apply_plan_terraform.specs.ReadDetails.{DetailsOfPlan, details_of}
use Rattle.apply_run.specs.declared.refusal.Refusal.{Refusal}
use Rattle.apply_run.specs.declared.refusal.Refusal.TheVariants.{Plan, Script, Waits, Size, Fault}
use Rattle.apply_run.specs.Bytes.{MayBeRead, given_script}
use Rattle.apply_writer.specs.Stream.Terraform.{StreamExtras}

-- the extras that the bytes of a script state; without bytes there are none
abbrev pub given_extras : OutputsOfPlan → Option (List ℕ) → Result ExtrasOfScript ScriptError
given_extras plan None = Ok (record { outputs = no_members; notes = [] })
given_extras plan (Some bytes) = extras_of_bytes plan bytes

-- what bytes state for Terraform's form: the plan, the script, and the extras of both
pub record StatedInputs : Type 0 where
  pub plan : SavedPlan
  pub script : OutcomeMap
  pub details : DetailsOfPlan
  pub extras : ExtrasOfScript

-- the bytes state these inputs
pub record IsStated (plan_bytes : List ℕ) (script_bytes : Option (List ℕ)) (stated : StatedInputs) : Type 0 where
  pub plan_is : plan_of plan_bytes ≡ Ok stated.plan
  pub script_is : given_script stated.plan script_bytes ≡ Ok stated.script
  pub details_are : details_of plan_bytes ≡ Some stated.details
  pub extras_are : given_extras stated.details.outputs script_bytes ≡ Ok stated.extras

-- Terraform stopped planning with an error
abbrev pub is_unfinished : Option PlanNote → Bool
is_unfinished None = false
is_unfinished (Some Partial) = false
is_unfinished (Some Unfinished) = true

-- if Terraform stopped planning with an error, the plan is applied without changes, and its script
-- is ignored
abbrev pub applied_plan : StatedInputs → SavedPlan
applied_plan stated = if is_unfinished stated.details.note then record { version = stated.plan.version; changes = [] } else stated.plan

abbrev pub applied_script : StatedInputs → OutcomeMap
applied_script stated = if is_unfinished stated.details.note then [] else stated.script

-- the extras that the stream prints
abbrev pub extras_of : StatedInputs → StreamExtras
extras_of stated = record {
  details = stated.details.changes;
  notes = written_notes stated.details.note stated.extras.notes;
  outputs = written_outputs stated.details.outputs stated.extras.outputs;
}

-- the extras of the script are refused with this error
pub record AreRefused (plan_bytes : List ℕ) (script_bytes : Option (List ℕ)) (plan : SavedPlan) (refusal : ScriptError) : Type 0 where
  pub script : OutcomeMap
  pub script_is : given_script plan script_bytes ≡ Ok script
  pub details : DetailsOfPlan
  pub details_are : details_of plan_bytes ≡ Some details
  pub refused : given_extras details.outputs script_bytes ≡ Err refusal

-- the plan is refused, else the script, else its extras, each with its own error. Memory may be
-- refused earlier, but never for a plan or script that is too large
abbrev pub WasNotRead : (plan_bytes : List ℕ) (script_bytes : Option (List ℕ)) → Refusal → Type 0
WasNotRead plan_bytes script_bytes (Plan refusal) =
    ((refusal ≡ plan_error.Memory) × (length plan_bytes ≤ max_bytes)) ⊎ (plan_of plan_bytes ≡ Err refusal)
WasNotRead plan_bytes script_bytes (Script refusal) =
    (plan : SavedPlan) × (plan_of plan_bytes ≡ Ok plan)
    × (((refusal ≡ script_error.Memory) × MayBeRead script_bytes)
    ⊎ ((given_script plan script_bytes ≡ Err refusal) ⊎ AreRefused plan_bytes script_bytes plan refusal))
WasNotRead plan_bytes script_bytes Waits = ⊥
WasNotRead plan_bytes script_bytes Size = ⊥
WasNotRead plan_bytes script_bytes (Fault fault) = ⊥

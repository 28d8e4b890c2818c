-- What only Terraform's form needs of a script.
use Rattle.std.specs.Prelude.{ℕ, List, codes, Option, Some, None, Result, Ok, Err}
use Rattle.json.specs.Json.{Json}
use Rattle.serde_json.specs.Data.{Data, Members}
use Rattle.serde_json.specs.Find.{get}
use Rattle.apply_model.specs.declared.details.note.Note.{Note}
use Rattle.apply_plan.specs.declared.script.script_error.ScriptError.{ScriptError}
use Rattle.apply_plan.specs.declared.script.script_error.ScriptError.TheVariants.{NotJson}
use Rattle.apply_plan.specs.Results.{◌>>=◌}
use Rattle.apply_plan_terraform.specs.declared.extras.Extras.{Extras}
use Rattle.apply_plan_terraform.specs.declared.texts.part.Part.TheVariants as part
use Rattle.apply_plan_terraform.specs.StoredOutputs.{members_view}
use Rattle.apply_plan_terraform.specs.Notes.{notes_in_script}
use Rattle.apply_plan_terraform.specs.Outputs.{OutputsOfPlan, outputs_in_script, unless_faulty}
use Rattle.apply_plan_terraform.specs.Texts.{json_of, with_texts}

-- the script's outputs by name, and its diagnostics of no step in their order
pub record ExtrasOfScript : Type 0 where
  pub outputs : Members
  pub notes : List Note

-- what the code's value of these stands for
abbrev pub extras_view : Extras → ExtrasOfScript
extras_view extras = record { outputs = members_view extras.outputs.entries; notes = extras.notes.items }

abbrev pub with_notes : Members → List Note → ExtrasOfScript
with_notes outputs notes = record { outputs = outputs; notes = notes }

-- both sections of a script, or the first error; errors of outputs come first
abbrev pub extras_from : OutputsOfPlan → (outputs diagnostics : Option Data) → Result ExtrasOfScript ScriptError
extras_from plan outputs diagnostics = do
  outputs ← unless_faulty plan (outputs_in_script outputs)
  notes ← notes_in_script diagnostics
  Ok (with_notes outputs notes)

abbrev pub extras_of_script : OutputsOfPlan → Data → Result ExtrasOfScript ScriptError
extras_of_script plan script = extras_from plan (get (codes "outputs") script) (get (codes "diagnostics") script)

abbrev pub extras_of_json : OutputsOfPlan → Option Json → Result ExtrasOfScript ScriptError
extras_of_json plan None = Err NotJson
extras_of_json plan (Some j) = extras_of_script plan (with_texts part.Script j)

-- what the bytes of a script give
abbrev pub extras_of_bytes : OutputsOfPlan → List ℕ → Result ExtrasOfScript ScriptError
extras_of_bytes plan bytes = extras_of_json plan (json_of bytes)

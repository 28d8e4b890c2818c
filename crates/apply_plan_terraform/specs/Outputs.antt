-- The outputs that a stream shows, from a plan and a script (JSON Output Format, "Plan
-- Representation", `output_changes`, and "Values Representation", `outputs`). Types and values are
-- JSON texts.
use Rattle.std.specs.Prelude.{ℕ, suc, List, [], ◌∷◌, codes, Bool, false, not, ◌&&◌, ◌||◌, if◌then◌else◌, Option, Some, None, Result, Ok, Err, option_map}
use Rattle.std.specs.Option.{is_some, option_map_or, unwrap_or}
use Rattle.serde_json.specs.Data.{Data, Members, no_members, member, put}
use Rattle.serde_json.specs.Find.{as_object, as_str, get, get_member}
use Rattle.serde_json.specs.View.{view}
use Rattle.apply_json.specs.Tree.{◌>>=◌}
use Rattle.apply_plan.specs.declared.script.script_error.ScriptError.{ScriptError}
use Rattle.apply_plan.specs.declared.script.script_error.ScriptError.TheVariants.{BadOutput, BadShape, UnknownOutput}
use Rattle.apply_plan.specs.Results as results
use Rattle.apply_model.specs.declared.details.output.Output.{Output}
pub use Rattle.apply_plan_terraform.specs.RawOutput.{as_text, change_of, is_changed, is_flag_or_absent, is_deleted, is_null, is_output, equals_word, is_written, is_typed, is_unknown, member_in, or_null, output_of, text_at, text_in}
use Rattle.apply_plan_terraform.specs.declared.plan_outputs.PlanOutputs.{PlanOutputs}
use Rattle.apply_plan_terraform.specs.StoredOutputs.{put_all}

-- ---- a plan

-- the outputs of a plan before the apply by name, and their planned changes
pub record OutputsOfPlan : Type 0 where
  pub known : Members
  pub changes : Option Data

abbrev pub members_or_none : Option Data → Members
members_or_none collected = unwrap_or (collected >>= as_object) no_members

abbrev pub outputs_of_plan : Data → OutputsOfPlan
outputs_of_plan plan = record {
  known = members_or_none (member_in (codes "outputs") (member_in (codes "values") (get (codes "prior_state") plan)));
  changes = get (codes "output_changes") plan;
}

-- what the code's value of these stands for
abbrev pub outputs_view : PlanOutputs → OutputsOfPlan
outputs_view outputs = record { known = put_all outputs.known.items no_members; changes = option_map view outputs.changes }

-- the plan knows the type of that output
abbrev pub knows : OutputsOfPlan → List ℕ → Bool
knows plan name = option_map_or is_typed (get_member name plan.known) false

-- the plan has that output after the apply
abbrev pub has_output : OutputsOfPlan → List ℕ → Bool
has_output plan name =
    not (is_deleted (change_of plan.changes name)) && (knows plan name || is_changed (change_of plan.changes name))

-- ---- a script

-- the first error in outputs, where the first output has this number
abbrev pub fault_of : OutputsOfPlan → (number : ℕ) → Members → Option ScriptError
fault_of plan number no_members = None
fault_of plan number (member name output outputs) =
    if not (is_output output) then Some (BadOutput number)
    else if not (has_output plan name) then Some (UnknownOutput number)
    else fault_of plan (suc number) outputs

-- the script's outputs by name; none where they are absent or `null`
abbrev pub outputs_in_script : Option Data → Result Members ScriptError
outputs_in_script None = Ok no_members
outputs_in_script (Some outputs) =
    if is_null (as_str outputs) then Ok no_members else results.or_refuse (BadShape None) (as_object outputs)

-- the outputs, unless one has an error
abbrev pub unless_faulty : OutputsOfPlan → Result Members ScriptError → Result Members ScriptError
unless_faulty plan (Ok outputs) = results.unless_refused (fault_of plan 0 outputs) outputs
unless_faulty plan (Err refusal) = Err refusal

-- ---- what a stream shows

-- adds to collected outputs those of the plan that a stream shows; a collected name is not replaced
abbrev pub with_plan_outputs : (changes : Option Data) → Members → (collected : Members) → Members
with_plan_outputs changes no_members collected = collected
with_plan_outputs changes (member name output outputs) collected =
    with_plan_outputs changes outputs (if is_written changes name output && not (is_some (get_member name collected)) then put name output collected else collected)

-- the outputs in the byte order of names
abbrev pub as_outputs : Members → List Output
as_outputs no_members = []
as_outputs (member name output outputs) = output_of name output ∷ as_outputs outputs

-- the outputs that a stream shows: the script's, and those of the plan that the script does not
-- name
abbrev pub written_outputs : OutputsOfPlan → (script : Members) → List Output
written_outputs plan script = as_outputs (with_plan_outputs plan.changes plan.known script)

-- The outputs of a recorded script have sound texts.
use Rattle.std.proofs.Common.{◌≡◌, List, [], ◌∷◌, cond, Bool, true, false, Some, None, refl}
use Rattle.std.specs.Prelude.{IfSome, codes}
use Rattle.std.specs.List.{AllByRecursion}
use Rattle.std.specs.Str.{bytes_eq}
use Rattle.apply_model.specs.declared.details.output as told
use Rattle.apply_plan_terraform.specs.Outputs.{OutputsOfPlan}
use Rattle.stream_record_lines.specs.declared.outputs.output.Output.{Output}
use Rattle.stream_record_script.specs.Outputs.{is_known, is_told, known_outputs, outputs_told, script_output, script_outputs, unless_told}
use Rattle.laws_record.specs.Extras.{IsOfPlan}
use Rattle.laws_record.specs.Writable.{IsJsonText, IsWritableOutput, depth_at_top}
use Rattle.laws_recorded.proofs.Lists.{filtered, given_ones}
use Rattle.laws_recorded.proofs.OutputTexts.{IsSoundOutput}

one_sound : (output : Output) → IsSoundOutput output → IsWritableOutput (script_output output)
one_sound output h = record { name = h.name; type_json = h.type_json; value_json = unless_hidden output.is_sensitive }
  where
    unless_hidden : (b : Bool) → IfSome (cond b None output.value_json) (IsJsonText depth_at_top)
    unless_hidden true = tt
    unless_hidden false = h.value_json

untold_sound : (outputs : List told.Output.Output) (output : Output) → IsSoundOutput output → IfSome (unless_told outputs output) IsWritableOutput
untold_sound outputs output h = of_test (is_told outputs output)
  where
    of_test : (b : Bool) → IfSome (cond b None (Some (script_output output))) IsWritableOutput
    of_test true = tt
    of_test false = one_sound output h

pub outputs_kept : (plan : OutputsOfPlan) (outputs : List Output) → AllByRecursion IsSoundOutput outputs → AllByRecursion IsWritableOutput (script_outputs plan outputs)
outputs_kept plan outputs h =
    given_ones IsSoundOutput IsWritableOutput (unless_told (outputs_told plan)) (known_outputs plan outputs) (untold_sound (outputs_told plan)) (filtered IsSoundOutput (is_known plan) outputs h)

-- ---- outputs of the plan

-- The plan has the output, and it has a type.
record IsKnown (plan : OutputsOfPlan) (output : Output) : Type 0 where
  known : is_known plan output ≡ true
  typed : bytes_eq output.type_json (codes "null") ≡ false

one_known : (plan : OutputsOfPlan) (b : Bool) (output : Output) (others : List Output) → is_known plan output ≡ b → IsSoundOutput output
    → AllByRecursion (IsKnown plan) others → AllByRecursion (IsKnown plan) (cond b (output ∷ others) others)
one_known plan true output others is sound h = (record { known = is; typed = sound.typed }, h)
one_known plan false output others is sound h = h

all_known : (plan : OutputsOfPlan) (outputs : List Output) → AllByRecursion IsSoundOutput outputs → AllByRecursion (IsKnown plan) (known_outputs plan outputs)
all_known plan [] h = tt
all_known plan (output ∷ outputs) h = one_known plan (is_known plan output) output (known_outputs plan outputs) refl h.0 (all_known plan outputs h.1)

of_plan : (plan : OutputsOfPlan) (output : Output) → IsKnown plan output → IfSome (unless_told (outputs_told plan) output) (IsOfPlan plan)
of_plan plan output is = of_test (is_told (outputs_told plan) output)
  where
    of_test : (b : Bool) → IfSome (cond b None (Some (script_output output))) (IsOfPlan plan)
    of_test true = tt
    of_test false = record { known = is.known; typed = is.typed }

pub outputs_of_plan : (plan : OutputsOfPlan) (outputs : List Output) → AllByRecursion IsSoundOutput outputs → AllByRecursion (IsOfPlan plan) (script_outputs plan outputs)
outputs_of_plan plan outputs h =
    given_ones (IsKnown plan) (IsOfPlan plan) (unless_told (outputs_told plan)) (known_outputs plan outputs) (of_plan plan) (all_known plan outputs h)

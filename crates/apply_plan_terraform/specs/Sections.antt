-- The two sections of a plan or a script: the outputs, and the planned changes of outputs or the
-- diagnostics. For private clauses.
use Rattle.std.specs.Prelude.{◌≡◌, codes, Bool, true, false, Option, Some, None, option_map}
use Rattle.serde_json.specs.Data.{Data}
use Rattle.serde_json.specs.Find.{get}
use Rattle.serde_json.specs.View as tree
use Rattle.apply_plan_terraform.specs.declared.stored.sections.Sections.{Sections}
use Rattle.apply_plan_terraform.specs.declared.texts.part.Part.{Part}
use Rattle.apply_plan_terraform.specs.declared.texts.part.Part.TheVariants.{Plan, State, Values, Script, Diagnostics, Diagnostic, Outputs, Output, OutputChanges, OutputChange, Text}
use Rattle.apply_plan_terraform.specs.StoredOutputs.{outputs_value_view}
use Rattle.apply_plan_terraform.specs.Outputs.{member_in}

-- the part is the other section, next to the outputs
abbrev pub is_companion : Part → Bool
is_companion Plan = false
is_companion State = false
is_companion Values = false
is_companion Script = false
is_companion Diagnostics = true
is_companion Diagnostic = false
is_companion Outputs = false
is_companion Output = false
is_companion OutputChanges = true
is_companion OutputChange = false
is_companion Text = false

-- the value of `outputs` in a part
abbrev pub outputs_in : Part → Data → Option Data
outputs_in Plan d = member_in (codes "outputs") (member_in (codes "values") (get (codes "prior_state") d))
outputs_in State d = member_in (codes "outputs") (get (codes "values") d)
outputs_in Values d = get (codes "outputs") d
outputs_in Script d = get (codes "outputs") d
outputs_in Diagnostics d = None
outputs_in Diagnostic d = None
outputs_in Outputs d = Some d
outputs_in Output d = None
outputs_in OutputChanges d = None
outputs_in OutputChange d = None
outputs_in Text d = None

-- the other section of a part: the planned changes of outputs, or the diagnostics
abbrev pub companion_in : Part → Data → Option Data
companion_in Plan d = get (codes "output_changes") d
companion_in State d = None
companion_in Values d = None
companion_in Script d = get (codes "diagnostics") d
companion_in Diagnostics d = None
companion_in Diagnostic d = None
companion_in Outputs d = None
companion_in Output d = None
companion_in OutputChanges d = None
companion_in OutputChange d = None
companion_in Text d = None

-- both sections of that part were read
abbrev pub AreSectionsOf : Part → Data → Sections → Type 0
AreSectionsOf part d sections = (option_map outputs_value_view sections.outputs ≡ outputs_in part d) × (option_map tree.view sections.companion ≡ companion_in part d)

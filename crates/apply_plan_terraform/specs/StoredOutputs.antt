-- The trees that stored outputs stand for. The members of an output are JSON texts.
use Rattle.std.specs.Prelude.{ℕ, List, [], ◌∷◌, codes, map, Bool, if◌then◌else◌, Option, Some, None, option_map, String, string_bytes}
use Rattle.std.specs.declared.alloc.Global.{Global}
use Rattle.serde_json.specs.Data.{Data, string, object, Members, no_members, member, put}
use Rattle.serde_json.specs.View.{members_of}
use Rattle.apply_plan_terraform.specs.declared.stored.sections.OutputsValue.{OutputsValue}
use Rattle.apply_plan_terraform.specs.declared.stored.sections.OutputsValue.TheVariants as raw
use Rattle.apply_plan_terraform.specs.declared.stored.stored_output.StoredOutput.{StoredOutput}
use Rattle.apply_plan_terraform.specs.declared.stored.stored_output.StoredOutput.TheVariants as stored
use Rattle.apply_plan_terraform.specs.declared.stored.output_member.OutputMember.{OutputMember}
use Rattle.apply_plan_terraform.specs.declared.stored.output_member.OutputMember.TheVariants as kind
use Rattle.apply_plan_terraform.specs.declared.stored.output_members.OutputMembers.{OutputMembers}
use Rattle.apply_plan_terraform.specs.declared.stored.sensitivity.Sensitivity.{Sensitivity}
use Rattle.apply_plan_terraform.specs.declared.stored.sensitivity.Sensitivity.TheVariants.{Absent, Yes, No, Other}

abbrev pub name_of : OutputMember → List ℕ
name_of kind.Sensitive = codes "sensitive"
name_of kind.Type = codes "type"
name_of kind.Value = codes "value"

abbrev pub sensitive_text : Sensitivity → Option (List ℕ)
sensitive_text Absent = None
sensitive_text Yes = Some (codes "true")
sensitive_text No = Some (codes "false")
sensitive_text (Other text) = Some (string_bytes text)

-- a member where there is a text, then other members
abbrev pub with_text : (name : List ℕ) → Option (List ℕ) → Members → Members
with_text name None others = others
with_text name (Some text) others = member name (string text) others

-- the members of an output, each of them optional
abbrev pub three_members : (sensitive kind value : Option (List ℕ)) → Members
three_members sensitive kind value =
    with_text (codes "sensitive") sensitive (with_text (codes "type") kind (with_text (codes "value") value no_members))

abbrev pub members_of_output : OutputMembers → Members
members_of_output output =
    three_members (sensitive_text output.sensitive) (option_map string_bytes output.kind) (option_map string_bytes output.value)

abbrev pub flag_text : Bool → List ℕ
flag_text flag = if flag then codes "true" else codes "false"

abbrev pub view : StoredOutput → Data
view (stored.Usual output) =
    object (three_members (Some (flag_text output.is_sensitive)) (Some (string_bytes output.kind)) (Some (string_bytes output.value)))
view (stored.Object output) = object (members_of_output output.value)
view (stored.Other text) = string (string_bytes text)

-- outputs by name
abbrev pub members_view : List (String Global × StoredOutput) → Members
members_view outputs = members_of (map (λ output. (output.0, view output.1)) outputs)

-- puts the outputs of an object into a map one after another
abbrev pub put_all : List (String Global × StoredOutput) → (collected : Members) → Members
put_all [] collected = collected
put_all (output ∷ outputs) collected = put_all outputs (put (string_bytes output.0) (view output.1) collected)

abbrev pub outputs_value_view : OutputsValue → Data
outputs_value_view (raw.Object outputs) = object (put_all outputs.items no_members)
outputs_value_view (raw.Other text) = string (string_bytes text)

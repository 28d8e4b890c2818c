-- A script without the members that `validate` warns of, and which members count.
use Rattle.std.specs.Prelude.{◌≢◌, ℕ, List, codes, if◌then◌else◌, Option, Some, None}
use Rattle.std.specs.Str.{bytes_eq}
use Rattle.serde_json.specs.Data.{Data, object, Members, put}
use Rattle.apply_json_tree.specs.Trimmed.{Selection, trimmed}
use Rattle.input_validate.specs.declared.findings.name.Name.{Name}
use Rattle.input_validate.specs.Names.{name_text}
use Rattle.input_validate.specs.ScriptFindings.{diagnostic_names, entry_names, failure_names, output_names, provisioner_names, script_names, step_names, wait_names}
use Rattle.input_validate.specs.Rules.{is_known}

-- the kind of a value of a script, by its place: an object with known members, an array of such
-- objects, or anything else
pub data Kind : Type 0 where
  Script : Kind
  Entries : Kind
  Entry : Kind
  Steps : Kind
  Step : Kind
  Diagnostic : Kind
  Failure : Kind
  Provisioners : Kind
  Provisioner : Kind
  Outputs : Kind
  Output : Kind
  Waits : Kind
  Wait : Kind
  Other : Kind

-- the kind of a member, if its name is one of these
abbrev pub among : List Name → (List ℕ → Kind) → List ℕ → Option Kind
among names inside text = if is_known names text then Some (inside text) else None

abbrev pub in_script : List ℕ → Kind
in_script text = if bytes_eq text (codes "changes") then Entries else Other

abbrev pub in_entry : List ℕ → Kind
in_entry text = if bytes_eq text (codes "steps") then Steps else Other

abbrev pub in_step : List ℕ → Kind
in_step text =
    if bytes_eq text (codes "warning") then Diagnostic
    else if bytes_eq text (codes "failed") then Failure
    else if bytes_eq text (codes "provisioners") then Provisioners
    else if bytes_eq text (codes "after") then Waits
    else Other

abbrev pub in_provisioner : List ℕ → Kind
in_provisioner text =
    if bytes_eq text (codes "failed") then Diagnostic
    else if bytes_eq text (codes "output") then Outputs
    else Other

abbrev pub in_others : List ℕ → Kind
in_others text = Other

abbrev pub kind_of_member : Kind → List ℕ → Option Kind
kind_of_member Script text = among script_names in_script text
kind_of_member Entry text = among entry_names in_entry text
kind_of_member Step text = among step_names in_step text
kind_of_member Diagnostic text = among diagnostic_names in_others text
kind_of_member Failure text = among failure_names in_others text
kind_of_member Provisioner text = among provisioner_names in_provisioner text
kind_of_member Output text = among output_names in_others text
kind_of_member Wait text = among wait_names in_others text
kind_of_member _ text = Some Other

abbrev pub kind_of_item : Kind → Kind
kind_of_item Entries = Entry
kind_of_item Steps = Step
kind_of_item Provisioners = Provisioner
kind_of_item Outputs = Output
kind_of_item Waits = Wait
kind_of_item _ = Other

abbrev pub reading : Selection Kind
reading = record { member_shape = kind_of_member; item_shape = kind_of_item; item_limit = λ kind. None }

-- a script without the members that have unknown names
abbrev pub without_unknown : Data → Data
without_unknown script = trimmed reading Script script

-- there are an object and a value of this member, with which another thing is read than without
abbrev pub Counts : {A : Type 0} → (Data → Option A) → Name → Type 0
Counts read name = (others : Members) × (value : Data) × (read (object (put (name_text name) value others)) ≢ read (object others))

-- Diagnostics of no step: the note about a whole plan, and the diagnostics of a script
-- (Machine-Readable UI, "Diagnostic"). The members of a script's diagnostics are JSON texts.
use Rattle.std.specs.Prelude.{ℕ, suc, List, [], ◌∷◌, ◌++◌, codes, nat_eq, Bool, if◌then◌else◌, Option, Some, None, Result, Ok}
use Rattle.std.specs.List.{starts_with}
use Rattle.std.specs.Str.{bytes_eq}
use Rattle.json.specs.Json as json
use Rattle.serde_json.specs.Data.{Data}
use Rattle.serde_json.specs.Find.{as_str}
use Rattle.serde_json.specs.Read.{read}
use Rattle.apply_json.specs.Tree.{◌>>=◌, unless_empty}
use Rattle.apply_model.specs.declared.details.note.Note.{Note}
use Rattle.apply_model.specs.declared.details.note.Severity.{Severity}
use Rattle.apply_model.specs.declared.details.note.Severity.TheVariants.{Error, Warning}
use Rattle.apply_model.specs.declared.script.diag.Diag.{Diag}
use Rattle.apply_plan.specs.declared.script.script_error.ScriptError.{ScriptError}
use Rattle.apply_plan.specs.declared.script.script_error.ScriptError.TheVariants.{BadDiagnostic, BadShape}
use Rattle.apply_plan.specs.Results as results
use Rattle.apply_plan_terraform.specs.declared.plan_notes.PlanNote.{PlanNote}
use Rattle.apply_plan_terraform.specs.declared.plan_notes.PlanNote.TheVariants.{Partial, Unfinished}
use Rattle.apply_plan_terraform.specs.declared.texts.part.Part.TheVariants as part
use Rattle.apply_plan_terraform.specs.Outputs.{as_text, is_null, text_at}
use Rattle.apply_plan_terraform.specs.Texts.{json_of_text, with_texts}

-- ---- of a plan

abbrev pub note_without_address : Severity → (summary detail : List ℕ) → Note
note_without_address severity summary detail = record {
  severity = severity;
  diag = record { summary = summary; detail = detail; range = None; snippet = None };
  address = None;
}

abbrev pub note_of_plan : PlanNote → Note
note_of_plan Partial = note_without_address Warning
    (codes "Applied changes may be incomplete")
    (codes "The plan was created with the -target option in effect, so some changes requested in the configuration may have been ignored and the output values may not be fully updated. Run the following command to verify that no other changes are pending:\n    terraform plan\n\nNote that the -target option is not suitable for routine use, and is provided only for exceptional situations such as recovering from errors or mistakes, or when Terraform specifically suggests to use it as part of an error message.")
note_of_plan Unfinished = note_without_address Error
    (codes "Cannot apply incomplete plan")
    (codes "Terraform encountered an error when generating this plan, so it cannot be applied.")

-- ---- of a script

-- the string that a JSON text stands for; nothing where it is no string
abbrev pub decoded : List ℕ → Option (List ℕ)
decoded text = read text >>= as_str

-- a member as JSON text; `null` counts as absent
abbrev pub raw_member : (name : List ℕ) → Data → Option (List ℕ)
raw_member name d = text_at name d >>= λ text. if is_null (Some text) then None else Some text

-- a member that must be a string
abbrev pub decoded_member : (name : List ℕ) → Data → Option (List ℕ)
decoded_member name d = raw_member name d >>= decoded

-- an optional string, which is empty where absent; nothing where the JSON text is no string
abbrev pub decoded_or_empty : Option (List ℕ) → Option (List ℕ)
decoded_or_empty None = Some []
decoded_or_empty (Some text) = decoded text

-- a JSON text is an object if it begins with a brace
abbrev pub is_object : List ℕ → Bool
is_object text = starts_with nat_eq text (codes "{")

-- an optional object as JSON text; nothing where the value is no object
abbrev pub object_or_none : Option (List ℕ) → Option (Option (List ℕ))
object_or_none None = Some None
object_or_none (Some text) = if is_object text then Some (Some text) else None

abbrev pub severity_named : List ℕ → Option Severity
severity_named text =
    if bytes_eq text (codes "\"error\"") then Some Error
    else if bytes_eq text (codes "\"warning\"") then Some Warning
    else None

abbrev pub severity_in : Data → Option Severity
severity_in d = raw_member (codes "severity") d >>= severity_named

abbrev pub diag_in : Data → Option Diag
diag_in d = do
  summary ← decoded_member (codes "summary") d
  detail ← decoded_or_empty (raw_member (codes "detail") d)
  range ← object_or_none (raw_member (codes "range") d)
  snippet ← object_or_none (raw_member (codes "snippet") d)
  Some (record { summary = summary; detail = detail; range = range; snippet = snippet })

-- a diagnostic; nothing where a member breaks its rule
abbrev pub note_in : Data → Option Note
note_in d = do
  severity ← severity_in d
  diag ← diag_in d
  address ← decoded_or_empty (raw_member (codes "address") d)
  Some (record { severity = severity; diag = diag; address = unless_empty address })

-- the diagnostics of a list whose first item has this number, or the error of the first wrong item
abbrev pub notes_from : (number : ℕ) → List Data → Result (List Note) ScriptError
notes_from number [] = Ok []
notes_from number (d ∷ ds) =
    results.◌>>=◌ (results.or_refuse (BadDiagnostic number) (note_in d)) λ note.
    results.◌>>=◌ (notes_from (suc number) ds) λ notes.
    Ok (note ∷ notes)

-- the items of an array, with their members as JSON texts
abbrev pub items_of : json.Items → List Data
items_of json.no_items = []
items_of (json.item j js) = with_texts part.Diagnostic j ∷ items_of js

abbrev pub items_in : json.Json → Option (List Data)
items_in json.null = None
items_in (json.boolean b) = None
items_in (json.number s) = None
items_in (json.string s) = None
items_in (json.array js) = Some (items_of js)
items_in (json.object ms) = None

abbrev pub items_in_text : List ℕ → Option (List Data)
items_in_text text = json_of_text text >>= items_in

-- the diagnostics in the JSON text of an array
abbrev pub notes_of_text : List ℕ → Result (List Note) ScriptError
notes_of_text text = results.◌>>=◌ (results.or_refuse (BadShape None) (items_in_text text)) (notes_from 0)

-- the diagnostics of an optional array; `null` counts as absent
abbrev pub notes_of_option : Option (List ℕ) → Result (List Note) ScriptError
notes_of_option None = Ok []
notes_of_option (Some text) = if is_null (Some text) then Ok [] else notes_of_text text

-- the diagnostics of a script
abbrev pub notes_in_script : Option Data → Result (List Note) ScriptError
notes_in_script collected = notes_of_option (as_text collected)

-- ---- what a stream shows

-- the script's diagnostics, then the note about the plan; when planning ended with an error, that
-- note alone
abbrev pub written_notes : Option PlanNote → (script : List Note) → List Note
written_notes None script = script
written_notes (Some Partial) script = script ++ note_of_plan Partial ∷ []
written_notes (Some Unfinished) script = note_of_plan Unfinished ∷ []

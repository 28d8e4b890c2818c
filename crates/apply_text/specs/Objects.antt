-- The JSON objects in messages. Members stand in the byte order of their names (Machine-Readable
-- UI).
use Rattle.std.specs.Prelude.{ℕ, List, codes, Option, Some, None}
use Rattle.serde_json.specs.Data.{Data, null, number, string, object, unsigned, Members, no_members, member}
use Rattle.serde_json.specs.Find.{of_integer}
use Rattle.apply_model.specs.declared.plan.key.Key.{Key}
use Rattle.apply_model.specs.declared.plan.key.Key.TheVariants as key
use Rattle.apply_model.specs.declared.plan.step_kind.StepKind.{StepKind}
use Rattle.apply_model.specs.declared.script.diag.Diag.{Diag}
use Rattle.apply_model.specs.Plan.Address.{provider_of}
use Rattle.apply_model.specs.Plan.ResourceChange.{ResourceChange, resource_of}
use Rattle.apply_events.specs.declared.counts.Counts.{Counts}
use Rattle.apply_text.specs.declared.operation.Operation.{Operation}
use Rattle.apply_text.specs.declared.operation.Operation.TheVariants.{Apply, Destroy}
use Rattle.apply_text.specs.Words.{action_word}

-- ---- the object `hook`

abbrev pub key_data : Key → Data
key_data key.None = null
key_data (key.Number z) = number (of_integer z)
key_data (key.Name s) = string s

unfoldable pub resource_object : ResourceChange → Data
resource_object change =
    object
    (member (codes "addr") (string change.address)
    (member (codes "implied_provider") (string (provider_of change.kind_name))
    (member (codes "module") (string change.module_address)
    (member (codes "resource") (string (resource_of change))
    (member (codes "resource_key") (key_data change.key)
    (member (codes "resource_name") (string change.name)
    (member (codes "resource_type") (string change.kind_name) no_members)))))))

-- the member for the elapsed seconds where given, then other members
abbrev pub elapsed_member : Option ℕ → Members → Members
elapsed_member None others = others
elapsed_member (Some seconds) others = member (codes "elapsed_seconds") (number (unsigned seconds)) others

-- `id_key` and `id_value` where there is an id, then other members
abbrev pub id_members : Option (List ℕ) → Members → Members
id_members None others = others
id_members (Some id) others =
    member (codes "id_key") (string (codes "id")) (member (codes "id_value") (string id) others)

-- the object `hook` of a step, with the elapsed seconds and the object's id where given
unfoldable pub hook_object : ResourceChange → StepKind → (elapsed : Option ℕ) → (id : Option (List ℕ)) → Data
hook_object change step elapsed id =
    object
    (member (codes "action") (string (action_word step))
    (elapsed_member elapsed
    (id_members id
    (member (codes "resource") (resource_object change) no_members))))

-- the member for a line of a provisioner's output where given, then other members
abbrev pub output_member : Option (List ℕ) → Members → Members
output_member None others = others
output_member (Some output) others = member (codes "output") (string output) others

-- the object `hook` of a provisioner, with a line of its output where given
unfoldable pub provisioner_object : ResourceChange → (name : List ℕ) → (output : Option (List ℕ)) → Data
provisioner_object change name output =
    object
    (output_member output
    (member (codes "provisioner") (string name)
    (member (codes "resource") (resource_object change) no_members)))

-- ---- the object `diagnostic`

unfoldable pub diagnostic_object : (address severity : List ℕ) → Diag → Data
diagnostic_object address severity diag =
    object
    (member (codes "address") (string address)
    (member (codes "detail") (string diag.detail)
    (member (codes "severity") (string severity)
    (member (codes "summary") (string diag.summary) no_members))))

-- ---- the object `changes`

abbrev pub operation_word : Operation → List ℕ
operation_word Apply = codes "apply"
operation_word Destroy = codes "destroy"

unfoldable pub changes_object : Operation → Counts → Data
changes_object operation counts =
    object
    (member (codes "add") (number (unsigned counts.added))
    (member (codes "change") (number (unsigned counts.changed))
    (member (codes "operation") (string (operation_word operation))
    (member (codes "remove") (number (unsigned counts.removed)) no_members))))

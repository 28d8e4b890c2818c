-- The JSON objects in messages. Members stand in Terraform's order (Machine-Readable UI).
use Rattle.std.specs.Prelude.{ℕ, List, codes, Option, Some, None, option_map}
use Rattle.serde_json.specs.Data.{Data, number, string, object, unsigned, Members, no_members, member}
use Rattle.apply_model.specs.declared.details.change_details.ChangeDetails.{ChangeDetails}
use Rattle.apply_model.specs.declared.details.importing.Importing.{Importing}
use Rattle.apply_model.specs.declared.details.previous_resource.PreviousResource.{PreviousResource}
use Rattle.apply_model.specs.declared.plan.step_kind.StepKind.{StepKind}
use Rattle.apply_model.specs.declared.script.diag.Diag.{Diag}
use Rattle.apply_model.specs.Details.{reason_word}
use Rattle.apply_model.specs.Plan.Address.{provider_of}
use Rattle.apply_model.specs.Plan.ResourceChange.{ResourceChange, resource_of}
use Rattle.apply_events.specs.declared.counts.Counts.{Counts}
use Rattle.apply_text.specs.declared.operation.Operation.{Operation}
use Rattle.apply_text.specs.Objects.{elapsed_member, id_members, key_data, operation_word, output_member}
use Rattle.apply_text.specs.Words.{action_word}

-- a member whose value is a string where given, then other members
abbrev pub text_if : (name : List ℕ) → Option (List ℕ) → Members → Members
text_if name None others = others
text_if name (Some text) others = member name (string text) others

-- ---- the objects `resource` and `hook`

unfoldable pub resource_object : ResourceChange → Data
resource_object change =
    object
    (member (codes "addr") (string change.address)
    (member (codes "module") (string change.module_address)
    (member (codes "resource") (string (resource_of change))
    (member (codes "implied_provider") (string (provider_of change.kind_name))
    (member (codes "resource_type") (string change.kind_name)
    (member (codes "resource_name") (string change.name)
    (member (codes "resource_key") (key_data change.key) no_members)))))))

-- the object `hook` of a step, with the object's id and the elapsed seconds where given
unfoldable pub hook_object : ResourceChange → StepKind → (elapsed : Option ℕ) → (id : Option (List ℕ)) → Data
hook_object change step elapsed id =
    object
    (member (codes "resource") (resource_object change)
    (member (codes "action") (string (action_word step))
    (id_members id
    (elapsed_member elapsed no_members))))

-- the object `hook` of a provisioner, with a line of its output where given
unfoldable pub provisioner_object : ResourceChange → (name : List ℕ) → (output : Option (List ℕ)) → Data
provisioner_object change name output =
    object
    (member (codes "resource") (resource_object change)
    (member (codes "provisioner") (string name)
    (output_member output no_members)))

-- ---- the object `change`

-- the resource that an object was before its move
unfoldable pub previous_object : PreviousResource → Data
previous_object previous =
    object
    (member (codes "addr") (string previous.address)
    (member (codes "module") (string previous.module_address)
    (member (codes "resource") (string previous.resource)
    (member (codes "implied_provider") (string (provider_of previous.kind_name))
    (member (codes "resource_type") (string previous.kind_name)
    (member (codes "resource_name") (string previous.name)
    (member (codes "resource_key") (key_data previous.key) no_members)))))))

-- the member for the previous resource where the object was moved, then other members
abbrev pub previous_member : Option PreviousResource → Members → Members
previous_member None others = others
previous_member (Some previous) others = member (codes "previous_resource") (previous_object previous) others

-- the member for an import where there is one, then other members
abbrev pub importing_member : Option Importing → Members → Members
importing_member None others = others
importing_member (Some importing) others =
    member (codes "importing") (object (text_if (codes "id") importing.id no_members)) others

-- the object `change`; `word` is the planned action
unfoldable pub change_object : ResourceChange → (word : List ℕ) → ChangeDetails → Data
change_object change word details =
    object
    (member (codes "resource") (resource_object change)
    (previous_member details.previous
    (member (codes "action") (string word)
    (text_if (codes "reason") (option_map reason_word details.reason)
    (importing_member details.importing
    (text_if (codes "generated_config") details.generated_config no_members))))))

-- ---- the object `diagnostic`

-- the object `diagnostic`, with an address where given, and without its verbatim members
unfoldable pub diagnostic_object : (address : Option (List ℕ)) → (severity : List ℕ) → Diag → Data
diagnostic_object address severity diag =
    object
    (member (codes "severity") (string severity)
    (member (codes "summary") (string diag.summary)
    (member (codes "detail") (string diag.detail)
    (text_if (codes "address") address no_members))))

-- ---- the object `changes`

unfoldable pub changes_object : Operation → Counts → (imported : ℕ) → Data
changes_object operation counts imported =
    object
    (member (codes "add") (number (unsigned counts.added))
    (member (codes "change") (number (unsigned counts.changed))
    (member (codes "import") (number (unsigned imported))
    (member (codes "remove") (number (unsigned counts.removed))
    (member (codes "operation") (string (operation_word operation)) no_members)))))

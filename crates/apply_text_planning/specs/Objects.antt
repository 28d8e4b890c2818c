-- The JSON objects in messages. Members stand in Terraform's order (Machine-Readable UI).
use Rattle.std.specs.Prelude.{ℕ, List, [], ◌∷◌, codes, Option}
use Rattle.serde_json.specs.Data.{Data, boolean, number, string, object, unsigned, Members, no_members, member}
use Rattle.apply_model.specs.declared.details.previous_resource.PreviousResource.{PreviousResource}
use Rattle.apply_model.specs.Plan.ResourceChange.{ResourceChange}
use Rattle.apply_prior.specs.declared.planned_output.PlannedOutput.{PlannedOutput}
use Rattle.apply_text.specs.Objects.{id_members}
use Rattle.apply_text_terraform.specs.Objects.{previous_member, resource_object}
use Rattle.apply_text_planning.specs.declared.plan_totals.PlanTotals.{PlanTotals}
use Rattle.apply_text_planning.specs.Words.{output_word}

-- the object `hook` of a refresh, with the object's id where given
unfoldable pub refresh_object : ResourceChange → (id : Option (List ℕ)) → Data
refresh_object change id = object (member (codes "resource") (resource_object change) (id_members id no_members))

-- the object `change` of a drift; `word` is what happened to the object
unfoldable pub drift_object : ResourceChange → (word : List ℕ) → Option PreviousResource → Data
drift_object change word previous =
    object
    (member (codes "resource") (resource_object change)
    (previous_member previous
    (member (codes "action") (string word) no_members)))

-- the object `changes` of a plan's summary
unfoldable pub plan_changes_object : PlanTotals → Data
plan_changes_object totals =
    object
    (member (codes "add") (number (unsigned totals.added))
    (member (codes "change") (number (unsigned totals.changed))
    (member (codes "import") (number (unsigned totals.imported))
    (member (codes "remove") (number (unsigned totals.removed))
    (member (codes "operation") (string (codes "plan")) no_members)))))

-- ---- the object `outputs` of a plan

-- whether an output is sensitive, and what the plan does to it
abbrev pub output_object : PlannedOutput → Data
output_object output =
    object
    (member (codes "sensitive") (boolean output.sensitive)
    (member (codes "action") (string (output_word output.action)) no_members))

-- a member for each output, in this order
abbrev pub output_members : List PlannedOutput → Members
output_members [] = no_members
output_members (output ∷ outputs) = member output.name (output_object output) (output_members outputs)

-- The steps of an action list (JSON Output Format, "Change Representation", `actions`).
use Rattle.std.specs.Prelude.{List, [], ◌∷◌, codes, ◌&&◌, if◌then◌else◌, Option, Some, None}
use Rattle.serde_json.specs.Data.{Data, Items, no_items, item}
use Rattle.apply_model.specs.declared.plan.step_kind.StepKind.{StepKind}
use Rattle.apply_model.specs.declared.plan.step_kind.StepKind.TheVariants.{Create, Update, Delete, Read}
use Rattle.apply_json.specs.Tree.{is_word}

-- the steps of a list with one action
abbrev pub steps_alone : Data → Option (List StepKind)
steps_alone action =
    if is_word (codes "no-op") action then Some []
    else if is_word (codes "create") action then Some (Create ∷ [])
    else if is_word (codes "read") action then Some (Read ∷ [])
    else if is_word (codes "update") action then Some (Update ∷ [])
    else if is_word (codes "delete") action then Some (Delete ∷ [])
    else if is_word (codes "forget") action then Some []
    else None

-- the steps of a list with two actions: a replacement
abbrev pub steps_together : Data → Data → Option (List StepKind)
steps_together first second =
    if is_word (codes "delete") first && is_word (codes "create") second then Some (Delete ∷ Create ∷ [])
    else if is_word (codes "create") first && is_word (codes "delete") second then Some (Create ∷ Delete ∷ [])
    else None

-- the steps of an action list; none if it is not one of the eight valid lists
abbrev pub steps_of_actions : Items → Option (List StepKind)
steps_of_actions no_items = None
steps_of_actions (item action no_items) = steps_alone action
steps_of_actions (item first (item second no_items)) = steps_together first second
steps_of_actions (item first (item second (item third others))) = None

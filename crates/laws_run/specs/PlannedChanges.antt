-- Which changes of a plan are planned, and their lines in Terraform's form.
use Rattle.std.specs.Prelude.{◌≡◌, ℕ, List, [], ◌∷◌, ◌++◌, Bool, true, false, codes, count_by, filter, length, map, not, slice_get, Some}
use Rattle.std.specs.List.{enumerate_from}
use Rattle.std.specs.Option.{option_map_or}
use Rattle.serde_json.specs.Data.{Data, Items, no_items, item}
use Rattle.apply_json.specs.Tree.{is_word, member_of, tree_of}
use Rattle.apply_model.specs.declared.plan.step_kind.StepKind.{StepKind}
use Rattle.apply_model.specs.Plan.ResourceChange.{ResourceChange}
use Rattle.apply_model.specs.Plan.SavedPlan.{SavedPlan}
use Rattle.apply_text.specs.Laws.{line_feeds}
use Rattle.apply_text.specs.Message.{Message}
use Rattle.apply_model.specs.declared.details.change_details.ChangeDetails.{ChangeDetails}
use Rattle.apply_text_terraform.specs.Lines.{message_line}
use Rattle.apply_plan_terraform.specs.Changes.{elements_of}
use Rattle.apply_plan_terraform.specs.Details.{actions_in}

-- a change with these steps is planned: it has a step, or its object is forgotten
abbrev pub is_planned : List StepKind → (forgets : Bool) → Bool
is_planned [] forgets = forgets
is_planned (step ∷ others) forgets = true

-- a change with its number is planned, by the details with that number
abbrev pub is_planned_at : List ChangeDetails → ℕ × ResourceChange → Bool
is_planned_at details p =
    option_map_or (λ (d : ChangeDetails). is_planned p.1.steps d.forgets) (slice_get details p.0) false

-- the planned changes, each with its number, in the plan's order
abbrev pub planned_in : List ChangeDetails → SavedPlan → List (ℕ × ResourceChange)
planned_in details plan = filter (is_planned_at details) (enumerate_from 0 plan.changes)

-- the line is one message of the type `planned_change` at that time; its text names the change's
-- address and some word for what is planned
pub record IsPlannedChangeLine (seconds : ℕ) (change : ResourceChange) (line : List ℕ) : Type 0 where
  pub message : Message
  pub word : List ℕ
  pub line_is : line ≡ message_line seconds message
  pub type_is : message.type_name ≡ codes "planned_change"
  pub text_is : message.text ≡ change.address ++ codes ": Plan to " ++ word
  pub one_line_feed : line_feeds line ≡ 1

-- ---- as the bytes of a plan state it

-- the actions are `["no-op"]`
abbrev pub is_no_op : Items → Bool
is_no_op no_items = false
is_no_op (item action no_items) = is_word (codes "no-op") action
is_no_op (item first (item second others)) = false

-- the actions of an element of `resource_changes` are `["no-op"]`
abbrev pub states_no_op : Data → Bool
states_no_op element = option_map_or is_no_op (actions_in (member_of (codes "change") element)) false

-- Each element of the tree of these bytes has one change with details. The change is planned unless
-- the element's actions are `["no-op"]`.
pub record AllButNoOpsArePlanned (bytes : List ℕ) (plan : SavedPlan) (details : List ChangeDetails) : Type 0 where
  pub tree : Data
  pub tree_is : tree_of bytes ≡ Some tree
  pub as_many : length details ≡ length plan.changes
  pub one_by_one : map (is_planned_at details) (enumerate_from 0 plan.changes)
      ≡ map (λ element. not (states_no_op element)) (elements_of tree)
  pub count : length (planned_in details plan) ≡ count_by (λ element. not (states_no_op element)) (elements_of tree)

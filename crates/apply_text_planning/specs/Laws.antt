-- What the totals of a plan have to do with its lines.
use Rattle.std.specs.Prelude.{◌≡◌, ℕ, List, codes, Bool, false, ◌||◌, count_by}
use Rattle.std.specs.Option.{option_map_or}
use Rattle.std.specs.Str.{bytes_eq}
use Rattle.apply_model.specs.declared.details.change_details.ChangeDetails.{ChangeDetails}
use Rattle.apply_model.specs.declared.plan.action.Action.{Action}
use Rattle.apply_model.specs.Plan.Action.{steps_of_action}
use Rattle.apply_model.specs.Plan.ResourceChange.{ResourceChange}
use Rattle.apply_text_planning.specs.Totals.{planned_totals}
use Rattle.apply_text_planning.specs.Words.{command_word}

-- the line of a planned change shows one of two words
abbrev pub shows : (first second : List ℕ) → ResourceChange × ChangeDetails → Bool
shows first second p = option_map_or (λ word. bytes_eq word first || bytes_eq word second) (command_word p.0.steps p.1) false

-- the steps of the change are those of an action
abbrev pub HasAction : ResourceChange × ChangeDetails → Type 0
HasAction p = (action : Action) × (p.0.steps ≡ steps_of_action action)

-- each of the totals is a number of lines: those with `create` or `replace`, with `update`, and
-- with `delete` or `replace`
pub record CountsLines (planned : List (ResourceChange × ChangeDetails)) : Type 0 where
  pub added : (planned_totals planned).added ≡ count_by (shows (codes "create") (codes "replace")) planned
  pub changed : (planned_totals planned).changed ≡ count_by (shows (codes "update") (codes "update")) planned
  pub removed : (planned_totals planned).removed ≡ count_by (shows (codes "delete") (codes "replace")) planned

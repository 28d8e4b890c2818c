-- The words for planned actions and for drift (Machine-Readable UI, "Planned Change" and "Resource
-- Drift").
use Rattle.std.specs.Prelude.{ℕ, List, codes, Bool, if◌then◌else◌, is_some, Option, Some, None, unwrap_or}
use Rattle.std.specs.Option.{option_or}
use Rattle.apply_model.specs.declared.details.change_details.ChangeDetails.{ChangeDetails}
use Rattle.apply_model.specs.declared.plan.step_kind.StepKind.{StepKind}
use Rattle.apply_prior.specs.declared.planned_output.OutputAction.{OutputAction}
use Rattle.apply_prior.specs.declared.planned_output.OutputAction.TheVariants as action
use Rattle.apply_text_terraform.specs.Details.{planned_word}

-- what happened to an object outside of Terraform; a drift without an action is a move
abbrev pub drift_word : List StepKind → (forgets : Bool) → List ℕ
drift_word steps forgets = unwrap_or (planned_word steps forgets) (codes "move")

-- the word where nothing is to be done to the object: it was moved, or else it is imported
abbrev pub bookkeeping_word : ChangeDetails → Option (List ℕ)
bookkeeping_word details =
    if is_some details.previous then Some (codes "move")
    else if is_some details.importing then Some (codes "import")
    else None

-- the word for the planned action of a change with these steps, where a plan is made in the run;
-- nothing where the change has no line
abbrev pub command_word : List StepKind → ChangeDetails → Option (List ℕ)
command_word steps details = option_or (planned_word steps details.forgets) (bookkeeping_word details)

-- what the plan does to an output
abbrev pub output_word : OutputAction → List ℕ
output_word action.NoOp = codes "noop"
output_word action.Create = codes "create"
output_word action.Read = codes "read"
output_word action.Update = codes "update"
output_word action.Delete = codes "delete"
output_word action.Replace = codes "replace"

-- The word for a planned action.
use Rattle.std.specs.Prelude.{ℕ, List, [], ◌∷◌, codes, Bool, if◌then◌else◌, Option, Some, None}
use Rattle.apply_model.specs.declared.plan.step_kind.StepKind.{StepKind}
use Rattle.apply_text.specs.Words.{action_word}

-- the planned action of an object with these steps; nothing where it has no steps and is not
-- forgotten
abbrev pub planned_word : List StepKind → (forgets : Bool) → Option (List ℕ)
planned_word [] forgets = if forgets then Some (codes "remove") else None
planned_word (step ∷ []) forgets = Some (action_word step)
planned_word (first ∷ second ∷ others) forgets = Some (codes "replace")

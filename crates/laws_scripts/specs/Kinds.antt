-- The kinds of the steps of a change.
use Rattle.std.specs.Prelude.{◌≡◌, ⊤, List, [], ◌∷◌, false}
use Rattle.apply_model.specs.declared.plan.step_kind.StepKind.{StepKind}
use Rattle.apply_model.specs.Plan.StepKind.{is_kind}

-- A change has no step, one, or two of different kinds.
abbrev pub AreKinds : List StepKind → Type 0
AreKinds [] = ⊤
AreKinds (kind ∷ []) = ⊤
AreKinds (first ∷ second ∷ []) = is_kind first second ≡ false
AreKinds (first ∷ second ∷ third ∷ more) = ⊥

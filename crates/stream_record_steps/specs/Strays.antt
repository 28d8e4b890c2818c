-- Starts of no step of the plan.
use Rattle.std.specs.Prelude.{ℕ, List, [], ◌∷◌, ◌++◌, ◌&&◌, Bool, if◌then◌else◌}
use Rattle.std.specs.List.{list_any}
use Rattle.std.specs.Str.{bytes_eq}
use Rattle.apply_model.specs.declared.plan.step_kind.StepKind.{StepKind}
use Rattle.apply_model.specs.Plan.StepKind.{is_kind}
use Rattle.stream_record_steps.specs.declared.strays.Stray.{Stray}

abbrev pub has_stray : List Stray → StepKind → (address : List ℕ) → Bool
has_stray strays kind address = list_any (λ stray. is_kind kind stray.kind && bytes_eq address stray.address) strays

-- One stray more, unless there is one of its kind and address.
abbrev pub with_stray : Stray → List Stray → List Stray
with_stray stray strays = if has_stray strays stray.kind stray.address then strays else strays ++ stray ∷ []

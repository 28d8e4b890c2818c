-- The kinds of steps.
use Rattle.std.specs.Prelude.{Bool, true, false}
use Rattle.apply_model.specs.declared.plan.step_kind.StepKind.{StepKind}
use Rattle.apply_model.specs.declared.plan.step_kind.StepKind.TheVariants.{Create, Update, Delete, Read}

-- whether two kinds are the same
abbrev pub is_kind : StepKind → StepKind → Bool
is_kind Create Create = true
is_kind Update Update = true
is_kind Delete Delete = true
is_kind Read Read = true
is_kind _ _ = false

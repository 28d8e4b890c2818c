-- The rules of the hooks that halt.
use Rattle.std.specs.Prelude.{List, [], ◌∷◌, Option, Some}
use Rattle.apply_model.specs.declared.plan.step_kind.StepKind.{StepKind}
use Rattle.apply_hooks.specs.declared.phase.Phase.{Phase}
use Rattle.apply_hooks.specs.declared.rule.Rule.{Rule}
use Rattle.apply_hooks.specs.declared.verdict.Verdict.TheVariants.{Halt}

-- One rule that halts steps of that kind, or of every kind, in that phase.
abbrev pub halting : Phase → Option StepKind → List Rule
halting phase kind = record { phase = Some phase; kind = kind; address_begins = []; verdict = Halt } ∷ []

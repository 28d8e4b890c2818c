use Rattle.std.proofs.Common.{◌≡◌, ◌<◌, List, [], ◌∷◌, None, length, sym, ap, arith}
use Rattle.std.specs.Prelude.{Bool, false}
use Rattle.apply_model.specs.declared.plan.step_kind.StepKind.{StepKind}
use Rattle.apply_text_terraform.specs.Details.{planned_word}
use Rattle.apply_text_terraform.proofs.planned.planned_word.Goals as goal

-- nothing is planned where there is no step and nothing is forgotten
nothing : (steps : List StepKind) (forgets : Bool) → length steps < 1 → forgets ≡ false → None ≡ planned_word steps forgets
nothing [] forgets none stays = ap (planned_word []) (sym stays)
nothing (step ∷ steps) forgets none stays = absurd (omega arith)

pub returns-in-empty-2 : goal.returns-in-empty-2
returns-in-empty-2 c = nothing c.args.steps.now c.args.forgets c.in-empty.len_below c.if-forgets.false

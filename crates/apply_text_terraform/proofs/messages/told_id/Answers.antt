use Rattle.std.proofs.Common.{◌≡◌, ℕ, List, Option, Some, ap}
use Rattle.std.specs.Option.{option_copied, option_or}
use Rattle.apply_model.specs.declared.plan.step_kind.StepKind.{StepKind}
use Rattle.apply_model.specs.declared.plan.step_kind.StepKind.TheVariants.{Create, Update, Delete, Read}
use Rattle.apply_model.specs.declared.script.ending.Ending.{Ending}
use Rattle.apply_text.specs.AppliedStep.{outcome_view}
use Rattle.apply_text.specs.Message as messages
use Rattle.apply_text_terraform.specs.Message.{end_id}
use Rattle.apply_text_terraform.proofs.messages.told_id.Goals as goal

-- the provider's id comes before the planned one
written_first : (step : StepKind) (ending : Ending) (planned : Option (List ℕ)) (id : List ℕ) → Some id ≡ messages.end_id step ending → Some id ≡ end_id step ending planned
written_first Create ending planned id is = ap (λ fields. option_or fields planned) is
written_first Update ending planned id is = ap (λ fields. option_or fields planned) is
written_first Delete ending planned id is = is
written_first Read ending planned id is = ap (λ fields. option_or fields planned) is

pub returns-in-Some : goal.returns-in-Some
returns-in-Some c = written_first c.args.step.kind (outcome_view c.args.step).result (option_copied c.args.planned) _ c.in-Some.ensures

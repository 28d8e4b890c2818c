use Rattle.std.proofs.Common.{◌≡◌, ℕ, refl, sym, ap, ◌∙◌}
use Rattle.std.specs.Prelude.{false}
use Rattle.apply_model.specs.declared.plan.step_kind.StepKind.TheVariants.{Read}
use Rattle.apply_events.specs.declared.what.What.{What}
use Rattle.apply_events.specs.declared.what.What.TheVariants.{Start, Progress, Complete, Errored, ErrorNote, WarnNote, Halted, ProvisionStart, ProvisionOutput, ProvisionComplete, ProvisionErrored}
use Rattle.apply_text_terraform.specs.Message.{is_silent}
use Rattle.apply_text_terraform.proofs.terraform_buffer.is_silent.Goals as goal

-- each event of a read has a line, except its failure
fields : (what : What) → ((seconds : ℕ) → what ≡ Errored seconds → ⊥) → false ≡ is_silent Read what
fields Start not_errored = refl
fields (Progress seconds) not_errored = refl
fields (Complete seconds) not_errored = refl
fields (Errored seconds) not_errored = absurd (not_errored seconds refl)
fields ErrorNote not_errored = refl
fields WarnNote not_errored = refl
fields (Halted phase hook) not_errored = refl
fields (ProvisionStart i) not_errored = refl
fields (ProvisionOutput i line) not_errored = refl
fields (ProvisionComplete i) not_errored = refl
fields (ProvisionErrored i) not_errored = refl

pub returns-in_default : goal.returns-in_default
returns-in_default c = fields c.args.what c.in_default.not-Errored-1 ∙ ap (λ step. is_silent step c.args.what) (sym c.in_default.is-0)

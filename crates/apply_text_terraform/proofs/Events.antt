-- The texts that both forms write for an event in the same words.
use Rattle.std.proofs.Common.{◌≡◌, ℕ, List, codes, Option, refl, ap, ◌∙◌}
use Rattle.apply_model.specs.declared.script.diag.Diag.{Diag}
use Rattle.apply_events.specs.declared.what.What.{What}
use Rattle.apply_events.specs.declared.what.What.TheVariants.{Start, Progress, Complete, Errored, ErrorNote, WarnNote, Halted, ProvisionStart, ProvisionOutput, ProvisionComplete, ProvisionErrored}
use Rattle.apply_text.specs.declared.applied_step.AppliedStep.{AppliedStep}
use Rattle.apply_text.specs.AppliedStep as default
use Rattle.apply_text.specs.Sending.{member_tokens}
use Rattle.apply_text_terraform.specs.AppliedStep.{message_of}
use Rattle.apply_text_terraform.specs.Objects.{diagnostic_object}

pub same_level : (step : AppliedStep) (planned : Option (List ℕ)) (what : What) → (default.message_of step what).level ≡ (message_of step planned what).level
same_level step planned Start = refl
same_level step planned (Progress seconds) = refl
same_level step planned (Complete seconds) = refl
same_level step planned (Errored seconds) = refl
same_level step planned ErrorNote = refl
same_level step planned WarnNote = refl
same_level step planned (Halted phase hook) = refl
same_level step planned (ProvisionStart i) = refl
same_level step planned (ProvisionOutput i line) = refl
same_level step planned (ProvisionComplete i) = refl
same_level step planned (ProvisionErrored i) = refl

pub same_type : (step : AppliedStep) (planned : Option (List ℕ)) (what : What) → (default.message_of step what).type_name ≡ (message_of step planned what).type_name
same_type step planned Start = refl
same_type step planned (Progress seconds) = refl
same_type step planned (Complete seconds) = refl
same_type step planned (Errored seconds) = refl
same_type step planned ErrorNote = refl
same_type step planned WarnNote = refl
same_type step planned (Halted phase hook) = refl
same_type step planned (ProvisionStart i) = refl
same_type step planned (ProvisionOutput i line) = refl
same_type step planned (ProvisionComplete i) = refl
same_type step planned (ProvisionErrored i) = refl

-- the same diagnostic
pub same_diagnostic : (address address₂ : Option (List ℕ)) (severity severity₂ : List ℕ) (diag diag₂ : Diag) → address ≡ address₂ → severity ≡ severity₂ → diag ≡ diag₂
    → member_tokens (codes "diagnostic") (diagnostic_object address severity diag) ≡ member_tokens (codes "diagnostic") (diagnostic_object address₂ severity₂ diag₂)
same_diagnostic address address₂ severity severity₂ diag diag₂ addresses severities diags =
    ap (λ a. member_tokens (codes "diagnostic") (diagnostic_object a severity diag)) addresses
    ∙ ap (λ s. member_tokens (codes "diagnostic") (diagnostic_object address₂ s diag)) severities
    ∙ ap (λ d. member_tokens (codes "diagnostic") (diagnostic_object address₂ severity₂ d)) diags

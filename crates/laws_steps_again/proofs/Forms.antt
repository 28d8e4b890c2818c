-- The address at which a form shows the diagnostic of a step, and that of the diagnostics that fit.
use Rattle.std.proofs.Common.{◌≡◌, ◌∙◌, ℕ, Bool, true, false, ◌&&◌, not, List, Option, Some, None, is_some, refl, sym, ap, ⊎_elim}
use Rattle.std.specs.Prelude.{if◌then◌else◌, slice_get}
use Rattle.apply_model.specs.declared.details.note.Severity.TheVariants.{Error}
use Rattle.apply_model.specs.declared.plan.step_kind.StepKind.{StepKind}
use Rattle.apply_model.specs.declared.plan.step_kind.StepKind.TheVariants.{Create, Update, Delete, Read}
use Rattle.apply_model.specs.declared.script.outcome.Outcome.{Outcome}
use Rattle.apply_model.specs.Plan.ResourceChange.{ResourceChange}
use Rattle.apply_model.specs.Plan.StepKind.{is_kind}
use Rattle.apply_model.specs.Script.Outcome.{fails, first_diag}
use Rattle.apply_model.specs.Script.OutcomeMap.{outcome_of}
use Rattle.apply_events.specs.Step.{Work, has_warning, kinds_of}
use Rattle.stream_record_steps.specs.declared.begun_step.BegunStep.{BegunStep}
use Rattle.stream_record_steps.specs.declared.begun_step.EndResult.TheVariants.{Failed}
use Rattle.stream_record_steps.specs.Steps.{PlannedStep}
use Rattle.stream_record_outcomes.specs.Assignment.{Fit, fit_of_end, is_unaddressed}
use Rattle.stream_record_outcomes.specs.Provisioners.{fails_its_step, last_provisioner}
use Rattle.laws_steps_again.specs.Again.{IsInForm, IsPlain, IsTerraform, Look}

-- ---- the address of an error

-- `deletes`: the step is a delete. `default`: the form is the default one. `provisioned`: a
-- provisioner makes the step fail.
abbrev address_with : (deletes default provisioned : Bool) → (address : List ℕ) → Option (List ℕ)
address_with deletes default provisioned address = if (deletes && not default) && not provisioned then None else Some address

with_default : (deletes provisioned : Bool) (address : List ℕ) → address_with deletes true provisioned address ≡ Some address
with_default true provisioned address = refl
with_default false provisioned address = refl

without_default : (deletes provisioned : Bool) (address : List ℕ) → address_with deletes false provisioned address ≡ (if deletes && not provisioned then None else Some address)
without_default true provisioned address = refl
without_default false provisioned address = refl

module _ (look : Look) (is_default_form : Bool) (work : Work) where
  error_at : (kind : StepKind) (change : ResourceChange) (outcome : Outcome) (provisioned : Bool) → provisioned ≡ is_some (first_diag outcome.provisioners)
      → IsInForm look is_default_form work → address_with (is_kind Delete kind) is_default_form provisioned change.address ≡ look.address change kind outcome
  error_at kind change outcome provisioned is form = ⊎_elim
      (λ (plain : IsPlain look is_default_form).
      ap (λ (d : Bool). address_with (is_kind Delete kind) d provisioned change.address) plain.default
      ∙ with_default (is_kind Delete kind) provisioned change.address
      ∙ sym (ap (λ (f : ResourceChange → StepKind → Outcome → Option (List ℕ)). f change kind outcome) plain.address))
      (λ (other : IsTerraform look is_default_form work).
      ap (λ (d : Bool). address_with (is_kind Delete kind) d provisioned change.address) other.other
      ∙ without_default (is_kind Delete kind) provisioned change.address
      ∙ ap (λ (p : Bool). if is_kind Delete kind && not p then None else Some change.address) is
      ∙ sym (ap (λ (f : ResourceChange → StepKind → Outcome → Option (List ℕ)). f change kind outcome) other.address))
      form

  -- Errors that fit a step that failed have the address at which the form shows its error.
  pub error_fits : IsInForm look is_default_form work → (step : PlannedStep) (known : BegunStep) (outcome : Outcome)
      → fails_its_step (last_provisioner known.facts) ≡ is_some (first_diag outcome.provisioners)
      → fit_of_end is_default_form step known Failed ≡ Some (record { severity = Some Error; address = look.address step.change step.kind outcome })
  error_fits form step known outcome is =
      ap (λ (address : Option (List ℕ)). let fit : Fit = record { severity = Some Error; address = address } in Some fit)
      (error_at step.kind step.change outcome (fails_its_step (last_provisioner known.facts)) is form)

  -- ---- the address of a warning

  no_delete : (deletes : Bool) → (deletes && not false) ≡ false → deletes ≡ false
  no_delete true is = is
  no_delete false is = refl

  pub addressed : IsInForm look is_default_form work → (change : ResourceChange) (kind : StepKind) (outcome : Outcome) → is_unaddressed is_default_form kind ≡ false
      → look.address change kind outcome ≡ Some change.address
  addressed form change kind outcome is = ⊎_elim
      (λ (plain : IsPlain look is_default_form). ap (λ (f : ResourceChange → StepKind → Outcome → Option (List ℕ)). f change kind outcome) plain.address)
      (λ (other : IsTerraform look is_default_form work).
      let kept = no_delete (is_kind Delete kind) (sym (ap (λ (d : Bool). is_kind Delete kind && not d) other.other) ∙ is) in
      ap (λ (f : ResourceChange → StepKind → Outcome → Option (List ℕ)). f change kind outcome) other.address
      ∙ ap (λ (t : Bool). if t && not (is_some (first_diag outcome.provisioners)) then None else Some change.address) kept)
      form

  never_default : (deletes : Bool) → (deletes && not true) ≡ false
  never_default true = refl
  never_default false = refl

  -- A step that completes and warns is one whose warnings have an address.
  pub warns_at_address : IsInForm look is_default_form work → (c k : ℕ) (kind : StepKind) → slice_get (kinds_of work.plan c) k ≡ Some kind
      → fails (outcome_of work.script c k) ≡ false → has_warning (outcome_of work.script c k).result ≡ true → is_unaddressed is_default_form kind ≡ false
  warns_at_address form c k kind at completes warns = ⊎_elim
      (λ (plain : IsPlain look is_default_form). ap (λ (d : Bool). is_kind Delete kind && not d) plain.default ∙ never_default (is_kind Delete kind))
      (λ (other : IsTerraform look is_default_form work). of other kind at)
      form
    where
      of : IsTerraform look is_default_form work → (kind : StepKind) → slice_get (kinds_of work.plan c) k ≡ Some kind → is_unaddressed is_default_form kind ≡ false
      of other Create at = refl
      of other Update at = refl
      of other Delete at = let both : true ≡ false = sym warns ∙ other.deletes c k at completes in absurd cc
      of other Read at = refl

  -- ---- outcomes with the same address

  -- The address is the same where provisioners fail alike.
  pub same_look : IsInForm look is_default_form work → (change : ResourceChange) (kind : StepKind) (one other : Outcome)
      → is_some (first_diag one.provisioners) ≡ is_some (first_diag other.provisioners) → look.address change kind one ≡ look.address change kind other
  same_look form change kind one other same =
      sym (error_at kind change one (is_some (first_diag one.provisioners)) refl form) ∙ error_at kind change other (is_some (first_diag one.provisioners)) same form

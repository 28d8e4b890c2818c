-- Which diagnostics fit a step that ended, and what it told.
use Rattle.std.proofs.Common.{◌≡◌, ◌∙◌, ℕ, List, Bool, true, false, Option, None, Some, option_map, if◌then◌else◌, ◌⊎◌, inl, inr, refl, sym, ap}
use Rattle.std.specs.Prelude.{option_and_then}
use Rattle.std.specs.Option.{option_map_or}
use Rattle.std.proofs.lemmas.Bool.{and_parts}
use Rattle.apply_model.specs.declared.details.note.Note.{Note}
use Rattle.apply_model.specs.declared.details.note.Severity.{Severity}
use Rattle.apply_model.specs.declared.details.note.Severity.TheVariants.{Error, Warning}
use Rattle.stream_record_steps.specs.declared.begun_step.BegunStep.{BegunStep}
use Rattle.stream_record_steps.specs.declared.begun_step.EndResult.{EndResult}
use Rattle.stream_record_steps.specs.declared.begun_step.EndResult.TheVariants.{Completed, Failed}
use Rattle.stream_record_steps.specs.declared.begun_step.StepEnd.{StepEnd}
use Rattle.stream_record_steps.specs.Begun.{Begun, begun_at}
use Rattle.stream_record_steps.specs.Steps.{PlannedStep}
use Rattle.stream_record_outcomes.specs.Assignment.{Fit, Taker, fit_of, fit_of_end, fit_without_end, same_severity, is_unaddressed, taker_at, taker_with}
use Rattle.stream_record_outcomes.specs.Outcome.{is_warning}
use Rattle.laws_notes.specs.Told.{FitsStep, HasNote, severity_of_end}
use Rattle.laws_notes.proofs.Dealt.{goes}

abbrev pub IsWarning : Note → Type 0
IsWarning note = is_warning note.severity ≡ true

abbrev pub IsError : Note → Type 0
IsError note = is_warning note.severity ≡ false

same_as_error : (severity : Severity) → same_severity severity Error ≡ true → is_warning severity ≡ false
same_as_error Error same = refl
same_as_error Warning same = absurd cc

same_as_warning : (severity : Severity) → same_severity severity Warning ≡ true → is_warning severity ≡ true
same_as_warning Error same = absurd cc
same_as_warning Warning same = refl

error_is : (severity : Severity) → is_warning severity ≡ false → severity ≡ Error
error_is Error is = refl
error_is Warning is = absurd cc

warning_is : (severity : Severity) → is_warning severity ≡ true → severity ≡ Warning
warning_is Error is = absurd cc
warning_is Warning is = refl

module _ (place : ℕ) (step : PlannedStep) (known : BegunStep) (note : Note) where
  told_fits : (fit : Option Fit) (result : EndResult) → FitsStep fit result (Some note) → goes (option_map (taker_with place step known) fit) note ≡ true
  told_fits None (Completed id_key id) is = absurd (is.1 refl)
  told_fits None Failed is = absurd (is.1 refl)
  told_fits (Some fit) (Completed id_key id) is = is.0
  told_fits (Some fit) Failed is = is.0

  fits_what_goes : (fit : Option Fit) (result : EndResult) → goes (option_map (taker_with place step known) fit) note ≡ true → FitsStep fit result (Some note)
  fits_what_goes None result is = absurd cc
  fits_what_goes (Some fit) (Completed id_key id) is = (is, λ none. cc)
  fits_what_goes (Some fit) Failed is = (is, λ none. cc)

  completed_warns : (has_none : Bool) (address : Option (List ℕ))
      → goes (option_map (taker_with place step known) (if has_none then None else Some (record { severity = Some Warning; address = address }))) note ≡ true
      → IsWarning note
  completed_warns true address is = absurd cc
  completed_warns false address is = same_as_warning note.severity (and_parts (same_severity note.severity Warning) _ is).0

  failed_is_error : (is_default_form : Bool) → goes (option_map (taker_with place step known) (fit_of_end is_default_form step known Failed)) note ≡ true → IsError note
  failed_is_error is_default_form is = same_as_error note.severity (and_parts (same_severity note.severity Error) _ is).0

module _ (is_default_form : Bool) (begun : Begun) (place : ℕ) where
  pub taker_is : (own : Option Note) (has : HasNote is_default_form begun place own)
      → taker_at is_default_form begun place ≡ option_map (taker_with place has.step has.known) (fit_of is_default_form has.step has.known)
  taker_is own has =
      ap
      (λ (found : Option PlannedStep).
      option_and_then (λ step. option_and_then (λ known. option_map (taker_with place step known) (fit_of is_default_form step known)) (begun_at begun.by_step place)) found)
      has.planned
      ∙ ap (λ (found : Option BegunStep). option_and_then (λ known. option_map (taker_with place has.step known) (fit_of is_default_form has.step known)) found) has.began

  taker_by : (own : Option Note) (has : HasNote is_default_form begun place own) (result : EndResult) → has.end.result ≡ result
      → taker_at is_default_form begun place ≡ option_map (taker_with place has.step has.known) (fit_of_end is_default_form has.step has.known result)
  taker_by own has result is =
      taker_is own has
      ∙ ap
      (λ (end : Option StepEnd).
      option_map (taker_with place has.step has.known)
      (option_map_or (λ end. fit_of_end is_default_form has.step has.known end.result) end (Some (fit_without_end has.step))))
      has.ended
      ∙ ap (λ (r : EndResult). option_map (taker_with place has.step has.known) (fit_of_end is_default_form has.step has.known r)) is

  -- what a step told fits it
  pub told_goes : (note : Note) → HasNote is_default_form begun place (Some note) → goes (taker_at is_default_form begun place) note ≡ true
  told_goes note has =
      ap (λ (taker : Option Taker). goes taker note) (taker_is (Some note) has)
      ∙ told_fits place has.step has.known note (fit_of is_default_form has.step has.known) has.end.result has.fits_step

  -- the step may have what fits it
  pub may_have : (own : Option Note) (note : Note) → HasNote is_default_form begun place own
      → goes (taker_at is_default_form begun place) note ≡ true → HasNote is_default_form begun place (Some note)
  may_have own note has is = record {
    step = has.step;
    known = has.known;
    end = has.end;
    planned = has.planned;
    began = has.began;
    ended = has.ended;
    fits_step =
        fits_what_goes place has.step has.known note (fit_of is_default_form has.step has.known) has.end.result
        (sym (ap (λ (taker : Option Taker). goes taker note) (taker_is own has)) ∙ is);
  }

  -- The step needs none, and what fits it is a warning.
  pub record IsCompleted : Type 0 where
    pub without : HasNote is_default_form begun place None
    pub warns : (note : Note) → goes (taker_at is_default_form begun place) note ≡ true → IsWarning note

  -- The step told an error.
  pub record HasFailed (own : Option Note) : Type 0 where
    pub note : Note
    pub told : own ≡ Some note
    pub is_error : IsError note

  -- the end states the severity of what the step told
  severity_by : (note : Note) (has : HasNote is_default_form begun place (Some note)) (result : EndResult) → has.end.result ≡ result → note.severity ≡ severity_of_end result
  severity_by note has (Completed id_key id) is =
      warning_is note.severity
      (completed_warns place has.step has.known note (is_unaddressed is_default_form has.step.kind) (Some has.step.change.address)
      (sym (ap (λ (taker : Option Taker). goes taker note) (taker_by (Some note) has (Completed id_key id) is)) ∙ told_goes note has))
  severity_by note has Failed is =
      error_is note.severity
      (failed_is_error place has.step has.known note is_default_form
      (sym (ap (λ (taker : Option Taker). goes taker note) (taker_by (Some note) has Failed is)) ∙ told_goes note has))

  pub has_severity : (note : Note) (has : HasNote is_default_form begun place (Some note)) → note.severity ≡ severity_of_end has.end.result
  has_severity note has = severity_by note has has.end.result refl

  by_result : (own : Option Note) (has : HasNote is_default_form begun place own) (result : EndResult) → has.end.result ≡ result → IsCompleted ⊎ HasFailed own
  by_result own has (Completed id_key id) is = inl
      record {
        without = record {
          step = has.step;
          known = has.known;
          end = has.end;
          planned = has.planned;
          began = has.began;
          ended = has.ended;
          fits_step = rw is tt;
        };
        warns = λ note fit.
            completed_warns place has.step has.known note (is_unaddressed is_default_form has.step.kind) (Some has.step.change.address)
            (sym (ap (λ (taker : Option Taker). goes taker note) (taker_by own has (Completed id_key id) is)) ∙ fit);
      }
  by_result None has Failed is = absurd (rw is at has.fits_step)
  by_result (Some note) has Failed is = inr
      record {
        note = note;
        told = refl;
        is_error =
            failed_is_error place has.step has.known note is_default_form
            (sym (ap (λ (taker : Option Taker). goes taker note) (taker_by (Some note) has Failed is)) ∙ told_goes note has);
      }

  pub completed_or_failed : (own : Option Note) → HasNote is_default_form begun place own → IsCompleted ⊎ HasFailed own
  completed_or_failed own has = by_result own has has.end.result refl

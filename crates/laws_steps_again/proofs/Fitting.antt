-- The diagnostic of a step fits its end. An outcome that ends like it tells the diagnostic again.
use Rattle.std.proofs.Common.{◌≡◌, ◌∙◌, ℕ, Bool, true, false, List, Option, Some, None, is_some, refl, sym, ap, ap₂, subst}
use Rattle.std.specs.Prelude.{codes, if◌then◌else◌, option_map, unwrap_or}
use Rattle.std.proofs.lemmas.Slice.Eq.{bytes_eq-Decides}
use Rattle.apply_model.specs.declared.details.note.Note.{Note}
use Rattle.apply_model.specs.declared.details.note.Severity.{Severity}
use Rattle.apply_model.specs.declared.details.note.Severity.TheVariants.{Error, Warning}
use Rattle.apply_model.specs.declared.script.diag.Diag.{Diag}
use Rattle.apply_model.specs.declared.script.ending.Ending.{Ending}
use Rattle.apply_model.specs.declared.script.ending.Ending.TheVariants as ending
use Rattle.apply_model.specs.declared.script.outcome.Outcome.{Outcome}
use Rattle.apply_model.specs.Script.Outcome.{failure_of, fails, warning_in}
use Rattle.apply_events.specs.Step.{has_warning}
use Rattle.apply_text.specs.Message.{failure_diag, no_diag, warning_of}
use Rattle.stream_record_steps.specs.declared.begun_step.EndResult.{EndResult}
use Rattle.stream_record_steps.specs.declared.begun_step.EndResult.TheVariants.{Completed, Failed}
use Rattle.stream_record_outcomes.specs.Assignment.{Fit, same_address}
use Rattle.laws_notes.specs.Told.{FitsStep, severity_of_end}
use Rattle.laws_outcomes.specs.Told.{FitsEnd, result_of}
use Rattle.laws_texts.specs.Streams.{note_of_step}
use Rattle.laws_steps_again.specs.Again.{Look, note_shown}

same_text : (address : Option (List ℕ)) → same_address address address ≡ true
same_text None = refl
same_text (Some text) = (bytes_eq-Decides text text).1 refl

-- ---- the diagnostic of the step

error_noted : (fit : Option Fit) (diag : Diag) (address : Option (List ℕ)) → fit ≡ Some (record { severity = Some Error; address = address })
    → FitsStep fit Failed (Some (record { severity = Error; diag = diag; address = address }))
error_noted fit diag address is =
    subst (λ (o : Option Fit). FitsStep o Failed (Some (record { severity = Error; diag = diag; address = address }))) (sym is) (same_text address, λ none. cc)

warning_noted : (fit : Option Fit) (diag : Diag) (address key id : Option (List ℕ)) → fit ≡ Some (record { severity = Some Warning; address = address })
    → FitsStep fit (Completed key id) (Some (record { severity = Warning; diag = diag; address = address }))
warning_noted fit diag address key id is =
    subst (λ (o : Option Fit). FitsStep o (Completed key id) (Some (record { severity = Warning; diag = diag; address = address }))) (sym is) (same_text address, λ none. cc)

module _ (look : Look) (address id : Option (List ℕ)) (fit : (result : EndResult) → Option Fit) where
  fits_with : (outcome : Outcome) (failed warns : Bool)
      → (failed ≡ true → fit (result_of true id) ≡ Some (record { severity = Some Error; address = address }))
      → (failed ≡ false → warns ≡ true → fit (result_of false id) ≡ Some (record { severity = Some Warning; address = address }))
      → FitsStep (fit (result_of failed id)) (result_of failed id)
      (option_map (note_shown look)
      (if failed then Some (record { severity = Error; diag = failure_diag outcome; address = address })
      else if warns then Some (record { severity = Warning; diag = warning_of outcome.result; address = address })
      else None))
  fits_with outcome true warns errors warnings = error_noted (fit (result_of true id)) (look.shown (failure_diag outcome)) address (errors refl)
  fits_with outcome false true errors warnings = warning_noted (fit (result_of false id)) (look.shown (warning_of outcome.result)) address (option_map (λ (text : List ℕ). codes "id") id) id (warnings refl refl)
  fits_with outcome false false errors warnings = tt

  pub note_fits : (outcome : Outcome)
      → (fails outcome ≡ true → fit (result_of true id) ≡ Some (record { severity = Some Error; address = address }))
      → (fails outcome ≡ false → has_warning outcome.result ≡ true → fit (result_of false id) ≡ Some (record { severity = Some Warning; address = address }))
      → FitsStep (fit (result_of (fails outcome) id)) (result_of (fails outcome) id) (option_map (note_shown look) (note_of_step address outcome))
  note_fits outcome errors warnings = fits_with outcome (fails outcome) (has_warning outcome.result) errors warnings

-- A diagnostic that fits the step, of the severity that its end states, fits the end.
pub end_fits : (failed : Bool) (id : Option (List ℕ)) (fit : Option Fit) (note : Option Note) → FitsStep fit (result_of failed id) note
    → ((own : Note) → note ≡ Some own → own.severity ≡ severity_of_end (result_of failed id)) → FitsEnd failed note
end_fits true id fit None is severity = absurd is
end_fits true id fit (Some own) is severity = severity own refl
end_fits false id fit None is severity = tt
end_fits false id fit (Some own) is severity = severity own refl

-- ---- the diagnostic told again

some_warning : (end : Ending) → has_warning end ≡ is_some (warning_in end)
some_warning (ending.Done id None) = refl
some_warning (ending.Done id (Some diag)) = refl
some_warning (ending.Failed diag) = refl
some_warning (ending.Warned diag) = refl

abbrev noted : Outcome → Option (List ℕ) → (failed warns : Bool) → Option Note
noted outcome address failed warns =
    if failed then Some (record { severity = Error; diag = failure_diag outcome; address = address })
    else if warns then Some (record { severity = Warning; diag = warning_of outcome.result; address = address })
    else None

same_note : (note : Note) (severity : Severity) (diag : Diag) (address : Option (List ℕ)) → note.severity ≡ severity → diag ≡ note.diag → note.address ≡ address
    → Some (record { severity = severity; diag = diag; address = address }) ≡ Some note
same_note note severity diag address severity_is diag_is address_is =
    ap₂ (λ (s : Severity) (d : Diag). let one : Note = record { severity = s; diag = d; address = address } in Some one) (sym severity_is) diag_is
    ∙ ap (λ (a : Option (List ℕ)). let one : Note = record { severity = note.severity; diag = note.diag; address = a } in Some one) (sym address_is)

pub noted_again : (outcome : Outcome) (address : Option (List ℕ)) (failed : Bool) (note : Option Note) → fails outcome ≡ failed → FitsEnd failed note
    → (failed ≡ true → failure_of outcome ≡ option_map (λ own. own.diag) note)
    → (failed ≡ false → warning_in outcome.result ≡ option_map (λ own. own.diag) note)
    → ((own : Note) → note ≡ Some own → own.address ≡ address) → note_of_step address outcome ≡ note
noted_again outcome address true None fails_is fit failure warning at = absurd fit
noted_again outcome address true (Some own) fails_is fit failure warning at =
    ap (λ (t : Bool). noted outcome address t (has_warning outcome.result)) fails_is
    ∙ same_note own Error (failure_diag outcome) address fit (ap (λ (o : Option Diag). unwrap_or o no_diag) (failure refl)) (at own refl)
noted_again outcome address false None fails_is fit failure warning at =
    ap (λ (t : Bool). noted outcome address t (has_warning outcome.result)) fails_is
    ∙ ap (noted outcome address false) (some_warning outcome.result ∙ ap is_some (warning refl))
noted_again outcome address false (Some own) fails_is fit failure warning at =
    ap (λ (t : Bool). noted outcome address t (has_warning outcome.result)) fails_is
    ∙ ap (noted outcome address false) (some_warning outcome.result ∙ ap is_some (warning refl))
    ∙ same_note own Warning (warning_of outcome.result) address fit (ap (λ (o : Option Diag). unwrap_or o no_diag) (warning refl)) (at own refl)

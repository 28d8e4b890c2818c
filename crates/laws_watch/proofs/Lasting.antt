-- A step that has ended stays as it is in the picture of further lines.
use Rattle.std.proofs.Common.{◌≡◌, ◌∙◌, ℕ, zero, suc, ◌+◌, ◌∷◌, ◌++◌, [], Bool, List, Option, None, Some, true, false, ⊎_elim, ap, fold, get_or, map, refl, subst, sym}
use Rattle.std.specs.Prelude.{ℤ, is_none}
use Rattle.std.specs.Int.{int_gap, int_max}
use Rattle.std.specs.Option.{option_map_or}
use Rattle.std.proofs.lemmas.Bool.{and_parts, cases_Bool, true≢false}
use Rattle.stream_timeline.specs.Intervals.{length_of}
use Rattle.stream_timeline.specs.Messages.{Content, Message, begins, begins_provisioner, ends, ends_provisioner, error, message_of, other, plan_summary, summary, unusable, version, warning}
use Rattle.stream_timeline.specs.Steps.{StepRead, at_place, ended, first_of, has_open_provisioner, is_open_at, is_open_with, last_of, marked_by_error, passes_at, places, with_provisioner, with_provisioner_ended}
use Rattle.stream_timeline.specs.TimelineRead.{TimelineRead, counted_line, is_blank_line, with_content, with_line, with_message_or_passed_over, with_passed_over, with_provisioner_end_at}
use Rattle.stream_timeline.specs.declared.reading.time_range.TimeRange.{TimeRange}
use Rattle.laws_watch.proofs.FirstOnes.{at_first_place, first_changed}

module _ (begin end : ℤ) where
  -- at this place stands a step with this begin and this end
  abbrev pub EndsAt : List StepRead → (place : ℕ) → Type 0
  EndsAt [] place = ⊥
  EndsAt (step ∷ steps) zero = (step.begin ≡ begin) × (step.end ≡ Some end)
  EndsAt (step ∷ steps) (suc place) = EndsAt steps place

  abbrev KeepsTimes : (change : StepRead → StepRead) → Type 0
  KeepsTimes change = (step : StepRead) → ((change step).begin ≡ step.begin) × ((change step).end ≡ step.end)

  lasts-append : (steps more : List StepRead) (place : ℕ) → EndsAt steps place → EndsAt (steps ++ more) place
  lasts-append [] more place there = absurd there
  lasts-append (step ∷ steps) more zero there = there
  lasts-append (step ∷ steps) more (suc place) there = lasts-append steps more place there

  lasts-at : (at : ℕ) (change : StepRead → StepRead) (steps : List StepRead) (place : ℕ) → KeepsTimes change → EndsAt steps place → EndsAt (at_place at change steps) place
  lasts-at n change [] place keeps there = absurd there
  lasts-at zero change (step ∷ steps) zero keeps there = ((keeps step).0 ∙ there.0, (keeps step).1 ∙ there.1)
  lasts-at zero change (step ∷ steps) (suc place) keeps there = there
  lasts-at (suc n) change (step ∷ steps) zero keeps there = there
  lasts-at (suc n) change (step ∷ steps) (suc place) keeps there = lasts-at n change steps place keeps there

  lasts-map : (change : StepRead → StepRead) (steps : List StepRead) (place : ℕ) → KeepsTimes change → EndsAt steps place → EndsAt (map change steps) place
  lasts-map change [] place keeps there = absurd there
  lasts-map change (step ∷ steps) zero keeps there = ((keeps step).0 ∙ there.0, (keeps step).1 ∙ there.1)
  lasts-map change (step ∷ steps) (suc place) keeps there = lasts-map change steps place keeps there

  closed : (address action : List ℕ) (step : StepRead) → step.end ≡ Some end → is_open_with address action step ≡ true → ⊥
  closed address action step ended passes =
      let both = and_parts _ _ passes in
      let open_step : is_none step.end ≡ true = (and_parts _ _ both.0).0 in
      true≢false (sym open_step ∙ ap (λ e. is_none e) ended)

  lasts-first : (address action : List ℕ) (change : StepRead → StepRead) (steps : List StepRead) (place : ℕ) → EndsAt steps place
      → EndsAt (first_changed (is_open_with address action) change steps) place
  lasts-first address action change [] place there = absurd there
  lasts-first address action change (step ∷ steps) zero there =
      ⊎_elim (λ (passes : is_open_with address action step ≡ true). absurd (closed address action step there.1 passes))
      (λ (stays : is_open_with address action step ≡ false). rw stays there) (cases_Bool (is_open_with address action step))
  lasts-first address action change (step ∷ steps) (suc place) there =
      ⊎_elim (λ (passes : is_open_with address action step ≡ true). rw passes there)
      (λ (stays : is_open_with address action step ≡ false). rw stays (lasts-first address action change steps place there))
      (cases_Bool (is_open_with address action step))

  -- ---- lines

  module _ (place : ℕ) where
    abbrev Lasts : TimelineRead → Type 0
    Lasts t = EndsAt t.steps place

    marked-times : (of : Option (List ℕ)) → KeepsTimes (marked_by_error of)
    marked-times None step = (refl, refl)
    marked-times (Some address) step =
        ⊎_elim (λ (yes : is_open_at address step ≡ true). rw yes (refl, refl)) (λ (out : is_open_at address step ≡ false). rw out (refl, refl))
        (cases_Bool (is_open_at address step))

    lasts-end : (t : TimelineRead) (change : StepRead → StepRead) (o : Option ℕ) → EndsAt (option_map_or (λ n. at_place n change t.steps) o t.steps) place
        → Lasts (option_map_or (λ place. record t { steps = at_place place change t.steps }) o (with_passed_over t))
    lasts-end t change None there = there
    lasts-end t change (Some n) there = there

    lasts-provisioner : (t : TimelineRead) (change : StepRead → StepRead) (o : Option ℕ) → KeepsTimes change → Lasts t
        → Lasts (option_map_or (λ place. record t { steps = at_place place change t.steps; begun = t.begun + 1 }) o (with_passed_over t))
    lasts-provisioner t change None keeps there = there
    lasts-provisioner t change (Some n) keeps there = lasts-at n change t.steps place keeps there

    lasts-provisioner_end : (t : TimelineRead) (failed : Bool) (moment : ℤ) (o : Option ℕ) → Lasts t
        → Lasts (option_map_or (λ place. with_provisioner_end_at place failed moment t) o (with_passed_over t))
    lasts-provisioner_end t failed moment None there = there
    lasts-provisioner_end t failed moment (Some n) there =
        ⊎_elim
        (λ (yes : passes_at n has_open_provisioner t.steps ≡ true). rw yes (lasts-at n (with_provisioner_ended moment failed) t.steps place (λ step. (refl, refl)) there))
        (λ (out : passes_at n has_open_provisioner t.steps ≡ false). rw out there)
        (cases_Bool (passes_at n has_open_provisioner t.steps))

    lasts-content : (content : Content) (moment : ℤ) (t : TimelineRead) → Lasts t → Lasts (with_content moment content t)
    lasts-content (begins address action) moment t there = lasts-append t.steps _ place there
    lasts-content (ends address action failed) moment t there =
        lasts-end t (ended moment failed) (first_of (places (is_open_with address action) t.steps))
        (subst (λ steps. EndsAt steps place) (sym (at_first_place (is_open_with address action) (ended moment failed) t.steps))
        (lasts-first address action (ended moment failed) t.steps place there))
    lasts-content (begins_provisioner address name) moment t there =
        lasts-provisioner t (with_provisioner name moment) (last_of (places (is_open_at address) t.steps)) (λ step. (refl, refl)) there
    lasts-content (ends_provisioner address failed) moment t there = lasts-provisioner_end t failed moment (last_of (places (is_open_at address) t.steps)) there
    lasts-content (error of diagnostic) moment t there = lasts-map (marked_by_error of) t.steps place (marked-times of) there
    lasts-content (warning diagnostic) moment t there = there
    lasts-content (version text) moment t there = there
    lasts-content (plan_summary totals) moment t there = there
    lasts-content (summary totals) moment t there = there
    lasts-content other moment t there = there
    lasts-content unusable moment t there = there

    lasts-message : (message : Option Message) (t : TimelineRead) → Lasts t → Lasts (with_message_or_passed_over message t)
    lasts-message None t there = there
    lasts-message (Some message) t there = lasts-content message.content message.time _ there

    lasts-line : (line : List ℕ) (t : TimelineRead) → Lasts t → Lasts (with_line line t)
    lasts-line line t there =
        ⊎_elim (λ (blank : is_blank_line line ≡ true). rw blank there)
        (λ (some : is_blank_line line ≡ false). rw some (lasts-message (message_of line) (counted_line line t) there)) (cases_Bool (is_blank_line line))

    pub lasts-lines : (lines : List (List ℕ)) (t : TimelineRead) → Lasts t → Lasts (fold (λ t line. with_line line t) t lines)
    lasts-lines [] t there = there
    lasts-lines (line ∷ lines) t there = lasts-lines lines (with_line line t) (lasts-line line t there)

  -- ---- its length

  pub lasting-length : (time_range : TimeRange) (steps : List StepRead) (place : ℕ) (absent : StepRead) → EndsAt steps place
      → length_of time_range (get_or steps place absent) ≡ int_gap begin (int_max begin end)
  lasting-length time_range [] place absent there = absurd there
  lasting-length time_range (step ∷ steps) zero absent there = rw (there.0, there.1) refl
  lasting-length time_range (step ∷ steps) (suc place) absent there = lasting-length time_range steps place absent there

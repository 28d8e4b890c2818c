-- The hook messages of one step of a run without hooks: those of a whole step.
use Rattle.std.proofs.Common.{◌≡◌, ◌∙◌, ◌+◌, ℕ, Bool, true, false, cond, List, [], ◌∷◌, ◌++◌, map, None, refl, sym, ap, ap₂, append-nil, subst, ⊎_elim}
use Rattle.std.specs.Prelude.{All, is_some, not, option_map, option_to_list}
use Rattle.std.specs.List.{Contains}
use Rattle.std.proofs.lemmas.List.Elements.{All-contains, All-map, Contains-append_cases, Contains-append_right, filter-append}
use Rattle.apply_model.specs.declared.script.provisioner.Provisioner.{Provisioner}
use Rattle.apply_model.specs.Script.Outcome.{has_failed}
use Rattle.apply_hooks.specs.declared.phase.Phase.{Phase}
use Rattle.apply_hooks.specs.declared.phase.Phase.TheVariants.{Pre}
use Rattle.apply_events.specs.declared.event.Event.{Event}
use Rattle.apply_events.specs.declared.what.What.{What}
use Rattle.apply_events.specs.declared.what.What.TheVariants.{Start, Progress, WarnNote, Halted, ProvisionStart, ProvisionOutput, ProvisionComplete, ProvisionErrored}
use Rattle.apply_events.specs.Diagnostics.{is_note}
use Rattle.apply_events.specs.Provisions.{along, provision_end, times_within}
use Rattle.apply_events.specs.Step.{Step}
use Rattle.apply_events.specs.StepEvents.{between, emits_end, end_of, endings, event, halts, notes, phase_after, seconds_of, start_events, step_events}
use Rattle.apply_events.proofs.Provisions.{all_along}
use Rattle.apply_events.proofs.Waits.Members.{filter_all, in_cases, in_head, in_tail, not_in_none}
use Rattle.apply_text.specs.Order.{hook_messages_of}
use Rattle.laws_begun.specs.Followed.{IsWhole, is_completion, is_end, is_fact, is_of_provisioner}

fact_shown : (what : What) → is_fact what ≡ true → not (is_note what) ≡ true
fact_shown (Progress seconds) is = refl
fact_shown (ProvisionStart i) is = refl
fact_shown (ProvisionOutput i line) is = refl
fact_shown (ProvisionComplete i) is = refl
fact_shown (ProvisionErrored i) is = refl
fact_shown _ is = absurd cc

provision_ends : (i : ℕ) (provisioner : Provisioner) → is_fact (provision_end i provisioner) ≡ true
provision_ends i provisioner = either (has_failed provisioner)
  where
    either : (failed : Bool) → is_fact (cond failed (ProvisionErrored i) (ProvisionComplete i)) ≡ true
    either true = refl
    either false = refl

end_ends : (fails : Bool) (seconds : ℕ) → is_end (end_of fails seconds) ≡ true
end_ends true seconds = refl
end_ends false seconds = refl

ends_unprovisioned : (fails : Bool) (seconds : ℕ) → is_of_provisioner (end_of fails seconds) ≡ false
ends_unprovisioned true seconds = refl
ends_unprovisioned false seconds = refl

module _ (worker : ℕ) (step : Step) (at : ℕ) where
  -- what comes between the start and the end
  abbrev pub middle : List Event
  middle = map (λ p. event worker step (at + p.0) p.1) (between step)

  abbrev pub last : Event
  last = event worker step (at + seconds_of step) (end_of step.fails (seconds_of step))

  middle_facts : All (λ event. is_fact event.what ≡ true) (map (λ p. event worker step (at + p.0) p.1) (between step))
  middle_facts = All-map (λ (e : Event). is_fact e.what ≡ true) (λ p. event worker step (at + p.0) p.1) (between step)
      (all_along (λ x. is_fact x.1 ≡ true) (seconds_of step) 0 0 step.seconds_before step.ran
      (λ t. refl) (λ i p since. refl) (λ i p j since. refl) (λ i p since. provision_ends i p))

  middle_shown : hook_messages_of (map (λ p. event worker step (at + p.0) p.1) (between step)) ≡ map (λ p. event worker step (at + p.0) p.1) (between step)
  middle_shown = filter_all (λ (e : Event). not (is_note e.what)) middle
      (λ e has. fact_shown e.what (All-contains (λ (e : Event). is_fact e.what ≡ true) middle e middle_facts has))

  end_shown : (fails warns : Bool) (seconds : ℕ)
      → hook_messages_of (map (λ what. event worker step (at + seconds_of step) what) (end_of fails seconds ∷ notes fails warns)) ≡ event worker step (at + seconds_of step) (end_of fails seconds) ∷ []
  end_shown true warns seconds = refl
  end_shown false true seconds = refl
  end_shown false false seconds = refl

  endings_shown : emits_end step.fails step.only_warns ≡ true → hook_messages_of (map (λ what. event worker step (at + seconds_of step) what) (endings step)) ≡ event worker step (at + seconds_of step) (end_of step.fails (seconds_of step)) ∷ []
  endings_shown ends =
      ap (λ t. hook_messages_of (map (λ what. event worker step (at + seconds_of step) what) (cond t (end_of step.fails (seconds_of step) ∷ notes step.fails step.warns) (WarnNote ∷ [])))) ends
      ∙ end_shown step.fails step.warns (seconds_of step)

  no_halts : (phase : Phase) (second : ℕ) → step.halts phase ≡ None → hook_messages_of (halts worker step phase second) ≡ []
  no_halts phase second none = ap (λ o. hook_messages_of (option_to_list (option_map (λ hook. event worker step second (Halted phase hook)) o))) none

  module _ (unhalted : (phase : Phase) → step.halts phase ≡ None) (ends : emits_end step.fails step.only_warns ≡ true) where
    pub shown : hook_messages_of (step_events worker step at)
        ≡ event worker step at Start ∷ (map (λ p. event worker step (at + p.0) p.1) (between step) ++ event worker step (at + seconds_of step) (end_of step.fails (seconds_of step)) ∷ [])
    shown =
        let shows = λ (e : Event). not (is_note e.what) in
        let first = event worker step at Start in
        let all_endings = map (λ what. event worker step (at + seconds_of step) what) (endings step) in
        let halted = halts worker step (phase_after step.fails) (at + seconds_of step) in
        ap (λ o. hook_messages_of (cond (is_some o) (halts worker step Pre at) (start_events worker step at))) (unhalted Pre)
        ∙ filter-append shows (first ∷ (middle ++ all_endings)) halted
        ∙ ap (λ l. hook_messages_of (first ∷ (middle ++ all_endings)) ++ l) (no_halts (phase_after step.fails) (at + seconds_of step) (unhalted (phase_after step.fails)))
        ∙ append-nil (hook_messages_of (first ∷ (middle ++ all_endings)))
        ∙ ap (λ l. first ∷ l) (filter-append shows middle all_endings ∙ ap₂ (λ xs ys. xs ++ ys) middle_shown (endings_shown ends))

    pub whole_step : IsWhole (hook_messages_of (step_events worker step at))
    whole_step = record {
      start = event worker step at Start;
      facts = middle;
      end = last;
      are = shown;
      starts = refl;
      are_facts = middle_facts;
      ends = end_ends step.fails (seconds_of step);
    }

    -- a step that does not fail completes
    pub completes : step.fails ≡ false → (e : Event) × Contains (hook_messages_of (step_events worker step at)) e × (is_completion e.what ≡ true)
    completes well = (
      last,
      subst (λ l. Contains l last) (sym shown) (in_tail (event worker step at Start) _ last (Contains-append_right middle (last ∷ []) last (in_head last []))),
      ap (λ t. is_completion (end_of t (seconds_of step))) well,
    )

    -- what provisioners do is of a step that has some
    pub provisions : (e : Event) → Contains (hook_messages_of (step_events worker step at)) e → is_of_provisioner e.what ≡ true → step.ran ≡ [] → ⊥
    provisions e has provisioned bare = ⊎_elim
        (λ (start : event worker step at Start ≡ e). let both : true ≡ false = sym provisioned ∙ ap (λ (x : Event). is_of_provisioner x.what) (sym start) in cc)
        (λ (later : Contains (middle ++ last ∷ []) e). ⊎_elim
        (λ (within : Contains middle e). let both : true ≡ false = sym provisioned ∙ All-contains (λ (x : Event). is_of_provisioner x.what ≡ false) middle e none_in_middle within in cc)
        (λ (end : Contains (last ∷ []) e). ⊎_elim
        (λ (same : last ≡ e). let both : true ≡ false = sym provisioned ∙ ap (λ (x : Event). is_of_provisioner x.what) (sym same) ∙ ends_unprovisioned step.fails (seconds_of step) in cc)
        (λ (none : Contains [] e). not_in_none e none)
        (in_cases last [] e end))
        (Contains-append_cases middle (last ∷ []) e later))
        (in_cases (event worker step at Start) (middle ++ last ∷ []) e (subst (λ l. Contains l e) shown has))
      where
        none_in_middle : All (λ (x : Event). is_of_provisioner x.what ≡ false) (map (λ p. event worker step (at + p.0) p.1) (between step))
        none_in_middle = All-map (λ (x : Event). is_of_provisioner x.what ≡ false) (λ p. event worker step (at + p.0) p.1) (between step)
            (subst (λ ran. All (λ x. is_of_provisioner x.1 ≡ false) (along (seconds_of step) 0 0 step.seconds_before ran)) (sym bare)
            (All-map (λ x. is_of_provisioner x.1 ≡ false) (λ (t : ℕ). (t, Progress t)) (times_within (seconds_of step) 0 (seconds_of step)) (λ k d less. refl)))

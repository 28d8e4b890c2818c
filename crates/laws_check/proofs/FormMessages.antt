-- The messages of events in Terraform's form: their counts are those of the default form, and some
-- errors of failures name no address.
use Rattle.std.proofs.Common.{◌≡◌, ℕ, ◌≤◌, List, [], ◌∷◌, cond, count_by, flat_map, Bool, true, false, Option, Some, None, refl, sym, ap, ap₂, ◌∙◌, subst, bytes_eq, slice_get, arith}
use Rattle.std.specs.Prelude.{◌&&◌, ◌||◌, is_some, nat_lt, not}
use Rattle.std.specs.List.{list_any}
use Rattle.std.specs.Option.{option_map_or}
use Rattle.std.proofs.lemmas.Bool.{or_parts}
use Rattle.std.proofs.lemmas.List.Sums.{sum_by-append, sum_by-cons}
use Rattle.apply_model.specs.declared.plan.step_kind.StepKind.{StepKind}
use Rattle.apply_model.specs.declared.plan.step_kind.StepKind.TheVariants as kind
use Rattle.apply_model.specs.declared.script.outcome.Outcome.{Outcome}
use Rattle.apply_model.specs.Plan.ResourceChange.{ResourceChange}
use Rattle.apply_model.specs.Plan.SavedPlan.{SavedPlan}
use Rattle.apply_model.specs.Plan.StepKind.{is_kind}
use Rattle.apply_model.specs.Script.Outcome.{first_diag}
use Rattle.apply_model.specs.Script.OutcomeMap.{OutcomeMap, outcome_of}
use Rattle.stream_check.specs.declared.messages.action.Action.{Action}
use Rattle.stream_check.specs.Message.{Message, diagnostic}
use Rattle.stream_check.specs.Tally.{completes, is_error, is_error_without_address, is_plan_summary}
use Rattle.apply_events.specs.declared.event.Event.{Event}
use Rattle.apply_events.specs.declared.what.What.{What}
use Rattle.apply_events.specs.declared.what.What.TheVariants.{Start, Progress, Complete, Errored, ErrorNote, WarnNote, Halted, ProvisionStart, ProvisionOutput, ProvisionComplete, ProvisionErrored}
use Rattle.apply_events.specs.Diagnostics.{is_note}
use Rattle.apply_events.specs.Step.{address_of}
use Rattle.apply_events.specs.Totals.{is_errored}
use Rattle.apply_text_terraform.specs.Message.{is_silent, diagnostic_address}
use Rattle.laws_check.specs.ReadBack.{action_of, events_read_back, read_back, event_read_back}
use Rattle.laws_check.specs.ReadBackInForm.{read_back_in_form, event_read_back_in_form}
use Rattle.laws_check.proofs.Errors.{IsPlanned, any_both, any_counted, is_error_note}
use Rattle.laws_check.proofs.FormFailures.{AreDiagnostics, diagnostics_both, fails_where, names}
use Rattle.laws_check.proofs.FormRuns.{plainly_if, spoken, told_if}
use Rattle.laws_check.proofs.Ordinary.{located}
use Rattle.laws_check.proofs.Parts.{Each}
use Rattle.laws_check.proofs.Standings.{same_text}

-- ---- one message

count_alone : {X : Type 0} (q : X → Bool) (x : X) → count_by q (x ∷ []) ≡ cond (q x) 1 0
count_alone q x =
    let all = sum_by-cons (λ y. cond (q y) 1 0) x [] in
    let none : count_by q [] ≡ 0 = refl in
    omega arith

module _ (plan : SavedPlan) (script : OutcomeMap) where
  -- an event has one message, or none
  told_by : (P : List Message → Type 0) (e : Event) → P []
      → ((change : ResourceChange) (does : StepKind) → slice_get plan.changes e.change ≡ Some change → P (read_back_in_form change does (outcome_of script e.change e.step) e.what ∷ [])) → P (event_read_back_in_form plan script e)
  told_by P e none some = of_change (slice_get plan.changes e.change) refl
    where
      of_test : (change : ResourceChange) (does : StepKind) → slice_get plan.changes e.change ≡ Some change → (b : Bool) → P (cond b [] (read_back_in_form change does (outcome_of script e.change e.step) e.what ∷ []))
      of_test change does is true = none
      of_test change does is false = some change does is

      of_step : (change : ResourceChange) → slice_get plan.changes e.change ≡ Some change → (o : Option StepKind)
          → P (option_map_or (λ does. cond (is_silent does e.what) [] (read_back_in_form change does (outcome_of script e.change e.step) e.what ∷ [])) o [])
      of_step change is None = none
      of_step change is (Some does) = of_test change does is (is_silent does e.what)

      of_change : (o : Option ResourceChange) → slice_get plan.changes e.change ≡ o → P (told_if script e o)
      of_change None is = none
      of_change (Some change) is = of_step change is (slice_get change.steps e.step)

  -- ---- as much as in the default form

  module _ (q : Message → Bool) (same : (change : ResourceChange) (does : StepKind) (outcome : Outcome) (what : What) → q (read_back_in_form change does outcome what) ≡ q (read_back change.address (action_of does) what))
      (silent : (a : List ℕ) (k : Action) (seconds : ℕ) → q (read_back a k (Errored seconds)) ≡ false) where
    nothing_lost : (change : ResourceChange) (does : StepKind) (what : What) → is_silent does what ≡ true → q (read_back change.address (action_of does) what) ≡ false
    nothing_lost change kind.Read (Errored s) is = silent change.address (action_of kind.Read) s
    nothing_lost change kind.Read Start is = absurd cc
    nothing_lost change kind.Read (Progress s) is = absurd cc
    nothing_lost change kind.Read (Complete s) is = absurd cc
    nothing_lost change kind.Read ErrorNote is = absurd cc
    nothing_lost change kind.Read WarnNote is = absurd cc
    nothing_lost change kind.Read (Halted phase hook) is = absurd cc
    nothing_lost change kind.Read (ProvisionStart i) is = absurd cc
    nothing_lost change kind.Read (ProvisionOutput i line) is = absurd cc
    nothing_lost change kind.Read (ProvisionComplete i) is = absurd cc
    nothing_lost change kind.Read (ProvisionErrored i) is = absurd cc
    nothing_lost change kind.Create what is = absurd cc
    nothing_lost change kind.Update what is = absurd cc
    nothing_lost change kind.Delete what is = absurd cc

    one_as_read_back : (e : Event) (o : Option ResourceChange) → count_by q (told_if script e o) ≡ count_by q (plainly_if e o)
    one_as_read_back e None = refl
    one_as_read_back e (Some change) = of_step (slice_get change.steps e.step)
      where
        of_test : (does : StepKind) (b : Bool) → is_silent does e.what ≡ b
            → count_by q (cond b [] (read_back_in_form change does (outcome_of script e.change e.step) e.what ∷ [])) ≡ count_by q (read_back change.address (action_of does) e.what ∷ [])
        of_test does true is = sym (count_alone q (read_back change.address (action_of does) e.what) ∙ ap (λ (b : Bool). cond b 1 0) (nothing_lost change does e.what is))
        of_test does false is =
            count_alone q (read_back_in_form change does (outcome_of script e.change e.step) e.what) ∙ ap (λ (b : Bool). cond b 1 0) (same change does (outcome_of script e.change e.step) e.what)
            ∙ sym (count_alone q (read_back change.address (action_of does) e.what))

        of_step : (o : Option StepKind) → count_by q (option_map_or (λ does. cond (is_silent does e.what) [] (read_back_in_form change does (outcome_of script e.change e.step) e.what ∷ [])) o [])
            ≡ count_by q (option_map_or (λ does. read_back change.address (action_of does) e.what ∷ []) o [])
        of_step None = refl
        of_step (Some does) = of_test does (is_silent does e.what) refl

    as_read_back : (es : List Event) → count_by q (flat_map (event_read_back_in_form plan script) es) ≡ count_by q (events_read_back plan es)
    as_read_back [] = refl
    as_read_back (e ∷ es) =
        let rest = as_read_back es in
        let here : count_by q (event_read_back_in_form plan script e) ≡ count_by q (event_read_back plan e) = one_as_read_back e (slice_get plan.changes e.change) in
        let one = sum_by-append (λ m. cond (q m) 1 0) (event_read_back_in_form plan script e) (flat_map (event_read_back_in_form plan script) es) in
        let other = sum_by-append (λ m. cond (q m) 1 0) (event_read_back plan e) (events_read_back plan es) in
        omega arith

  -- but for the address of a diagnostic, both forms have the same message
  alike : (q : Message → Bool) → ((severe : Bool) (o p : Option (List ℕ)) → q (diagnostic severe o) ≡ q (diagnostic severe p)) → (change : ResourceChange) (does : StepKind) (outcome : Outcome) (what : What)
      → q (read_back_in_form change does outcome what) ≡ q (read_back change.address (action_of does) what)
  alike q same change does outcome Start = refl
  alike q same change does outcome (Progress s) = refl
  alike q same change does outcome (Complete s) = refl
  alike q same change does outcome (Errored s) = refl
  alike q same change does outcome ErrorNote = same true (diagnostic_address change does outcome) (Some change.address)
  alike q same change does outcome WarnNote = same false (diagnostic_address change does outcome) (Some change.address)
  alike q same change does outcome (Halted phase hook) = refl
  alike q same change does outcome (ProvisionStart i) = refl
  alike q same change does outcome (ProvisionOutput i line) = refl
  alike q same change does outcome (ProvisionComplete i) = refl
  alike q same change does outcome (ProvisionErrored i) = refl

  pub completed_as_read_back : (k : Action) (es : List Event) → count_by (completes k) (flat_map (event_read_back_in_form plan script) es) ≡ count_by (completes k) (events_read_back plan es)
  completed_as_read_back k = as_read_back (completes k) (alike (completes k) (λ severe o p. refl)) (λ a l seconds. refl)

  pub errors_as_read_back : (es : List Event) → list_any is_error (flat_map (event_read_back_in_form plan script) es) ≡ list_any is_error (events_read_back plan es)
  errors_as_read_back es =
      any_counted is_error (flat_map (event_read_back_in_form plan script) es) ∙ ap (nat_lt 0) (as_read_back is_error (alike is_error (λ severe o p. refl)) (λ a k seconds. refl) es)
      ∙ sym (any_counted is_error (events_read_back plan es))

  -- no event has the summary of a plan
  pub no_sums : (es : List Event) → count_by is_plan_summary (flat_map (event_read_back_in_form plan script) es) ≡ 0
  no_sums [] = refl
  no_sums (e ∷ es) =
      let rest = no_sums es in
      let here = told_by (λ ms. count_by is_plan_summary ms ≡ 0) e refl (λ change does is. of_what change does (outcome_of script e.change e.step) e.what) in
      let both = sum_by-append (λ m. cond (is_plan_summary m) 1 0) (event_read_back_in_form plan script e) (flat_map (event_read_back_in_form plan script) es) in
      omega arith
    where
      of_what : (change : ResourceChange) (does : StepKind) (outcome : Outcome) (what : What) → count_by is_plan_summary (read_back_in_form change does outcome what ∷ []) ≡ 0
      of_what change does outcome Start = refl
      of_what change does outcome (Progress s) = refl
      of_what change does outcome (Complete s) = refl
      of_what change does outcome (Errored s) = refl
      of_what change does outcome ErrorNote = refl
      of_what change does outcome WarnNote = refl
      of_what change does outcome (Halted phase hook) = refl
      of_what change does outcome (ProvisionStart i) = refl
      of_what change does outcome (ProvisionOutput i line) = refl
      of_what change does outcome (ProvisionComplete i) = refl
      of_what change does outcome (ProvisionErrored i) = refl

  -- ---- hook messages, and notes

  pub hooks_are_fine : (es : List Event) → Each (λ e. is_note e.what ≡ false) es → list_any is_error (flat_map (event_read_back_in_form plan script) es) ≡ false
  hooks_are_fine [] h = refl
  hooks_are_fine (e ∷ es) h =
      any_both is_error (event_read_back_in_form plan script e) (flat_map (event_read_back_in_form plan script) es)
      ∙ ap₂ (λ (a b : Bool). a || b) (told_by (λ ms. list_any is_error ms ≡ false) e refl (λ change does is. ap (λ (b : Bool). b || false) (fine change does (outcome_of script e.change e.step) e.what h.0))) (hooks_are_fine es h.1)
    where
      fine : (change : ResourceChange) (does : StepKind) (outcome : Outcome) (what : What) → is_note what ≡ false → is_error (read_back_in_form change does outcome what) ≡ false
      fine change does outcome Start is = refl
      fine change does outcome (Progress s) is = refl
      fine change does outcome (Complete s) is = refl
      fine change does outcome (Errored s) is = refl
      fine change does outcome ErrorNote is = absurd cc
      fine change does outcome WarnNote is = absurd cc
      fine change does outcome (Halted phase hook) is = absurd cc
      fine change does outcome (ProvisionStart i) is = refl
      fine change does outcome (ProvisionOutput i line) is = refl
      fine change does outcome (ProvisionComplete i) is = refl
      fine change does outcome (ProvisionErrored i) is = refl

  pub notes_are_diagnostics : (es : List Event) → Each (λ e. is_note e.what ≡ true) es → AreDiagnostics (flat_map (event_read_back_in_form plan script) es)
  notes_are_diagnostics [] h = tt
  notes_are_diagnostics (e ∷ es) h =
      diagnostics_both (event_read_back_in_form plan script e) (flat_map (event_read_back_in_form plan script) es)
      (told_by AreDiagnostics e tt (λ change does is. (read_back_note change does (outcome_of script e.change e.step) e.what h.0, tt))) (notes_are_diagnostics es h.1)
    where
      read_back_note : (change : ResourceChange) (does : StepKind) (outcome : Outcome) (what : What) → is_note what ≡ true → (severe : Bool) × (o : Option (List ℕ)) × (read_back_in_form change does outcome what ≡ diagnostic severe o)
      read_back_note change does outcome Start is = absurd cc
      read_back_note change does outcome (Progress s) is = absurd cc
      read_back_note change does outcome (Complete s) is = absurd cc
      read_back_note change does outcome (Errored s) is = absurd cc
      read_back_note change does outcome ErrorNote is = (true, diagnostic_address change does outcome, refl)
      read_back_note change does outcome WarnNote is = (false, diagnostic_address change does outcome, refl)
      read_back_note change does outcome (Halted phase hook) is = (true, Some change.address, refl)
      read_back_note change does outcome (ProvisionStart i) is = absurd cc
      read_back_note change does outcome (ProvisionOutput i line) is = absurd cc
      read_back_note change does outcome (ProvisionComplete i) is = absurd cc
      read_back_note change does outcome (ProvisionErrored i) is = absurd cc

  -- ---- failures, and their errors

  module _ (p : List ℕ → Bool) where
    one_fails : (e : Event) → count_by (fails_where p) (event_read_back_in_form plan script e) ≤ cond (p (address_of plan e.change) && is_errored e.what) 1 0
    one_fails e = told_by (λ ms. count_by (fails_where p) ms ≤ cond (p (address_of plan e.change) && is_errored e.what) 1 0) e (let none : count_by (fails_where p) [] ≡ 0 = refl in omega arith) (λ change does is.
        let one = count_alone (fails_where p) (read_back_in_form change does (outcome_of script e.change e.step) e.what) in
        let most = of_what change does (outcome_of script e.change e.step) e.what in
        let same : cond {A = ℕ} (p (address_of plan e.change) && is_errored e.what) 1 0 ≡ cond (p change.address && is_errored e.what) 1 0 =
        ap (λ (o : Option ResourceChange). cond (p (option_map_or (λ (c : ResourceChange). c.address) o []) && is_errored e.what) 1 0) is in
        omega arith)
      where
        of_test : (b : Bool) → cond {A = ℕ} b 1 0 ≤ cond (b && true) 1 0
        of_test true = omega arith
        of_test false = omega arith

        of_kind : (change : ResourceChange) (does : StepKind) (outcome : Outcome) (s : ℕ) → cond {A = ℕ} (fails_where p (read_back_in_form change does outcome (Errored s))) 1 0 ≤ cond (p change.address && true) 1 0
        of_kind change kind.Create outcome s = of_test (p change.address)
        of_kind change kind.Update outcome s = of_test (p change.address)
        of_kind change kind.Delete outcome s = of_test (p change.address)
        of_kind change kind.Read outcome s = omega arith

        of_what : (change : ResourceChange) (does : StepKind) (outcome : Outcome) (what : What) → cond {A = ℕ} (fails_where p (read_back_in_form change does outcome what)) 1 0 ≤ cond (p change.address && is_errored what) 1 0
        of_what change does outcome Start = omega arith
        of_what change does outcome (Progress s) = omega arith
        of_what change does outcome (Complete s) = omega arith
        of_what change does outcome (Errored s) = of_kind change does outcome s
        of_what change does outcome ErrorNote = omega arith
        of_what change does outcome WarnNote = omega arith
        of_what change does outcome (Halted phase hook) = omega arith
        of_what change does outcome (ProvisionStart i) = omega arith
        of_what change does outcome (ProvisionOutput i line) = omega arith
        of_what change does outcome (ProvisionComplete i) = omega arith
        of_what change does outcome (ProvisionErrored i) = omega arith

    -- no more failures have a message than there are
    pub all_fail : (es : List Event) → count_by (fails_where p) (flat_map (event_read_back_in_form plan script) es) ≤ count_by (λ (e : Event). p (address_of plan e.change) && is_errored e.what) es
    all_fail [] = omega arith
    all_fail (e ∷ es) =
        let rest = all_fail es in
        let here = one_fails e in
        let both = sum_by-append (λ m. cond (fails_where p m) 1 0) (event_read_back_in_form plan script e) (flat_map (event_read_back_in_form plan script) es) in
        let first = sum_by-cons (λ (x : Event). cond (p (address_of plan x.change) && is_errored x.what) 1 0) e es in
        omega arith

    -- an error whose address is not named later names no address
    one_alone : (change : ResourceChange) (does : StepKind) (outcome : Outcome) (what : What)
        → (p change.address ≡ true → list_any (λ m. names m change.address) (cond (is_silent does what) [] (read_back_in_form change does outcome what ∷ [])) ≡ false)
        → cond {A = ℕ} (p change.address && is_error_note what) 1 0 ≤ count_by is_error_without_address (cond (is_silent does what) [] (read_back_in_form change does outcome what ∷ []))
    one_alone change does outcome what unnamed = of_what what unnamed
      where
        at_most : (b : Bool) → cond {A = ℕ} (b && true) 1 0 ≤ 1
        at_most true = omega arith
        at_most false = omega arith

        none : (b : Bool) (n : ℕ) → cond {A = ℕ} (b && false) 1 0 ≤ n
        none true n = omega arith
        none false n = omega arith

        of_test : (b : Bool) → p change.address ≡ b → (p change.address ≡ true → (bytes_eq change.address change.address || false) ≡ false) → (n : ℕ) → cond {A = ℕ} (b && true) 1 0 ≤ n
        of_test true is h n = absurd (let no : true ≡ false = sym (ap (λ (b : Bool). b || false) (same_text change.address)) ∙ h is in cc)
        of_test false is h n = omega arith

        of_note : (alone : Bool) → (p change.address ≡ true → list_any (λ m. names m change.address) (diagnostic true (cond alone None (Some change.address)) ∷ []) ≡ false)
            → cond {A = ℕ} (p change.address && true) 1 0 ≤ count_by is_error_without_address (diagnostic true (cond alone None (Some change.address)) ∷ [])
        of_note true h = at_most (p change.address)
        of_note false h = of_test (p change.address) refl h (count_by is_error_without_address (diagnostic true (Some change.address) ∷ []))

        of_what : (what : What) → (p change.address ≡ true → list_any (λ m. names m change.address) (cond (is_silent does what) [] (read_back_in_form change does outcome what ∷ [])) ≡ false)
            → cond {A = ℕ} (p change.address && is_error_note what) 1 0 ≤ count_by is_error_without_address (cond (is_silent does what) [] (read_back_in_form change does outcome what ∷ []))
        of_what ErrorNote h =
            let read_back_so : cond (is_silent does ErrorNote) [] (read_back_in_form change does outcome ErrorNote ∷ []) ≡ read_back_in_form change does outcome ErrorNote ∷ [] =
            ap (λ (b : Bool). cond b [] (read_back_in_form change does outcome ErrorNote ∷ [])) (spoken does ErrorNote refl) in
            subst (λ (l : List Message). cond {A = ℕ} (p change.address && true) 1 0 ≤ count_by is_error_without_address l) (sym read_back_so)
            (of_note (is_kind kind.Delete does && not (is_some (first_diag outcome.provisioners))) (subst (λ (l : List Message). p change.address ≡ true → list_any (λ m. names m change.address) l ≡ false) read_back_so h))
        of_what Start h = none (p change.address) _
        of_what (Progress s) h = none (p change.address) _
        of_what (Complete s) h = none (p change.address) _
        of_what (Errored s) h = none (p change.address) _
        of_what WarnNote h = none (p change.address) _
        of_what (Halted phase hook) h = none (p change.address) _
        of_what (ProvisionStart i) h = none (p change.address) _
        of_what (ProvisionOutput i line) h = none (p change.address) _
        of_what (ProvisionComplete i) h = none (p change.address) _
        of_what (ProvisionErrored i) h = none (p change.address) _

    of_planned : (e : Event) → IsPlanned plan e → (p (address_of plan e.change) ≡ true → list_any (λ m. names m (address_of plan e.change)) (event_read_back_in_form plan script e) ≡ false)
        → cond {A = ℕ} (p (address_of plan e.change) && is_error_note e.what) 1 0 ≤ count_by is_error_without_address (event_read_back_in_form plan script e)
    of_planned e is unnamed =
        let change = located (slice_get plan.changes e.change) e.step is.0 is.1 in
        of_change (slice_get plan.changes e.change) change.0 change.1 change.2 unnamed
      where
        of_step : (change : ResourceChange) (o : Option StepKind) → o ≡ Some is.0
            → (p change.address ≡ true → list_any (λ m. names m change.address) (option_map_or (λ does. cond (is_silent does e.what) [] (read_back_in_form change does (outcome_of script e.change e.step) e.what ∷ [])) o []) ≡ false)
            → cond {A = ℕ} (p change.address && is_error_note e.what) 1 0
            ≤ count_by is_error_without_address (option_map_or (λ does. cond (is_silent does e.what) [] (read_back_in_form change does (outcome_of script e.change e.step) e.what ∷ [])) o [])
        of_step change None at h = absurd cc
        of_step change (Some does) at h = one_alone change does (outcome_of script e.change e.step) e.what h

        of_change : (o : Option ResourceChange) (change : ResourceChange) → o ≡ Some change → slice_get change.steps e.step ≡ Some is.0
            → (p (option_map_or (λ (c : ResourceChange). c.address) o []) ≡ true → list_any (λ m. names m (option_map_or (λ (c : ResourceChange). c.address) o [])) (told_if script e o) ≡ false)
            → cond {A = ℕ} (p (option_map_or (λ (c : ResourceChange). c.address) o []) && is_error_note e.what) 1 0 ≤ count_by is_error_without_address (told_if script e o)
        of_change None change at lookup h = absurd cc
        of_change (Some there) change at lookup h =
            let same : there ≡ change = cc in
            of_step there (slice_get there.steps e.step) (ap (λ (c : ResourceChange). slice_get c.steps e.step) same ∙ lookup) h

    -- so as many errors name no address as there are diagnostics of failures whose address is not
    -- named later
    pub all_alone : (es : List Event) → Each (IsPlanned plan) es → ((c : ℕ) → p (address_of plan c) ≡ true → list_any (λ m. names m (address_of plan c)) (flat_map (event_read_back_in_form plan script) es) ≡ false)
        → count_by (λ (e : Event). p (address_of plan e.change) && is_error_note e.what) es ≤ count_by is_error_without_address (flat_map (event_read_back_in_form plan script) es)
    all_alone [] are unnamed = omega arith
    all_alone (e ∷ es) are unnamed =
        let rest = all_alone es are.1 (λ c passes. (parts c passes).1) in
        let here = of_planned e are.0 (λ passes. (parts e.change passes).0) in
        let both = sum_by-append (λ m. cond (is_error_without_address m) 1 0) (event_read_back_in_form plan script e) (flat_map (event_read_back_in_form plan script) es) in
        let first = sum_by-cons (λ (x : Event). cond (p (address_of plan x.change) && is_error_note x.what) 1 0) e es in
        omega arith
      where
        parts : (c : ℕ) → p (address_of plan c) ≡ true
            → (list_any (λ m. names m (address_of plan c)) (event_read_back_in_form plan script e) ≡ false) × (list_any (λ m. names m (address_of plan c)) (flat_map (event_read_back_in_form plan script) es) ≡ false)
        parts c passes =
            or_parts (list_any (λ m. names m (address_of plan c)) (event_read_back_in_form plan script e)) (list_any (λ m. names m (address_of plan c)) (flat_map (event_read_back_in_form plan script) es))
            (sym (any_both (λ m. names m (address_of plan c)) (event_read_back_in_form plan script e) (flat_map (event_read_back_in_form plan script) es)) ∙ unnamed c passes)

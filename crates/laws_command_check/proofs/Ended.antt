-- The refreshes of a planning that did not fail have ended.
use Rattle.std.proofs.Common.{◌≡◌, ℕ, ◌+◌, ◌<◌, ◌==◌, List, [], ◌∷◌, ◌++◌, length, map, filter, flat_map, Bool, true, false, cond, Option, Some, None, refl, sym, ap, ◌∙◌, subst, ⊎_elim, is_some, slice_get, option_map}
use Rattle.std.specs.Prelude.{◌||◌}
use Rattle.std.specs.List.{list_any}
use Rattle.std.specs.Option.{option_map_or}
use Rattle.std.proofs.lemmas.Bool.{or_parts}
use Rattle.std.proofs.lemmas.Option.{slice_get-map, slice_get_within}
use Rattle.apply_model.specs.declared.details.note.Note.{Note}
use Rattle.apply_model.specs.declared.details.note.Severity.{Severity}
use Rattle.apply_model.specs.declared.details.note.Severity.TheVariants.{Error, Warning}
use Rattle.apply_model.specs.declared.plan.mode.Mode.TheVariants.{Managed}
use Rattle.apply_events.specs.declared.event.Event.{Event}
use Rattle.apply_events.specs.declared.lanes.turn.StartedTurn.{StartedTurn}
use Rattle.apply_events.specs.declared.what.What.TheVariants.{Progress}
use Rattle.apply_events.specs.Provisions.{times_within}
use Rattle.apply_events.specs.Step.{steps_of}
use Rattle.apply_planning.specs.declared.told.Told.{Told}
use Rattle.apply_planning.specs.PlanningWork.{change_of, is_error, is_severe, planning_work}
use Rattle.apply_planning.specs.ToldEvents.{ends, events_of, told_event}
use Rattle.apply_planning_failures.specs.Planning.{failure_of, is_note, planning_notes}
use Rattle.apply_writer.specs.Stream.Terraform as form
use Rattle.laws_check.specs.WholeSteps.{AreOfSteps, events_of_change}
use Rattle.laws_check.proofs.Errors.{any_both}
use Rattle.laws_check.proofs.Parts.{Each}
use Rattle.laws_command_check.specs.FewTold.{OnlyReadsWarn}
use Rattle.laws_command_check.proofs.Courses.{its_course, its_part}
use Rattle.laws_command_check.proofs.Planning.{Course, Courses}

-- the diagnostics of an event
abbrev notes_of : List Told → Event → List Note
notes_of told e = cond (is_note e.what) (failure_of (slice_get told e.change)) []

none_in : (told : List Told) (es : List Event) → list_any form.is_error (flat_map (notes_of told) es) ≡ false → Each (λ e. list_any form.is_error (notes_of told e) ≡ false) es
none_in told [] none = tt
none_in told (e ∷ es) none =
    let both = or_parts (list_any form.is_error (notes_of told e)) (list_any form.is_error (flat_map (notes_of told) es)) (sym (any_both form.is_error (notes_of told e) (flat_map (notes_of told) es)) ∙ none) in
    (both.0, none_in told es both.1)

each_filtered : (P : Event → Type 0) (q : Event → Bool) (es : List Event) → Each P es → Each P (filter q es)
each_filtered P q [] all = tt
each_filtered P q (e ∷ es) all = of_test (q e) (each_filtered P q es all.1)
  where
    of_test : (b : Bool) → Each P (filter q es) → Each P (cond b (e ∷ filter q es) (filter q es))
    of_test true rest = (all.0, rest)
    of_test false rest = rest

each_last : (P : Event → Type 0) (xs ys : List Event) → Each P (xs ++ ys) → Each P ys
each_last P [] ys all = all
each_last P (x ∷ xs) ys all = each_last P xs ys all.1

severe : (severity : Severity) → is_severe severity ≡ form.is_severe severity
severe Error = refl
severe Warning = refl

-- an object that fails with an error has no event, where no diagnostic is an error
fails_unseen : (told : List Told) (events : List Event) → list_any form.is_error (planning_notes (record { told = told; events = events })) ≡ false → (c : ℕ) (one : Told) → slice_get told c ≡ Some one → (note : Note) → one.failure ≡ Some note → is_error (Some note) ≡ true
    → (turn : StartedTurn) → turn.turn.change ≡ c → events_of_change c events ≡ events_of one turn → ⊥
fails_unseen told events none c one is note failure fails turn change are =
    let P : Event → Type 0 = λ e. list_any form.is_error (notes_of told e) ≡ false in
    let all = subst (Each P) are (each_filtered P (λ e. e.change == c) events (none_in told events none)) in
    let last = each_last P (map (λ p. told_event turn (turn.begin.second + p.0) p.1) (map (λ p. (p, Progress p)) (times_within one.seconds 0 one.seconds))) (map (λ what. told_event turn (turn.begin.second + one.seconds) what) (ends one.seconds (is_error one.failure) (is_some one.failure))) all.1 in
    let so : Each P (map (λ what. told_event turn (turn.begin.second + one.seconds) what) (ends one.seconds true true)) =
    subst (λ (b : Bool). Each P (map (λ what. told_event turn (turn.begin.second + one.seconds) what) (ends one.seconds b true))) (ap is_error failure ∙ fails)
    (subst (λ (b : Bool). Each P (map (λ what. told_event turn (turn.begin.second + one.seconds) what) (ends one.seconds (is_error one.failure) b))) (ap is_some failure) last) in
    let told_here : list_any form.is_error (failure_of (slice_get told turn.turn.change)) ≡ false = so.1.0 in
    let here : (form.is_error note || false) ≡ false =
    sym (ap (λ (o : Option Note). list_any form.is_error (option_map_or (λ note. note ∷ []) o [])) failure)
    ∙ sym (ap (λ (o : Option Told). list_any form.is_error (failure_of o)) (ap (slice_get told) change ∙ is)) ∙ told_here in
    let no_error : form.is_error note ≡ false = (or_parts (form.is_error note) false here).0 in
    let bad : true ≡ false = sym fails ∙ severe note.severity ∙ no_error in
    absurd cc

-- ---- what is so then

-- a refresh has ended
abbrev pub IsEnded : Told → Option ℕ → Type 0
IsEnded one o = one.object.mode ≡ Managed → o ≡ None

pub all_ended : (told : List Told) (events : List Event) → OnlyReadsWarn told → list_any form.is_error (planning_notes (record { told = told; events = events })) ≡ false
    → ((c : ℕ) → c < length (planning_work told).plan.changes → AreOfSteps (steps_of (planning_work told) c) (events_of_change c events)) → Courses told IsEnded (λ c. None) events
all_ended told events warns none whole c one is =
    let known : c < length (planning_work told).plan.changes = slice_get_within (planning_work told).plan.changes c (change_of one) (slice_get-map change_of told c ∙ ap (option_map change_of) is) in
    ⊎_elim
    (λ (empty : events_of_change c events ≡ []). subst (Course told (IsEnded one) one.object.mode None) (sym empty) (λ managed. refl))
    (λ (some : (turn : StartedTurn) × (turn.turn.change ≡ c) × (events_of_change c events ≡ events_of one turn)).
    subst (Course told (IsEnded one) one.object.mode None) (sym some.2)
    (its_course told one some.0 (IsEnded one) (λ managed. refl) one.object.mode (λ note failure last managed. absurd
    (⊎_elim
    (λ (fine : one.failure ≡ None). let bad : None ≡ Some note = sym fine ∙ failure in cc)
    (λ (fails : is_error one.failure ≡ true). fails_unseen told events none c one is note failure (sym (ap is_error failure) ∙ fails) some.0 some.1 some.2)
    (warns c one is managed)))))
    (its_part told c one is (events_of_change c events) (whole c known))

-- The order of writing leaves no event out, and adds none.
use Rattle.std.proofs.Common.{◌≡◌, ℕ, nat_eq, List, [], ◌∷◌, ◌++◌, Bool, true, false, cond, refl, sym, ap, ◌∙◌}
use Rattle.std.specs.Prelude.{count_by, filter, not}
use Rattle.std.proofs.lemmas.List.Elements.{filter-append}
use Rattle.std.proofs.lemmas.List.Filters.{sum_by-filter_both}
use Rattle.std.proofs.lemmas.List.Sums.{sum_by-append}
use Rattle.apply_model.specs.Plan.SavedPlan.{SavedPlan}
use Rattle.apply_model.specs.declared.plan.step_kind.StepKind.TheVariants.{Create, Update, Delete}
use Rattle.apply_events.specs.declared.event.Event.{Event}
use Rattle.apply_events.specs.Diagnostics.{is_note}
use Rattle.apply_events.specs.OfWorker.{of_worker}
use Rattle.apply_events.specs.Totals.{completes, is_errored, is_halted, totals_of}
use Rattle.apply_text.specs.Order.{as_written, hook_messages_of, notes_of}

twice : (b : Bool) → b ≡ not (not b)
twice true = refl
twice false = refl

-- the order of writing changes no count of events that pass a test
counted : (p : Event → Bool) (taken : List Event) → count_by p (as_written taken) ≡ count_by p taken
counted p taken =
    sum_by-append (λ e. cond (p e) 1 0) (hook_messages_of taken) (notes_of taken)
    ∙ sum_by-filter_both (λ (e : Event). not (is_note e.what)) (λ (e : Event). is_note e.what) (λ e. twice (is_note e.what)) (λ e. cond (p e) 1 0) taken

pub totals_kept : (plan : SavedPlan) (taken : List Event) → totals_of plan (as_written taken) ≡ totals_of plan taken
totals_kept plan taken =
    let added = counted (completes plan Create) taken in
    let changed = counted (completes plan Update) taken in
    let removed = counted (completes plan Delete) taken in
    let failed = counted (λ e. is_errored e.what) taken in
    let halted = counted (λ e. is_halted e.what) taken in
    rw (added, changed, removed, failed, halted) refl

-- two filters may be applied in either order
push : (p : Event → Bool) (b : Bool) (event : Event) (events : List Event)
    → filter p (cond b (event ∷ events) events) ≡ cond b (cond (p event) (event ∷ filter p events) (filter p events)) (filter p events)
push p true event events = refl
push p false event events = refl

cross : (a b : Bool) (event : Event) (events : List Event) → cond b (cond a (event ∷ events) events) events ≡ cond a (cond b (event ∷ events) events) events
cross true true event events = refl
cross true false event events = refl
cross false true event events = refl
cross false false event events = refl

swapped : (p q : Event → Bool) (events : List Event) → filter p (filter q events) ≡ filter q (filter p events)
swapped p q [] = refl
swapped p q (event ∷ events) =
    push p (q event) event (filter q events)
    ∙ ap (λ l. cond (q event) (cond (p event) (event ∷ l) l) l) (swapped p q events)
    ∙ cross (p event) (q event) event (filter q (filter p events))
    ∙ sym (push q (p event) event (filter p events))

pub parts_kept : (worker : ℕ) (taken : List Event) → of_worker worker (as_written taken) ≡ as_written (of_worker worker taken)
parts_kept worker taken =
    let own : Event → Bool = λ event. nat_eq event.worker worker in
    filter-append own (hook_messages_of taken) (notes_of taken)
    ∙ ap (λ l. l ++ of_worker worker (notes_of taken)) (swapped own (λ (e : Event). not (is_note e.what)) taken)
    ∙ ap (λ l. hook_messages_of (of_worker worker taken) ++ l) (swapped own (λ (e : Event). is_note e.what) taken)

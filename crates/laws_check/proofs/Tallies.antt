-- What is read back from the messages of events counts what the events are.
use Rattle.std.proofs.Common.{All, ◌≡◌, ℕ, suc, ◌+◌, ◌<◌, List, [], ◌∷◌, ◌++◌, length, map, get_or, Bool, true, false, cond, Option, Some, None, Result, Ok, refl, sym, ap, ap₂, ◌∙◌, subst, slice_get, count_by, arith}
use Rattle.std.specs.Prelude.{nat_lt, not, ◌&&◌, ◌||◌}
use Rattle.std.specs.List.{list_any}
use Rattle.std.specs.Option.{option_map_or}
use Rattle.std.proofs.lemmas.List.{length-append}
use Rattle.std.proofs.lemmas.Option.{slice_get-get_or, slice_get_within}
use Rattle.std.proofs.lemmas.List.Filters.{length-filter_both, sum_by-filter_both}
use Rattle.std.proofs.lemmas.List.Sums.{sum_by-append, sum_by-cons}
use Rattle.apply_model.specs.declared.plan.step_kind.StepKind.{StepKind}
use Rattle.apply_model.specs.declared.plan.step_kind.StepKind.TheVariants.{Create, Update, Delete, Read}
use Rattle.apply_plan.specs.Plan.SavedPlan.{SavedPlan}
use Rattle.apply_plan.specs.Plan.StepKind.{is_kind}
use Rattle.stream_check.specs.declared.messages.action.Action.{Action}
use Rattle.stream_check.specs.declared.rules.fault.Fault.{Fault}
use Rattle.stream_check.specs.declared.messages.totals.Totals.{Totals}
use Rattle.stream_check.specs.declared.verdict.whole.Whole.{Whole}
use Rattle.stream_check.specs.Lines.{whole_of}
use Rattle.stream_check.specs.Message.{Message, version, summary}
use Rattle.stream_check.specs.Tally.{completed_totals, completes, is_error}
use Rattle.stream_check.specs.Words.{same_action}
use Rattle.apply_events.specs.declared.event.Event.{Event}
use Rattle.apply_events.specs.declared.what.What.{What}
use Rattle.apply_events.specs.declared.what.What.TheVariants.{Start, Progress, Complete, Errored, ErrorNote, WarnNote, Halted, ProvisionStart, ProvisionOutput, ProvisionComplete, ProvisionErrored}
use Rattle.apply_events.specs.Diagnostics.{is_note}
use Rattle.apply_events.specs.Fits.{HasStep}
use Rattle.apply_events.specs.Step.{Work, address_of, kinds_of}
use Rattle.apply_events.specs.Totals as events_are
use Rattle.apply_events.specs.Totals.{is_complete}
use Rattle.apply_text.specs.Order.{as_written, hook_messages_of, notes_of}
use Rattle.laws_check.specs.Accepted.{stream_read_back, totals_of_counts, whole_stream}
use Rattle.laws_check.specs.Passing.{plain, verdict_on}
use Rattle.laws_check.specs.Plans.{IsOrdinary, ProvisionsCreates, WarnsOfReads}
use Rattle.laws_check.specs.ReadBack.{action_of, event_read_back, events_read_back, read_back}
use Rattle.laws_check.specs.WholeSteps.{IsOfWholeSteps, events_of_change}
use Rattle.laws_check.proofs.ChangeDeeds.{change_written}
use Rattle.laws_check.proofs.Deeds.{all_deeds, all_read_back_append, follows, of_change_is, told_is}
use Rattle.laws_check.proofs.Errors.{IsPlanned, any_both, errors_read_back}
use Rattle.laws_check.proofs.Ordinary.{Anywhere, Does, Provides, apart, located, known, only}
use Rattle.laws_check.proofs.Parts.{Each, each_of_all, each_weaker, each_written, part_of_verbatim}
use Rattle.laws_check.proofs.Phases.{Deed, Follows, between, of_change}
use Rattle.laws_check.proofs.Turning.{Runs, followed_by, both_run, message_of_deed}
use Rattle.laws_check.proofs.Whole.{accepted, any_followed_by, plans_somewhere, at_begin, counts_followed_by, length_followed_by}

-- ---- totals

same_kind : (kind step : StepKind) → same_action (action_of step) (action_of kind) ≡ is_kind kind step
same_kind Create Create = refl
same_kind Create Update = refl
same_kind Create Delete = refl
same_kind Create Read = refl
same_kind Update Create = refl
same_kind Update Update = refl
same_kind Update Delete = refl
same_kind Update Read = refl
same_kind Delete Create = refl
same_kind Delete Update = refl
same_kind Delete Delete = refl
same_kind Delete Read = refl
same_kind Read Create = refl
same_kind Read Update = refl
same_kind Read Delete = refl
same_kind Read Read = refl

completion_read_back : (kind step : StepKind) (a : List ℕ) (what : What) → completes (action_of kind) (read_back a (action_of step) what) ≡ (is_complete what && is_kind kind step)
completion_read_back kind step a (Complete seconds) = same_kind kind step
completion_read_back kind step a Start = refl
completion_read_back kind step a (Progress seconds) = refl
completion_read_back kind step a (Errored seconds) = refl
completion_read_back kind step a ErrorNote = refl
completion_read_back kind step a WarnNote = refl
completion_read_back kind step a (Halted phase hook) = refl
completion_read_back kind step a (ProvisionStart i) = refl
completion_read_back kind step a (ProvisionOutput i line) = refl
completion_read_back kind step a (ProvisionComplete i) = refl
completion_read_back kind step a (ProvisionErrored i) = refl

and_false : (b : Bool) → (b && false) ≡ false
and_false true = refl
and_false false = refl

one_counted : (kind : StepKind) (a : List ℕ) (what : What) (located : Option StepKind) (ms : List Message)
    → count_by (completes (action_of kind)) (option_map_or (λ step. read_back a (action_of step) what ∷ []) located [] ++ ms)
    ≡ cond (is_complete what && option_map_or (is_kind kind) located false) 1 0 + count_by (completes (action_of kind)) ms
one_counted kind a what None ms =
    let none : cond {A = ℕ} (is_complete what && false) 1 0 ≡ 0 = ap (λ (b : Bool). cond b 1 0) (and_false (is_complete what)) in omega arith
one_counted kind a what (Some step) ms =
    let here : cond {A = ℕ} (completes (action_of kind) (read_back a (action_of step) what)) 1 0 ≡ cond (is_complete what && is_kind kind step) 1 0 = ap (λ (b : Bool). cond b 1 0) (completion_read_back kind step a what) in
    let all = sum_by-cons (λ m. cond (completes (action_of kind) m) 1 0) (read_back a (action_of step) what) ms in
    omega arith

completed : (plan : SavedPlan) (kind : StepKind) (es : List Event) → count_by (completes (action_of kind)) (events_read_back plan es) ≡ count_by (events_are.completes plan kind) es
completed plan kind [] = refl
completed plan kind (e ∷ es) =
    let rest = completed plan kind es in
    let here = one_counted kind (address_of plan e.change) e.what (slice_get (kinds_of plan e.change) e.step) (events_read_back plan es) in
    let there = sum_by-cons (λ e. cond (events_are.completes plan kind e) 1 0) e es in
    omega arith

same_counts : {a b c a' b' c' : ℕ} → a ≡ a' → b ≡ b' → c ≡ c'
    → (let one : Totals = record { added = a; changed = b; removed = c } in one) ≡ (let other : Totals = record { added = a'; changed = b'; removed = c' } in other)
same_counts p q r = cc

counted : (plan : SavedPlan) (kind : StepKind) (es : List Event) → completes (action_of kind) version ≡ false
    → count_by (completes (action_of kind)) (followed_by (version ∷ []) (events_read_back plan es)) ≡ count_by (events_are.completes plan kind) es
counted plan kind es none =
    let first : count_by (completes (action_of kind)) (version ∷ []) ≡ 0 = refl in
    let all = counts_followed_by (completes (action_of kind)) (version ∷ []) (events_read_back plan es) in
    let rest = completed plan kind es in
    omega arith

totals_are : (plan : SavedPlan) (es : List Event) → totals_of_counts (events_are.totals_of plan es) ≡ completed_totals (followed_by (version ∷ []) (events_read_back plan es))
totals_are plan es = same_counts (sym (counted plan Create es refl)) (sym (counted plan Update es refl)) (sym (counted plan Delete es refl))

-- ---- lines

one_line : (plan : SavedPlan) (e : Event) (ms : List Message) (kind : StepKind) → slice_get (kinds_of plan e.change) e.step ≡ Some kind
    → length (option_map_or (λ step. read_back (address_of plan e.change) (action_of step) e.what ∷ []) (slice_get (kinds_of plan e.change) e.step) [] ++ ms) ≡ length ms + 1
one_line plan e ms kind lookup =
    ap (λ (o : Option StepKind). length (option_map_or (λ step. read_back (address_of plan e.change) (action_of step) e.what ∷ []) o [] ++ ms)) lookup ∙ (let more : suc (length ms) ≡ length ms + 1 = omega arith in more)

all_lines : (plan : SavedPlan) (es : List Event) → Each (λ e. (kind : StepKind) × (slice_get (kinds_of plan e.change) e.step ≡ Some kind)) es → length (events_read_back plan es) ≡ length es
all_lines plan [] h = refl
all_lines plan (e ∷ es) h =
    let here = one_line plan e (events_read_back plan es) h.0.0 h.0.1 in
    let rest = all_lines plan es h.1 in
    omega arith

-- ---- as they are written

pub count_written : (p : Event → Bool) (es : List Event) → count_by p (as_written es) ≡ count_by p es
count_written p es =
    let both = sum_by-append (λ e. cond (p e) 1 0) (hook_messages_of es) (notes_of es) in
    let split = sum_by-filter_both (λ (e : Event). is_note e.what) (λ e. not (is_note e.what)) (λ e. refl) (λ e. cond (p e) 1 0) es in
    omega arith

length_written : (es : List Event) → length (as_written es) ≡ length es
length_written es =
    let both = length-append (hook_messages_of es) (notes_of es) in
    let split = length-filter_both (λ (e : Event). is_note e.what) (λ e. not (is_note e.what)) (λ e. refl) es in
    omega arith

pub totals_written : (plan : SavedPlan) (es : List Event) → totals_of_counts (events_are.totals_of plan es) ≡ completed_totals (followed_by (version ∷ []) (events_read_back plan (as_written es)))
totals_written plan es =
    same_counts (sym (count_written (events_are.completes plan Create) es)) (sym (count_written (events_are.completes plan Update) es)) (sym (count_written (events_are.completes plan Delete) es))
    ∙ totals_are plan (as_written es)

-- ---- a run

pub same_whole : {t u : Totals} {a b : Bool} {m n : ℕ} → t ≡ u → a ≡ b → m ≡ n
    → (let one : Whole = record { totals = t; has_errors = a; lines = m; is_plan = false; passed = None } in one) ≡ (let other : Whole = record { totals = u; has_errors = b; lines = n; is_plan = false; passed = None } in other)
same_whole p q r = cc

whole_is : (plans : Bool) (plan : SavedPlan) (es : List Event) → length (events_read_back plan (as_written es)) ≡ length (as_written es)
    → list_any is_error (events_read_back plan (as_written es)) ≡ nat_lt 0 ((events_are.totals_of plan es).failed + (events_are.totals_of plan es).halted)
    → whole_of (plain plans) (summary (totals_of_counts (events_are.totals_of plan es)) ∷ followed_by (version ∷ []) (events_read_back plan (as_written es))) ≡ whole_stream plan es
whole_is plans plan es lines errors =
    same_whole (sym (totals_written plan es)) (any_followed_by is_error (version ∷ []) (events_read_back plan (as_written es)) ∙ errors)
    (let all = length_followed_by (version ∷ []) (events_read_back plan (as_written es)) in let same = length_written es in let more : suc (length (followed_by (version ∷ []) (events_read_back plan (as_written es)))) ≡ length es + 2 = omega arith in more)

-- no event plans a change
one_unplanned : (a : List ℕ) (k : Action) (what : What) → plans_somewhere (read_back a k what) ≡ false
one_unplanned a k Start = refl
one_unplanned a k (Progress seconds) = refl
one_unplanned a k (Complete seconds) = refl
one_unplanned a k (Errored seconds) = refl
one_unplanned a k ErrorNote = refl
one_unplanned a k WarnNote = refl
one_unplanned a k (Halted phase hook) = refl
one_unplanned a k (ProvisionStart i) = refl
one_unplanned a k (ProvisionOutput i line) = refl
one_unplanned a k (ProvisionComplete i) = refl
one_unplanned a k (ProvisionErrored i) = refl

unplanned : (plan : SavedPlan) (es : List Event) → list_any plans_somewhere (events_read_back plan es) ≡ false
unplanned plan [] = refl
unplanned plan (e ∷ es) =
    any_both plans_somewhere (event_read_back plan e) (events_read_back plan es)
    ∙ ap₂ (λ (a b : Bool). a || b) (of_step (slice_get (kinds_of plan e.change) e.step)) (unplanned plan es)
  where
    of_step : (o : Option StepKind) → list_any plans_somewhere (option_map_or (λ kind. read_back (address_of plan e.change) (action_of kind) e.what ∷ []) o []) ≡ false
    of_step None = refl
    of_step (Some kind) = ap (λ (b : Bool). b || false) (one_unplanned (address_of plan e.change) (action_of kind) e.what)

-- an event whose step the plan has is of one of its changes
pub is_within : (plan : SavedPlan) (e : Event) → IsPlanned plan e → e.change < length plan.changes
is_within plan e is = let change = located (slice_get plan.changes e.change) e.step is.0 is.1 in slice_get_within plan.changes e.change change.0 change.1

-- the step of an event has a kind, if the plan has the step
pub are_planned : (plan : SavedPlan) (es : List Event) → All (λ e. HasStep plan e.change e.step) es → Each (IsPlanned plan) es
are_planned plan es planned =
    each_weaker (λ e. HasStep plan e.change e.step) (IsPlanned plan)
    (λ e has. let kinds = kinds_of plan e.change in (get_or kinds e.step Create, slice_get-get_or kinds e.step Create has)) es (each_of_all (λ e. HasStep plan e.change e.step) es planned)

-- the messages are accepted, and in the end each change is at rest
pub whole_steps_run : (work : Work) (events : List Event) → IsOrdinary work.plan → ProvisionsCreates work.plan work.script → WarnsOfReads work.plan work.script → IsOfWholeSteps work events
    → Runs (length work.plan.changes) (address_of work.plan) Anywhere (Does work.plan) (Provides work.plan) (version ∷ []) (events_read_back work.plan (as_written events))
whole_steps_run work events ordinary provisioned reads steps =
    let plan = work.plan in
    let limit = length plan.changes in
    let addresses = address_of plan in
    let hooks = all_deeds plan (hook_messages_of events) in
    let notes = all_deeds plan (notes_of events) in
    let ran : Runs limit addresses Anywhere (Does plan) (Provides plan) (version ∷ []) (map (message_of_deed addresses) hooks ++ map (message_of_deed addresses) notes) =
    both_run limit addresses Anywhere (Does plan) (Provides plan) ordinary.few (apart plan ordinary) (only plan ordinary) hooks notes (λ c. between) (version ∷ []) (at_begin limit addresses (Does plan) (Provides plan))
    (known plan (hook_messages_of events)) (known plan (notes_of events))
    (λ c less.
    let part = events_of_change c events in
    let written = change_written work ordinary provisioned reads c part (steps.whole c less) in
    let first : of_change c hooks ≡ all_deeds plan (hook_messages_of part) =
    of_change_is plan c (hook_messages_of events) ∙ ap (all_deeds plan) (part_of_verbatim c (λ e. not (is_note e.what)) events) in
    let second : of_change c notes ≡ all_deeds plan (notes_of part) =
    of_change_is plan c (notes_of events) ∙ ap (all_deeds plan) (part_of_verbatim c (λ e. is_note e.what) events) in (
      written.phase,
      subst (λ (ds : List Deed). Follows (Provides plan c) between ds written.phase) (sym first) (follows (Provides plan c) plan between (hook_messages_of part) written.phase written.hooks),
      (
        written.last,
        subst (λ (ds : List Deed). Follows (Provides plan c) written.phase ds written.last) (sym second) (follows (Provides plan c) plan written.phase (notes_of part) written.last written.notes),
        written.rests,
      ),
    )) in
    let same : map (message_of_deed addresses) hooks ++ map (message_of_deed addresses) notes ≡ events_read_back plan (as_written events) =
    ap (λ (l : List Message). l ++ map (message_of_deed addresses) notes) (sym (told_is plan (hook_messages_of events)))
    ∙ ap (λ (l : List Message). events_read_back plan (hook_messages_of events) ++ l) (sym (told_is plan (notes_of events)))
    ∙ sym (all_read_back_append plan (hook_messages_of events) (notes_of events)) in
    subst (Runs limit addresses Anywhere (Does plan) (Provides plan) (version ∷ [])) same ran

pub whole_steps_accepted : (plans : Bool) (work : Work) (events : List Event) → IsOrdinary work.plan → ProvisionsCreates work.plan work.script → WarnsOfReads work.plan work.script → IsOfWholeSteps work events
    → verdict_on (plain plans) (stream_read_back work.plan events) ≡ Ok (whole_stream work.plan events)
whole_steps_accepted plans work events ordinary provisioned reads steps =
    let plan = work.plan in
    let limit = length plan.changes in
    let addresses = address_of plan in
    let ran_so = whole_steps_run work events ordinary provisioned reads steps in
    let planned = are_planned plan events steps.planned in
    let lines = all_lines plan (as_written events) (each_written (IsPlanned plan) events planned) in
    let errors = errors_read_back work limit events (each_written (IsPlanned plan) events planned) (each_weaker (IsPlanned plan) (λ e. e.change < limit) (is_within plan) events planned) steps.whole in
    accepted plans limit addresses (Does plan) (Provides plan) (events_read_back plan (as_written events)) (totals_of_counts (events_are.totals_of plan events)) ran_so (unplanned plan (as_written events)) (totals_written plan events)
    ∙ ap (λ (w : Whole). fine w) (whole_is plans plan events lines errors)
  where
    fine : Whole → Result Whole Fault
    fine w = Ok w

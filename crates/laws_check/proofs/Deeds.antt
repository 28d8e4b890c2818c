-- The events of a plan's steps, and their messages.
use Rattle.std.proofs.Common.{append_assoc, ◌≡◌, ℕ, ◌==◌, List, [], ◌∷◌, ◌++◌, map, flat_map, Bool, true, false, cond, Option, Some, None, refl, sym, ap, ◌∙◌, subst, slice_get}
use Rattle.std.specs.Option.{option_map_or}
use Rattle.apply_model.specs.declared.plan.step_kind.StepKind.{StepKind}
use Rattle.apply_plan.specs.Plan.SavedPlan.{SavedPlan}
use Rattle.stream_check.specs.Message.{Message}
use Rattle.apply_events.specs.declared.event.Event.{Event}
use Rattle.apply_events.specs.Step.{address_of, kinds_of}
use Rattle.laws_check.specs.ReadBack.{action_of, events_read_back, read_back, event_read_back}
use Rattle.laws_check.specs.WholeSteps.{events_of_change}
use Rattle.laws_check.proofs.Phases.{Deed, Follows, Phase, Turns, of_change}
use Rattle.laws_check.proofs.Turning.{message_of_deed}

-- what happens to a step of that kind
abbrev pub deed : Event → StepKind → Deed
deed e kind = record { change = e.change; action = action_of kind; what = e.what }

-- what happens at an event, if the plan has its step
abbrev pub deeds_of : SavedPlan → Event → List Deed
deeds_of plan e = option_map_or (λ kind. deed e kind ∷ []) (slice_get (kinds_of plan e.change) e.step) []

abbrev pub all_deeds : SavedPlan → List Event → List Deed
all_deeds plan es = flat_map (deeds_of plan) es

-- ---- the messages

one_told : (addresses : ℕ → List ℕ) (e : Event) (located : Option StepKind) (ds : List Deed) (ms : List Message) → ms ≡ map (message_of_deed addresses) ds
    → option_map_or (λ kind. read_back (addresses e.change) (action_of kind) e.what ∷ []) located [] ++ ms ≡ map (message_of_deed addresses) (option_map_or (λ kind. deed e kind ∷ []) located [] ++ ds)
one_told addresses e None ds ms is = is
one_told addresses e (Some kind) ds ms is = ap (λ (l : List Message). read_back (addresses e.change) (action_of kind) e.what ∷ l) is

pub told_is : (plan : SavedPlan) (es : List Event) → events_read_back plan es ≡ map (message_of_deed (address_of plan)) (all_deeds plan es)
told_is plan [] = refl
told_is plan (e ∷ es) = one_told (address_of plan) e (slice_get (kinds_of plan e.change) e.step) (all_deeds plan es) (events_read_back plan es) (told_is plan es)

pub all_read_back_append : (plan : SavedPlan) (es fs : List Event) → events_read_back plan (es ++ fs) ≡ events_read_back plan es ++ events_read_back plan fs
all_read_back_append plan [] fs = refl
all_read_back_append plan (e ∷ es) fs = ap (λ (l : List Message). event_read_back plan e ++ l) (all_read_back_append plan es fs) ∙ sym (append_assoc (event_read_back plan e) (events_read_back plan es) (events_read_back plan fs))

-- ---- the events of one change

one_of_change : (plan : SavedPlan) (c : ℕ) (e : Event) (same : Bool) (located : Option StepKind) (es : List Event) (ds : List Deed) → (e.change == c) ≡ same → slice_get (kinds_of plan e.change) e.step ≡ located
    → of_change c ds ≡ all_deeds plan es
    → of_change c (option_map_or (λ kind. deed e kind ∷ []) located [] ++ ds) ≡ all_deeds plan (cond same (e ∷ es) es)
one_of_change plan c e true None es ds is lookup rest = rest ∙ ap (λ (o : Option StepKind). option_map_or (λ kind. deed e kind ∷ []) o [] ++ all_deeds plan es) (sym lookup)
one_of_change plan c e false None es ds is lookup rest = rest
one_of_change plan c e true (Some kind) es ds is lookup rest =
    ap (λ (b : Bool). cond b (deed e kind ∷ of_change c ds) (of_change c ds)) is
    ∙ ap (λ (l : List Deed). deed e kind ∷ l) rest
    ∙ ap (λ (o : Option StepKind). option_map_or (λ kind. deed e kind ∷ []) o [] ++ all_deeds plan es) (sym lookup)
one_of_change plan c e false (Some kind) es ds is lookup rest = ap (λ (b : Bool). cond b (deed e kind ∷ of_change c ds) (of_change c ds)) is ∙ rest

pub of_change_is : (plan : SavedPlan) (c : ℕ) (es : List Event) → of_change c (all_deeds plan es) ≡ all_deeds plan (events_of_change c es)
of_change_is plan c [] = refl
of_change_is plan c (e ∷ es) = one_of_change plan c e (e.change == c) (slice_get (kinds_of plan e.change) e.step) (events_of_change c es) (all_deeds plan es) refl refl (of_change_is plan c es)

-- ---- the course of a change, by its events

-- the event takes the change from the first phase to the other
abbrev pub EventTurns : (may : Type 0) → SavedPlan → Phase → Event → Phase → Type 0
EventTurns may plan p e q = (kind : StepKind) × (slice_get (kinds_of plan e.change) e.step ≡ Some kind) × Turns may p (action_of kind) e.what q

-- the events lead a change from the first phase to the last, one after another
abbrev pub Leads : (may : Type 0) → SavedPlan → Phase → List Event → Phase → Type 0
Leads may plan p [] r = p ≡ r
Leads may plan p (e ∷ es) r = (q : Phase) × EventTurns may plan p e q × Leads may plan q es r

pub leads_on : (may : Type 0) (plan : SavedPlan) (p q r : Phase) (es fs : List Event) → Leads may plan p es q → Leads may plan q fs r → Leads may plan p (es ++ fs) r
leads_on may plan p q r [] fs one other = subst (λ (x : Phase). Leads may plan x fs r) (sym one) other
leads_on may plan p q r (e ∷ es) fs one other = (one.0, one.1, leads_on may plan one.0 q r es fs one.2 other)

pub follows : (may : Type 0) (plan : SavedPlan) (p : Phase) (es : List Event) (r : Phase) → Leads may plan p es r → Follows may p (all_deeds plan es) r
follows may plan p [] r leads = leads
follows may plan p (e ∷ es) r leads =
    let turn = leads.1 in
    subst (λ (o : Option StepKind). Follows may p (option_map_or (λ kind. deed e kind ∷ []) o [] ++ all_deeds plan es) r) (sym turn.1)
    (leads.0, turn.2, follows may plan leads.0 es r leads.2)

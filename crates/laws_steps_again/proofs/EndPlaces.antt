-- The places of the steps that began and of those that ended.
use Rattle.std.proofs.Common.{◌≡◌, ◌∙◌, ◌<◌, ◌≤◌, ℕ, Bool, true, false, ◌&&◌, cond, eqb, eq-eqb, get_or, List, [], ◌∷◌, ◌++◌, filter, length, map, Option, Some, refl, sym, ap, ap₂, arith, subst, ⊎_elim}
use Rattle.std.specs.Prelude.{All, slice_get}
use Rattle.std.specs.List.{Contains, cons_option, filter_map, find}
use Rattle.std.proofs.lemmas.Bool.{and_parts, eqb-true}
use Rattle.std.proofs.lemmas.List.Elements.{All-contains, All-contains_itself, All-map, All-weaker, Contains-append_right, filter-append}
use Rattle.std.proofs.lemmas.Option.{slice_get-get_or}
use Rattle.apply_model.specs.declared.plan.step_kind.StepKind.{StepKind}
use Rattle.apply_model.specs.declared.plan.step_kind.StepKind.TheVariants.{Create}
use Rattle.apply_model.specs.Plan.SavedPlan.{SavedPlan}
use Rattle.apply_events.specs.declared.event.Event.{Event}
use Rattle.apply_events.specs.declared.what.What.{What}
use Rattle.apply_events.specs.declared.what.What.TheVariants.{Start, Progress, Complete, Errored, ErrorNote, WarnNote, Halted, ProvisionStart, ProvisionOutput, ProvisionComplete, ProvisionErrored}
use Rattle.apply_events.specs.Step.{kinds_of}
use Rattle.apply_events.proofs.Waits.Members.{filter_in, filter_no, in_cases, in_filter, in_head, in_tail, not_in_none}
use Rattle.stream_record_steps.specs.Steps.{PlannedStep, planned_steps}
use Rattle.laws_begun.specs.Followed.{AreWhole, IsWhole, IsWholeOrNone, events_of_step, is_end, is_fact, is_numbered, is_of_step, is_start, places_of}
use Rattle.laws_begun.proofs.InTurn.{filters_commute}
use Rattle.laws_notes.specs.Told.{AreDistinct}
use Rattle.laws_texts.specs.Notes as texts
use Rattle.laws_waits.specs.Places.{place_of}
use Rattle.laws_steps_again.proofs.Planned.{in_plan, numbered_is, one_place}

-- ---- ends

same_end : (what : What) → texts.is_end what ≡ is_end what
same_end Start = refl
same_end (Progress seconds) = refl
same_end (Complete seconds) = refl
same_end (Errored seconds) = refl
same_end ErrorNote = refl
same_end WarnNote = refl
same_end (Halted phase hook) = refl
same_end (ProvisionStart i) = refl
same_end (ProvisionOutput i line) = refl
same_end (ProvisionComplete i) = refl
same_end (ProvisionErrored i) = refl

abbrev pub ends : List Event → List Event
ends events = filter (λ (event : Event). is_end event.what) events

abbrev pub starts : List Event → List Event
starts events = filter (λ (event : Event). is_start event.what) events

pub ends_are : (events : List Event) → texts.ends_of events ≡ ends events
ends_are [] = refl
ends_are (event ∷ events) = ap₂ (λ (t : Bool) (l : List Event). cond t (event ∷ l) l) (same_end event.what) (ends_are events)

fact_goes_on : (what : What) → is_fact what ≡ true → is_end what ≡ true → ⊥
fact_goes_on (Complete seconds) fact end = cc
fact_goes_on (Errored seconds) fact end = cc
fact_goes_on Start fact end = cc
fact_goes_on (Progress seconds) fact end = cc
fact_goes_on ErrorNote fact end = cc
fact_goes_on WarnNote fact end = cc
fact_goes_on (Halted phase hook) fact end = cc
fact_goes_on (ProvisionStart i) fact end = cc
fact_goes_on (ProvisionOutput i line) fact end = cc
fact_goes_on (ProvisionComplete i) fact end = cc
fact_goes_on (ProvisionErrored i) fact end = cc

one_at_most : (p : Event → Bool) (event : Event) → length (filter p (event ∷ [])) < 2
one_at_most p event = elim (p event) as (λ t. length (cond t (event ∷ []) []) < 2) [ true ↦ omega arith | false ↦ omega arith ]

-- a whole step has one end
whole_ends : (events : List Event) → IsWhole events → length (ends events) < 2
whole_ends events whole =
    let p = λ (event : Event). is_end event.what in
    let none : filter p whole.facts ≡ [] =
    filter_no p whole.facts (λ event has end. fact_goes_on event.what (All-contains (λ (e : Event). is_fact e.what ≡ true) whole.facts event whole.are_facts has) end) in
    let rest : filter p (whole.facts ++ whole.end ∷ []) ≡ filter p (whole.end ∷ []) = filter-append p whole.facts (whole.end ∷ []) ∙ ap (λ l. l ++ filter p (whole.end ∷ [])) none in
    let all : filter p events ≡ filter p (whole.end ∷ []) =
    ap (filter p) whole.are ∙ ap (λ what. cond (is_end what) (whole.start ∷ filter p (whole.facts ++ whole.end ∷ [])) (filter p (whole.facts ++ whole.end ∷ []))) whole.starts ∙ rest in
    subst (λ l. length l < 2) (sym all) (one_at_most p whole.end)

few_ends : (events : List Event) → IsWholeOrNone events → length (ends events) < 2
few_ends [] whole = omega arith
few_ends (event ∷ events) whole = whole_ends (event ∷ events) whole

-- ---- places

module _ (plan : SavedPlan) where
  abbrev pub place : Event → ℕ
  place event = place_of plan.changes event.change event.step

  -- each of the events is of a step of the plan
  abbrev pub AreOfPlan : List Event → Type 0
  AreOfPlan events = (event : Event) → Contains events event → (kind : StepKind) × (slice_get (kinds_of plan event.change) event.step ≡ Some kind)

  pub places_are : (events : List Event) → AreOfPlan events → places_of plan events ≡ map place events
  places_are [] all = refl
  places_are (event ∷ events) all =
      let mine = all event (in_head event events) in
      let own = in_plan plan event.change event.step mine.0 mine.1 in
      ap (λ (o : Option PlannedStep). map (λ (step : PlannedStep). step.place)
      (cons_option o (filter_map (λ (e : Event). find (is_numbered e.change e.step) (planned_steps plan.changes)) events)))
      (numbered_is plan event.change event.step mine.0 own)
      ∙ ap (λ l. place event ∷ l) (places_are events (λ other has. all other (in_tail event events other has)))

map_in : {X Y : Type 0} (f : X → Y) (xs : List X) (x : X) → Contains xs x → Contains (map f xs) (f x)
map_in f [] x has = absurd (not_in_none x has)
map_in f (y ∷ xs) x has = ⊎_elim
    (λ (first : y ≡ x). subst (λ z. Contains (f y ∷ map f xs) (f z)) first (in_head (f y) (map f xs)))
    (λ (later : Contains xs x). in_tail (f y) (map f xs) (f x) (map_in f xs x later))
    (in_cases y xs x has)

in_map : {X Y : Type 0} (f : X → Y) (xs : List X) (y : Y) → Contains (map f xs) y → (x : X) × Contains xs x × (f x ≡ y)
in_map f [] y has = absurd (not_in_none y has)
in_map f (x ∷ xs) y has = ⊎_elim
    (λ (first : f x ≡ y). (x, in_head x xs, first))
    (λ (later : Contains (map f xs) y). let rest = in_map f xs y later in (rest.0, in_tail x xs rest.0 rest.1, rest.2))
    (in_cases (f x) (map f xs) y has)

some_length : {X : Type 0} (xs : List X) (x : X) → Contains xs x → 0 < length xs
some_length [] x has = absurd (not_in_none x has)
some_length (y ∷ xs) x has = omega arith

own_step : (c k : ℕ) (event : Event) → event.change ≡ c → event.step ≡ k → is_of_step c k event ≡ true
own_step c k event change step = ap (λ t. t && eqb event.step k) (eq-eqb event.change c change) ∙ eq-eqb event.step k step

pub step_parts : (c k : ℕ) (event : Event) → is_of_step c k event ≡ true → (event.change ≡ c) × (event.step ≡ k)
step_parts c k event is =
    let both = and_parts (eqb event.change c) (eqb event.step k) is in
    (eqb-true event.change c both.0, eqb-true event.step k both.1)

pub is_own_step : (c k : ℕ) (event : Event) → event.change ≡ c → event.step ≡ k → is_of_step c k event ≡ true
is_own_step = own_step

fewer : (t : Bool) (event : Event) (events : List Event) → length events ≤ length (cond t (event ∷ events) events)
fewer true event events = omega arith
fewer false event events = omega arith

module _ (plan : SavedPlan) where
  -- steps with one event each stand at different places
  distinct_places : (events : List Event) → AreOfPlan plan events → ((c k : ℕ) → length (events_of_step c k events) < 2) → AreDistinct (map (place plan) events)
  distinct_places [] all once = tt
  distinct_places (event ∷ events) all once = (
    λ again.
        let other = in_map (place plan) events (place plan event) again in
        let mine = all event (in_head event events) in
        let its = all other.0 (in_tail event events other.0 other.1) in
        let same = one_place plan other.0.change other.0.step event.change event.step its.0 mine.0
        (in_plan plan other.0.change other.0.step its.0 its.1) (in_plan plan event.change event.step mine.0 mine.1) other.2 in
        let of_mine : events_of_step event.change event.step (event ∷ events) ≡ event ∷ events_of_step event.change event.step events =
        ap (λ t. cond t (event ∷ events_of_step event.change event.step events) (events_of_step event.change event.step events)) (own_step event.change event.step event refl refl) in
        let some = some_length (events_of_step event.change event.step events) other.0
        (in_filter (is_of_step event.change event.step) events other.0 other.1 (own_step event.change event.step other.0 same.0 same.1)) in
        let two = once event.change event.step in
        let many = ap length of_mine in absurd (omega (arith, some, two, many)),
    distinct_places events (λ other has. all other (in_tail event events other has))
        (λ c k.
        let less = once c k in
        let part = fewer (is_of_step c k event) event (events_of_step c k events) in omega (arith, less, part)),
  )

-- ---- the hook messages of a run

module _ (plan : SavedPlan) (hooks : List Event) (whole : AreWhole plan hooks) where
  pub all_of_plan : AreOfPlan plan hooks
  all_of_plan event has =
      let below = All-contains (λ (e : Event). e.step < length (kinds_of plan e.change)) hooks event whole.known has in
      (get_or (kinds_of plan event.change) event.step Create, slice_get-get_or (kinds_of plan event.change) event.step Create below)

  pub ends_of_plan : AreOfPlan plan (ends hooks)
  ends_of_plan event has = all_of_plan event (filter_in (λ (e : Event). is_end e.what) hooks event has).0

  starts_of_plan : AreOfPlan plan (starts hooks)
  starts_of_plan event has = all_of_plan event (filter_in (λ (e : Event). is_start e.what) hooks event has).0

  pub end_places : places_of plan (ends hooks) ≡ map (place plan) (ends hooks)
  end_places = places_are plan (ends hooks) ends_of_plan

  start_places : places_of plan (starts hooks) ≡ map (place plan) (starts hooks)
  start_places = places_are plan (starts hooks) starts_of_plan

  pub distinct_ends : AreDistinct (places_of plan (ends hooks))
  distinct_ends =
      subst AreDistinct (sym end_places)
      (distinct_places plan (ends hooks) ends_of_plan
      (λ c k. subst (λ (l : List Event). length l < 2) (sym (filters_commute (is_of_step c k) (λ (e : Event). is_end e.what) hooks))
      (few_ends (events_of_step c k hooks) (whole.steps c k))))

  end_among : (events : List Event) (event : Event) → Contains events event → IsWholeOrNone events → (end : Event) × Contains events end × (is_end end.what ≡ true)
  end_among [] event has wholes = absurd (not_in_none event has)
  end_among (one ∷ events) event has wholes = (
    wholes.end,
    subst (λ l. Contains l wholes.end) (sym wholes.are)
        (in_tail wholes.start (wholes.facts ++ wholes.end ∷ []) wholes.end (Contains-append_right wholes.facts (wholes.end ∷ []) wholes.end (in_head wholes.end []))),
    wholes.ends,
  )

  -- the step of each event has an end
  pub end_of_event : (event : Event) → Contains hooks event → Contains (places_of plan (ends hooks)) (place plan event)
  end_of_event event has =
      let c = event.change in
      let k = event.step in
      let own = in_filter (is_of_step c k) hooks event has (own_step c k event refl refl) in
      let end = end_among (events_of_step c k hooks) event own (whole.steps c k) in
      let there = filter_in (is_of_step c k) hooks end.0 end.1 in
      let same = step_parts c k end.0 there.1 in
      let placed : place plan end.0 ≡ place plan event = ap₂ (place_of plan.changes) same.0 same.1 in
      subst (λ l. Contains l (place plan event)) (sym end_places)
      (subst (Contains (map (place plan) (ends hooks))) placed
      (map_in (place plan) (ends hooks) end.0 (in_filter (λ (e : Event). is_end e.what) hooks end.0 there.0 end.2)))

  pub starts_end : All (λ at. Contains (places_of plan (ends hooks)) at) (places_of plan (starts hooks))
  starts_end =
      subst (All (λ at. Contains (places_of plan (ends hooks)) at)) (sym start_places)
      (All-map (λ at. Contains (places_of plan (ends hooks)) at) (place plan) (starts hooks)
      (All-weaker (Contains (starts hooks)) (λ event. Contains (places_of plan (ends hooks)) (place plan event))
      (λ event has. end_of_event event (filter_in (λ (e : Event). is_start e.what) hooks event has).0)
      (starts hooks) (All-contains_itself (starts hooks))))

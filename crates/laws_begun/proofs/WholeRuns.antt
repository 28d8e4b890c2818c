-- The hook messages of a run without hooks are those of whole steps.
use Rattle.std.proofs.Common.{◌≡◌, ◌≢◌, ◌∙◌, ◌+◌, ◌<◌, ℕ, zero, suc, true, false, eqb, List, [], ◌∷◌, ◌++◌, filter, length, map, take, Option, Some, None, refl, sym, ap, ap₂, arith, subst, subst₂}
use Rattle.std.specs.Prelude.{◌&&◌, All, is_none, not, slice_get}
use Rattle.std.specs.List.{Contains, enumerate_from, list_any}
use Rattle.std.specs.Option.{option_map_or}
use Rattle.std.proofs.lemmas.Bool.{and_parts, eq-eqb, eqb-true, not-true}
use Rattle.std.proofs.lemmas.List.Elements.{All-contains, All-contains_itself, All-filter, All-weaker, filter-append}
use Rattle.std.proofs.lemmas.Option.{slice_get_within}
use Rattle.apply_model.specs.declared.plan.step_kind.StepKind.{StepKind}
use Rattle.apply_model.specs.Script.Outcome.{ran}
use Rattle.apply_model.specs.Script.OutcomeMap.{first_skipped, outcome_of}
use Rattle.apply_model.specs.Script.Waits.{waits_of}
use Rattle.apply_hooks.specs.declared.phase.Phase.{Phase}
use Rattle.apply_hooks.specs.declared.phase.Phase.TheVariants.{Pre}
use Rattle.apply_hooks.specs.Hooks.{first_halting}
use Rattle.apply_events.specs.declared.event.Event.{Event}
use Rattle.apply_events.specs.Diagnostics.{is_note}
use Rattle.apply_events.specs.Step.{Step, Work, address_of, kinds_applied, kinds_of, step_of, steps_of}
use Rattle.apply_events.specs.StepEvents.{emits_end, goes_on, step_events}
use Rattle.apply_events.proofs.Waits.Members.{any_in, filter_in, in_all, in_any, in_filter, in_head}
use Rattle.apply_text.specs.Order.{hook_messages_of}
use Rattle.laws_run.specs.WaitingSteps as run
use Rattle.laws_run.specs.WaitingSteps.{BeginWhereAllIsDone, ComeAfterWhatTheyWaitFor, has_events, is_done_along}
use Rattle.laws_begun.specs.Followed.{AreWhole, IsWholeOrNone, IsWhole, events_of_step, is_completion, is_of_change, is_of_provisioner, is_of_step, may_be_provisioned}
use Rattle.laws_begun.specs.Runs.{HasEnd, IsFollowable}
use Rattle.laws_begun.proofs.InTurn.{ComesLate, filters_commute, parts_in_turn}
use Rattle.laws_begun.proofs.WholeEvents.{completes, provisions, whole_step}

-- ---- steps of a change

-- the step of a number is made of the kind of that number
step_made : (work : Work) (c n k : ℕ) (kinds : List StepKind) (step : Step) → slice_get (map (λ p. step_of work c p.0 p.1) (enumerate_from n kinds)) k ≡ Some step
    → (kind : StepKind) × (slice_get kinds k ≡ Some kind) × (step ≡ step_of work c (n + k) kind)
step_made work c n k [] step at = absurd cc
step_made work c n zero (kind ∷ kinds) step at =
    let same : step ≡ step_of work c n kind = cc in
    let here : n ≡ n + 0 = omega arith in
    (kind, refl, same ∙ ap (λ m. step_of work c m kind) here)
step_made work c n (suc k) (kind ∷ kinds) step at =
    let rest = step_made work c (n + 1) k kinds step at in
    let there : n + 1 + k ≡ n + suc k = omega arith in
    (rest.0, rest.1, rest.2 ∙ ap (λ m. step_of work c m rest.0) there)

taken_at : {X : Type 0} (n k : ℕ) (xs : List X) (x : X) → slice_get (take n xs) k ≡ Some x → slice_get xs k ≡ Some x
taken_at zero k xs x at = absurd cc
taken_at (suc n) k [] x at = absurd cc
taken_at (suc n) zero (y ∷ xs) x at = at
taken_at (suc n) (suc k) (y ∷ xs) x at = taken_at n k xs x at

applied_at : (work : Work) (c k : ℕ) (kind : StepKind) → slice_get (kinds_applied work.plan work.script c) k ≡ Some kind → slice_get (kinds_of work.plan c) k ≡ Some kind
applied_at work c k kind at = of (first_skipped work.script c) at
  where
    of : (skipped : Option ℕ) → slice_get (option_map_or (λ n. take n (kinds_of work.plan c)) skipped (kinds_of work.plan c)) k ≡ Some kind → slice_get (kinds_of work.plan c) k ≡ Some kind
    of None at = at
    of (Some n) at = taken_at n k (kinds_of work.plan c) kind at

-- ---- a step with events

module _ (work : Work) (events : List Event) (followable : IsFollowable work events) (wholes : run.AreWhole work events) where
  -- the events of a step that has some
  pub record HasAll (c k : ℕ) : Type 0 where
    pub kind : StepKind
    pub kind_at : slice_get (kinds_of work.plan c) k ≡ Some kind
    pub applied : k < length (kinds_applied work.plan work.script c)
    pub step : Step
    pub step_at : slice_get (steps_of work c) k ≡ Some step
    pub step_is : step ≡ step_of work c k kind
    pub lane : ℕ
    pub begin : ℕ
    pub are : events_of_step c k events ≡ step_events lane step begin
    pub unhalted : (phase : Phase) → step.halts phase ≡ None
    pub ends : emits_end step.fails step.only_warns ≡ true

  pub has_all : (c k : ℕ) → list_any (is_of_step c k) events ≡ true → HasAll c k
  has_all c k some =
      let one = wholes (record { change = c; step = k }) some in
      let made = step_made work c 0 k (kinds_applied work.plan work.script c) one.step one.is_step in
      let zeroth : 0 + k ≡ k = omega arith in
      let is = made.2 ∙ ap (λ m. step_of work c m made.0) zeroth in
      let among = in_any (is_of_step c k) events some in
      let both = and_parts _ _ among.2 in
      let end = subst₂ (HasEnd work) (eqb-true among.0.change c both.0) (eqb-true among.0.step k both.1)
      (All-contains (λ (event : Event). HasEnd work event.change event.step) events among.0 followable.ends among.1) in record {
        kind = made.0;
        kind_at = applied_at work c k made.0 made.1;
        applied = slice_get_within (kinds_applied work.plan work.script c) k made.0 made.1;
        step = one.step;
        step_at = one.is_step;
        step_is = is;
        lane = one.lane;
        begin = one.begin;
        are = one.are_all;
        unhalted = λ phase. ap (λ (s : Step). s.halts phase) is
            ∙ ap (λ hooks. first_halting hooks (record { phase = phase; kind = made.0; address = address_of work.plan c })) followable.hooks;
        ends = ap (λ (s : Step). emits_end s.fails s.only_warns) is ∙ end;
      }

  -- the hook messages of a step are those of its events
  pub shown_of : (c k : ℕ) → events_of_step c k (hook_messages_of events) ≡ hook_messages_of (events_of_step c k events)
  shown_of c k = filters_commute (is_of_step c k) (λ (event : Event). not (is_note event.what)) events

  pub shown_all : (c k : ℕ) (all : HasAll c k) → events_of_step c k (hook_messages_of events) ≡ hook_messages_of (step_events all.lane all.step all.begin)
  shown_all c k all = shown_of c k ∙ ap hook_messages_of all.are

  -- a step with a hook message has events
  shows_some : (c k : ℕ) (event : Event) → Contains (events_of_step c k (hook_messages_of events)) event → list_any (is_of_step c k) events ≡ true
  shows_some c k event has =
      let parts = filter_in (is_of_step c k) (hook_messages_of events) event has in
      let among = filter_in (λ (event : Event). not (is_note event.what)) events event parts.0 in
      any_in (is_of_step c k) events event among.0 parts.1

  own_step : (event : Event) → is_of_step event.change event.step event ≡ true
  own_step event = ap (λ t. t && eqb event.step event.step) (eq-eqb event.change event.change refl) ∙ eq-eqb event.step event.step refl

  all_of_event : (event : Event) → Contains events event → HasAll event.change event.step
  all_of_event event has = has_all event.change event.step (any_in (is_of_step event.change event.step) events event has (own_step event))

  below_kinds : (c k : ℕ) → HasAll c k → k < length (kinds_of work.plan c)
  below_kinds c k all = slice_get_within (kinds_of work.plan c) k all.kind all.kind_at

  -- ---- whole steps

  whole_or_none : (list : List Event) → (list ≢ [] → IsWhole list) → IsWholeOrNone list
  whole_or_none [] whole = tt
  whole_or_none (event ∷ list) whole = whole (λ none. cc)

  some_event : (list : List Event) → list ≢ [] → (event : Event) × Contains list event
  some_event [] some = absurd (some refl)
  some_event (event ∷ list) some = (event, in_head event list)

  each_whole : (c k : ℕ) → IsWholeOrNone (events_of_step c k (hook_messages_of events))
  each_whole c k = whole_or_none (events_of_step c k (hook_messages_of events)) (λ some.
      let one = some_event (events_of_step c k (hook_messages_of events)) some in
      let all = has_all c k (shows_some c k one.0 one.1) in
      subst IsWhole (sym (shown_all c k all)) (whole_step all.lane all.step all.begin all.unhalted all.ends))

  -- only creates and deletes have provisioners
  each_provisioned : (event : Event) → Contains (hook_messages_of events) event → is_of_provisioner event.what ≡ true → (kind : StepKind)
      → slice_get (kinds_of work.plan event.change) event.step ≡ Some kind → may_be_provisioned kind ≡ true
  each_provisioned event has provisioned kind at =
      let among = filter_in (λ (event : Event). not (is_note event.what)) events event has in
      let all = all_of_event event among.0 in
      let own = in_filter (is_of_step event.change event.step) (hook_messages_of events) event has (own_step event) in
      let there = subst (λ l. Contains l event) (shown_all event.change event.step all) own in
      followable.provisioners event.change event.step kind at (λ none.
      provisions all.lane all.step all.begin all.unhalted all.ends event there provisioned
      (ap (λ (s : Step). s.ran) all.step_is ∙ ap ran none))

  -- ---- one step after another

  module _ (late : ComeAfterWhatTheyWaitFor work events) (begins : BeginWhereAllIsDone work events) where
    comes_late : (c : ℕ) → ComesLate c events
    comes_late c before after event is change step =
        let waits = subst₂ (λ d k. All (λ name. has_events after name ≡ false) (waits_of work.script d k)) change step (late before after event is) in
        All-contains (λ name. has_events after name ≡ false) (waits_of work.script c 1) (record { change = c; step = 0 }) waits (in_head (record { change = c; step = 0 }) (outcome_of work.script c 1).after)

    few_here : (c : ℕ) (event : Event) → Contains events event → event.change ≡ c → event.step < 2
    few_here c event has is =
        let less = below_kinds event.change event.step (all_of_event event has) in
        let few = followable.apart.few event.change in
        omega (arith, less, few)

    each_in_turn : (c : ℕ) → filter (is_of_change c) (hook_messages_of events) ≡ events_of_step c 0 (hook_messages_of events) ++ events_of_step c 1 (hook_messages_of events)
    each_in_turn c =
        let shows = λ (event : Event). not (is_note event.what) in
        filters_commute (is_of_change c) shows events
        ∙ ap hook_messages_of (parts_in_turn c events (few_here c) (comes_late c))
        ∙ filter-append shows (events_of_step c 0 events) (events_of_step c 1 events)
        ∙ ap₂ (λ xs ys. xs ++ ys) (sym (shown_of c 0)) (sym (shown_of c 1))

    -- a second step begins after its first step is done
    first_done : (c : ℕ) → list_any (is_of_step c 1) events ≡ true → is_done_along work events (record { change = c; step = 0 }) ≡ true
    first_done c some =
        let all = has_all c 1 some in
        in_all (is_done_along work events) (waits_of work.script c 1) (record { change = c; step = 0 }) (sym (begins c 1 all.applied) ∙ some)
        (in_head (record { change = c; step = 0 }) (outcome_of work.script c 1).after)

    unfailed : (step : Step) → goes_on step ≡ true → step.fails ≡ false
    unfailed step on =
        let parts = and_parts _ _ on in
        not-true step.fails (and_parts (is_none (step.halts Pre)) (not step.fails) parts.0).1

    each_completed : (c : ℕ) → events_of_step c 1 (hook_messages_of events) ≢ []
        → (event : Event) × Contains (events_of_step c 0 (hook_messages_of events)) event × (is_completion event.what ≡ true)
    each_completed c some =
        let one = some_event (events_of_step c 1 (hook_messages_of events)) some in
        let done = and_parts (has_events events (record { change = c; step = 0 })) _ (first_done c (shows_some c 1 one.0 one.1)) in
        let all = has_all c 0 done.0 in
        let on : goes_on all.step ≡ true = sym (ap (λ o. option_map_or goes_on o false) all.step_at) ∙ done.1 in
        let end = completes all.lane all.step all.begin all.unhalted all.ends (unfailed all.step on) in
        (end.0, subst (λ l. Contains l end.0) (sym (shown_all c 0 all)) end.1, end.2)

    pub are_whole : AreWhole work.plan (hook_messages_of events)
    are_whole = record {
      apart = followable.apart;
      known = All-filter (λ (event : Event). not (is_note event.what)) (λ (event : Event). event.step < length (kinds_of work.plan event.change)) events
          (All-weaker (Contains events) (λ (event : Event). event.step < length (kinds_of work.plan event.change))
          (λ event has. below_kinds event.change event.step (all_of_event event has)) events (All-contains_itself events));
      steps = each_whole;
      in_turn = each_in_turn;
      completed = each_completed;
      provisioners = All-weaker (Contains (hook_messages_of events)) _ each_provisioned (hook_messages_of events) (All-contains_itself (hook_messages_of events));
    }

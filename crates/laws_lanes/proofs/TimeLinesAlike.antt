-- Works whose steps go alike have the same hook messages along their time lines.
use Rattle.std.proofs.Common.{◌≡◌, ℕ, ◌<◌, Bool, true, false, not, List, [], ◌∷◌, cond, refl, sym, ap, ◌∙◌, subst, ⊎_elim, arith, eqb, eq-eqb}
use Rattle.std.specs.List.{Contains, filter}
use Rattle.std.proofs.lemmas.List.Elements.{All-contains_itself, All-filter, All-weaker}
use Rattle.apply_events.specs.Diagnostics.{is_note}
use Rattle.apply_events.specs.Interleaving.{IsInterleaving}
use Rattle.apply_events.specs.OfWorker.{of_worker}
use Rattle.apply_events.specs.Step.{Work}
use Rattle.apply_events.specs.declared.event.Event.{Event}
use Rattle.apply_events.specs.declared.lanes.lane_time.LaneTime.{LaneTime}
use Rattle.apply_events.specs.declared.lanes.turn.StartedTurn.{StartedTurn}
use Rattle.apply_events.specs.Waits.LaneTime.{IsNoLater}
use Rattle.apply_events.specs.Waits.Merging.{time_line}
use Rattle.apply_events.specs.Waits.Schedule.{schedule}
use Rattle.apply_events.specs.Waits.TimeLine.{InOrder, IsTimeLine, Precedes, lane_time_of, lane_turns, turn_events}
use Rattle.apply_events.specs.Waits.Turn.{begun_steps}
use Rattle.apply_events.proofs.Waits.LanesRise.{time_line_is}
use Rattle.apply_events.proofs.Waits.Located.{lane_in}
use Rattle.apply_events.proofs.Waits.Members.{filter_in, in_cases, in_filter, in_head, in_tail, not_in_none}
use Rattle.apply_events.proofs.Waits.Once.{lane_time_is}
use Rattle.apply_events.proofs.Waits.Order.{unique}
use Rattle.apply_events.proofs.Waits.TurnEvents.{of_turn}
use Rattle.apply_events.proofs.Waits.TurnSteps.{all_at}
use Rattle.laws_lanes.specs.Alike.{GoesAlike, hooks_of}
use Rattle.laws_lanes.proofs.Chosen.{kept}
use Rattle.laws_lanes.proofs.Mirrored.{mirror, mirror_started, mirrored}
use Rattle.laws_lanes.proofs.SchedulesAlike.{all_mirrored, same_lanes, same_schedule, second_kept}
use Rattle.laws_lanes.proofs.StepsAlike.{same_all_shown}
use Rattle.laws_lanes.proofs.TurnsAlike.{are_turns, takes}

-- ---- some of the events of an interleaving

abbrev is_hook : Event → Bool
is_hook event = not (is_note event.what)

module _ {X : Type 0} (p q : X → Bool) (x : X) (xs : List X) (rest : filter p (filter q xs) ≡ filter q (filter p xs)) where
  swap_both : (t u : Bool) → p x ≡ t → q x ≡ u → filter p (cond u (x ∷ filter q xs) (filter q xs)) ≡ filter q (cond t (x ∷ filter p xs) (filter p xs))
  swap_both true true is its =
      ap (λ a. cond a (x ∷ filter p (filter q xs)) (filter p (filter q xs))) is ∙ ap (λ l. x ∷ l) rest
      ∙ sym (ap (λ a. cond a (x ∷ filter q (filter p xs)) (filter q (filter p xs))) its)
  swap_both true false is its = rest ∙ sym (ap (λ a. cond a (x ∷ filter q (filter p xs)) (filter q (filter p xs))) its)
  swap_both false true is its = ap (λ a. cond a (x ∷ filter p (filter q xs)) (filter p (filter q xs))) is ∙ rest
  swap_both false false is its = rest

swap_filters : {X : Type 0} (p q : X → Bool) (xs : List X) → filter p (filter q xs) ≡ filter q (filter p xs)
swap_filters p q [] = refl
swap_filters p q (x ∷ xs) = swap_both p q x xs (swap_filters p q xs) (p x) (q x) refl refl

hooks_interleaved : (n : ℕ) (list : ℕ → List Event) (events : List Event) → IsInterleaving n list events → IsInterleaving n (λ lane. hooks_of (list lane)) (hooks_of events)
hooks_interleaved n list events h = record {
  named = All-filter is_hook (λ (e : Event). e.worker < n) events h.named;
  parts = λ lane lt. swap_filters (λ (e : Event). eqb e.worker lane) is_hook events ∙ ap hooks_of (h.parts lane lt);
}

hooks_in_order : (when : Event → LaneTime) (events : List Event) → InOrder when events → InOrder when (hooks_of events)
hooks_in_order when [] h = tt
hooks_in_order when (e ∷ events) h =
    elim (is_hook e) as (λ t. InOrder when (cond t (e ∷ hooks_of events) (hooks_of events))) [
      | true ↦ (All-filter is_hook (Precedes when e) events h.0, hooks_in_order when events h.1)
      | false ↦ hooks_in_order when events h.1
    ]

-- the order is that of any other times that are the same
in_order_as : (when other : Event → LaneTime) (events : List Event) → ((e : Event) → Contains events e → when e ≡ other e) → InOrder when events → InOrder other events
in_order_as when other [] same h = tt
in_order_as when other (e ∷ events) same h = (
  All-weaker (Contains events) (Precedes other e) (λ f there. as_other f there (all_at (Precedes when e) events f h.0 there)) events (All-contains_itself events),
  in_order_as when other events (λ f there. same f (in_tail e events f there)) h.1,
)
  where
    as_other : (f : Event) → Contains events f → Precedes when e f → Precedes other e f
    as_other f there p =
        let here = same e (in_head e events) in let its = same f (in_tail e events f there) in (
          subst (IsNoLater (other e)) its (subst (λ m. IsNoLater m (when f)) here p.0),
          λ is. p.1 (here ∙ is ∙ sym its),
        )

in_mirrored : (v : Work) (started : List StartedTurn) (other : StartedTurn) → Contains (mirrored v started) other → (one : StartedTurn) × Contains started one × (mirror_started v one ≡ other)
in_mirrored v [] other there = absurd (not_in_none other there)
in_mirrored v (one ∷ started) other there = ⊎_elim
    (λ (is : mirror_started v one ≡ other). (one, in_head one started, is))
    (λ (later : Contains (mirrored v started) other).
    let rest = in_mirrored v started other later in (rest.0, in_tail one started rest.0 rest.1, rest.2))
    (in_cases (mirror_started v one) (mirrored v started) other there)

-- ---- both time lines

module _ (w v : Work) (n : ℕ) (h : GoesAlike w v n) where
  some_lanes : 0 < n
  some_lanes = let some = h.some in omega arith

  in_schedule : (u : Work) (one : StartedTurn) → Contains (kept (takes w v n h) (schedule u n)) one → Contains (schedule u n) one
  in_schedule u one there = (filter_in (λ (x : StartedTurn). takes w v n h x.turn) (schedule u n) one there).0

  -- an event of the second work is of a turn of the first
  in_first : (others : List Event) → IsInterleaving n (lane_turns v (schedule v n)) others → (e : Event) → Contains others e
      → (one : StartedTurn) × Contains (kept (takes w v n h) (schedule w n)) one × Contains (schedule v n) (mirror_started v one) × Contains (turn_events v (mirror_started v one)) e
  in_first others line e there =
      let lt = all_at (λ (f : Event). f.worker < n) others e line.named there in
      let among : Contains (of_worker e.worker others) e = in_filter (λ (f : Event). eqb f.worker e.worker) others e there (eq-eqb e.worker e.worker refl) in
      let other = lane_in v (kept (takes w v n h) (schedule v n)) e.worker e
      (subst (λ l. Contains l e) (line.parts e.worker lt ∙ sym ((second_kept w v n h).events e.worker)) among) in
      let first = in_mirrored v (kept (takes w v n h) (schedule w n)) other.0 (subst (λ l. Contains l other.0) (same_schedule w v n h) other.1) in (
        first.0,
        first.1,
        subst (Contains (schedule v n)) (sym first.2) (in_schedule v other.0 other.1),
        subst (λ x. Contains (turn_events v x) e) (sym first.2) other.3,
      )

  -- the first work has the event too, if it is a hook message
  first_has : (one : StartedTurn) (e : Event) → Contains (kept (takes w v n h) (schedule w n)) one → Contains (turn_events v (mirror_started v one)) e → is_hook e ≡ true → Contains (turn_events w one) e
  first_has one e there among is =
      let same : hooks_of (turn_events v (mirror_started v one)) ≡ hooks_of (turn_events w one) =
      same_all_shown one.lane one.begin.second (begun_steps w one.turn) (begun_steps v (mirror v one.turn)) (all_mirrored w v n h one there).alike in
      (filter_in is_hook (turn_events w one) e (subst (λ l. Contains l e) same (in_filter is_hook (turn_events v (mirror_started v one)) e among is))).0

  -- a hook message of the second work has the same time in the first
  same_moment : (others : List Event) → IsInterleaving n (lane_turns v (schedule v n)) others → (e : Event) → Contains (hooks_of others) e
      → lane_time_of (schedule v n) e ≡ lane_time_of (schedule w n) e
  same_moment others line e there =
      let hook = filter_in is_hook others e there in
      let its = in_first others line e hook.0 in
      let one = its.0 in
      let among = first_has one e its.1 its.3 hook.1 in
      lane_time_is v (schedule v n) (mirror_started v one) e (are_turns v n some_lanes) its.2 (of_turn v (mirror_started v one) e its.3)
      ∙ sym (lane_time_is w (schedule w n) one e (are_turns w n some_lanes) (in_schedule w one its.1) (of_turn w one e among))

  pub same_hooks : (events others : List Event) → IsTimeLine w n events → IsTimeLine v n others → hooks_of others ≡ hooks_of events
  same_hooks events others line other_line =
      let when = lane_time_of (schedule w n) in
      let list : ℕ → List Event = λ lane. hooks_of (lane_turns w (schedule w n) lane) in
      let mine = hooks_interleaved n (lane_turns w (schedule w n)) events line.interleaved in
      let theirs = hooks_interleaved n (lane_turns v (schedule v n)) others other_line.interleaved in
      unique when n list (hooks_of others) (hooks_of events)
      (record { named = theirs.named; parts = λ lane lt. theirs.parts lane lt ∙ same_lanes w v n h lane })
      mine
      (in_order_as (lane_time_of (schedule v n)) when (hooks_of others) (same_moment others other_line.interleaved) (hooks_in_order (lane_time_of (schedule v n)) others other_line.in_order))
      (hooks_in_order when events line.in_order)

  pub has_same_hooks : (events : List Event) → IsTimeLine w n events → (others : List Event) × IsTimeLine v n others × (hooks_of others ≡ hooks_of events)
  has_same_hooks events line =
      let other = time_line_is v n some_lanes in
      (time_line v n, other, same_hooks events (time_line v n) line other)

-- The last second of an event is the last at which an object ends.
use Rattle.std.proofs.Common.{◌≡◌, ◌≢◌, ℕ, ◌+◌, ◌<◌, ◌≤◌, All, Bool, true, false, List, [], ◌∷◌, ◌++◌, cond, get_or, length, map, reverse, refl, sym, ap, ◌∙◌, subst, ⊎_elim, ◌⊎◌, inl, inr, arith, eqb, lt-ltb, le-ltb}
use Rattle.std.specs.Prelude.{is_some, max}
use Rattle.std.specs.List.{Contains}
use Rattle.std.specs.Ordering.{is_lt, nat_cmp, ord_max}
use Rattle.std.specs.declared.cmp.Ordering.TheVariants.{Less, Equal, Greater}
use Rattle.std.proofs.lemmas.List.{reverse-reverse}
use Rattle.std.proofs.lemmas.Bool.{cases_eq, cases_lt}
use Rattle.std.proofs.lemmas.List.Elements.{All-contains, All-contains_itself, Contains-append_right}
use Rattle.apply_events.specs.declared.event.Event.{Event}
use Rattle.apply_events.specs.declared.lanes.lane_time.LaneTime.{LaneTime}
use Rattle.apply_events.specs.declared.lanes.turn.StartedTurn.{StartedTurn}
use Rattle.apply_events.specs.declared.what.What.TheVariants.{Complete, Errored, ErrorNote, Start, WarnNote}
use Rattle.apply_events.specs.Interleaving.{IsInterleaving}
use Rattle.apply_events.specs.Provisions.{progress}
use Rattle.apply_events.specs.Step.{Work}
use Rattle.apply_events.specs.Waits.Done.{end_of_turn}
use Rattle.apply_events.specs.Waits.Merging.{time_line}
use Rattle.apply_events.specs.Waits.Schedule.{schedule}
use Rattle.apply_events.specs.Waits.TimeLine.{lane_turns, turn_events}
use Rattle.apply_events.proofs.Waits.LanesRise.{time_line_is}
use Rattle.apply_events.proofs.Waits.Located.{answer, emitted}
use Rattle.apply_events.proofs.Waits.Members.{in_cases, in_head, in_tail, not_in_none}
use Rattle.apply_events.proofs.Waits.Moments.{later_by_second}
use Rattle.apply_events.proofs.Waits.Reversed.{All-reverse}
use Rattle.apply_events.proofs.Waits.Standing.{any_default}
use Rattle.apply_events.proofs.Waits.StartedTurns.{were_started}
use Rattle.apply_planning.specs.declared.told.Told.{Told}
use Rattle.apply_planning.specs.Begun.{HasBegun}
use Rattle.apply_planning.specs.PlanningWork.{is_error, max_seconds_in_all, planning_work}
use Rattle.apply_planning.specs.Schedule.{last_second}
use Rattle.apply_planning.specs.ToldEvents.{ends, events_of, told_event}
use Rattle.apply_planning.proofs.PlannedWork.{object_at}
use Rattle.apply_planning.proofs.LaneSteps.{ends_then, in_time, there, whole}
use Rattle.apply_planning.proofs.Started.{its_end}
use Rattle.apply_planning.proofs.TurnEvents.{its_events}

pub no_later : (events : List Event) (e : Event) → Contains events e → e.at ≤ last_second events
no_later [] e there = absurd (not_in_none e there)
no_later (x ∷ events) e there = ⊎_elim
    (λ (same : x ≡ e). let second = ap (λ (y : Event). y.at) same in omega arith)
    (λ (later : Contains events e). let rest = no_later events e later in omega arith)
    (in_cases x events e there)

pub at_most : (events : List Event) (bound : ℕ) → ((e : Event) → Contains events e → e.at ≤ bound) → last_second events ≤ bound
at_most [] bound each = omega arith
at_most (e ∷ events) bound each =
    let here = each e (in_head e events) in
    let rest = at_most events bound (λ f there. each f (in_tail e events f there)) in omega arith

-- an object has an event when it ends
last_of : (seconds : ℕ) (fails warns : Bool) (turn : StartedTurn) → (e : Event) × Contains (map (λ what. told_event turn (turn.begin.second + seconds) what) (ends seconds fails warns)) e × (e.at ≡ turn.begin.second + seconds)
last_of seconds true warns turn =
    let at = turn.begin.second + seconds in (told_event turn at (Errored seconds), in_head (told_event turn at (Errored seconds)) (told_event turn at ErrorNote ∷ []), refl)
last_of seconds false true turn =
    let at = turn.begin.second + seconds in (told_event turn at WarnNote, in_head (told_event turn at WarnNote) [], refl)
last_of seconds false false turn =
    let at = turn.begin.second + seconds in (told_event turn at (Complete seconds), in_head (told_event turn at (Complete seconds)) [], refl)

module _ (told : List Told) (one : StartedTurn) (begun : HasBegun told one) where
  pub has_end : (e : Event) × Contains (turn_events (planning_work told) one) e × (e.at ≡ (end_of_turn (planning_work told) one).second)
  has_end =
      let object = object_at told one.turn.change begun.known in
      let x = object.0 in
      let same = whole told one begun in
      let last = last_of x.seconds (is_error x.failure) (is_some x.failure) one in
      let events : turn_events (planning_work told) one ≡ events_of x one =
      ap (turn_events (planning_work told)) (sym same) ∙ its_events told one.turn.change x object.1 one.lane one.begin ∙ ap (events_of x) same in
      let time = ap (λ (y : StartedTurn). (end_of_turn (planning_work told) y).second) (sym same)
      ∙ ap (λ (m : LaneTime). m.second) (its_end told one.turn.change x object.1 one.lane one.begin) ∙ later_by_second one.begin x.seconds in (
        last.0,
        subst (λ l. Contains l last.0) (sym events)
            (in_tail (told_event one (one.begin.second + 0) Start) (map (λ p. told_event one (one.begin.second + p.0) p.1) (progress x.seconds 0 x.seconds) ++ map (λ what. told_event one (one.begin.second + x.seconds) what) (ends x.seconds (is_error x.failure) (is_some x.failure))) last.0
            (Contains-append_right (map (λ p. told_event one (one.begin.second + p.0) p.1) (progress x.seconds 0 x.seconds)) (map (λ what. told_event one (one.begin.second + x.seconds) what) (ends x.seconds (is_error x.failure) (is_some x.failure))) last.0 last.1)),
        last.2 ∙ sym time,
      )

module _ (told : List Told) (n : ℕ) (some : 0 < n) (begun : (one : StartedTurn) → Contains (schedule (planning_work told) n) one → HasBegun told one) where
  abbrev w : Work
  w = planning_work told

  abbrev line : IsInterleaving n (lane_turns (planning_work told) (schedule (planning_work told) n)) (time_line (planning_work told) n)
  line = (time_line_is (planning_work told) n some).interleaved

  pub last_is : (last : ℕ) → ((one : StartedTurn) → Contains (schedule (planning_work told) n) one → (end_of_turn (planning_work told) one).second ≤ last)
      → ((last ≡ 0) ⊎ ((one : StartedTurn) × Contains (schedule (planning_work told) n) one × ((end_of_turn (planning_work told) one).second ≡ last)))
      → last ≡ last_second (time_line (planning_work told) n)
  last_is last low met =
      let upper = at_most (time_line w n) last (λ e there.
      (let its = answer w n (schedule w n) (time_line w n) line e there in
      let ends_at = its.of.last.0 in
      let most = low its.one its.there in omega arith)) in
      let lower : last ≤ last_second (time_line w n) = ⊎_elim
      (λ (none : last ≡ 0). omega arith)
      (λ (its : (one : StartedTurn) × Contains (schedule w n) one × ((end_of_turn w one).second ≡ last)).
      let end = has_end told its.0 (begun its.0 its.1) in
      let there = emitted w n (schedule w n) (time_line w n) line its.0 end.0 (were_started w n some).in_lanes its.1 end.1 in
      let second = no_later (time_line w n) end.0 there in
      let same = end.2 in let is = its.2 in omega arith)
      met in omega arith

-- ---- the last end of all

-- what is in a list is in the list the other way round
pub reversed_in : (all : List StartedTurn) (one : StartedTurn) → Contains all one → Contains (reverse all) one
reversed_in all one there =
    All-contains (Contains (reverse all)) all one
    (subst (All (Contains (reverse all))) (reverse-reverse all) (All-reverse (Contains (reverse all)) (reverse all) (All-contains_itself (reverse all)))) there

pub record IsLastEnd (told : List Told) (started : List StartedTurn) (place ends_at : ℕ) : Type 0 where
  pub low : (k : ℕ) (d : StartedTurn) → k < place → (end_of_turn (planning_work told) (get_or started k d)).second ≤ ends_at
  pub in_time : ends_at ≤ max_seconds_in_all
  pub met : (ends_at ≡ 0) ⊎ ((one : StartedTurn) × Contains started one × ((end_of_turn (planning_work told) one).second ≡ ends_at))

pub one_end : (told : List Told) (started : List StartedTurn) (begun : All (HasBegun told) started) (place : ℕ) (one : StartedTurn) (lt : place < length started) (is : one ≡ get_or started place one)
    (object : Told) → object ≡ get_or told one.turn.change object → (before after : ℕ) → after ≡ max before (one.begin.second + object.seconds) → IsLastEnd told started place before → IsLastEnd told started (place + 1) after
one_end told started begun place one lt is object read before after later h =
    let mine = ends_then told started begun place one lt is object read in record {
      low = λ k d less. ⊎_elim
          (λ (same : k ≡ place).
          let its = ap (λ j. (end_of_turn (planning_work told) (get_or started j d)).second) same
          ∙ ap (λ (x : StartedTurn). (end_of_turn (planning_work told) x).second) (any_default started place d one lt ∙ sym is) in omega arith)
          (λ (ne : k ≢ place). let low = h.low k d (omega arith) in omega arith)
          (cases_eq k place);
      in_time = let soon = in_time told started begun place one lt is object read in let early = h.in_time in omega arith;
      met = ⊎_elim
          (λ (less : before < one.begin.second + object.seconds). inr (one, there told started begun place one lt is, omega arith))
          (λ (ge : one.begin.second + object.seconds ≤ before). ⊎_elim
          (λ (none : before ≡ 0). inl (omega arith))
          (λ (its : (x : StartedTurn) × Contains started x × ((end_of_turn (planning_work told) x).second ≡ before)). inr (its.0, its.1, (let same = its.2 in omega arith)))
          h.met)
          (cases_lt before (one.begin.second + object.seconds));
    }

-- the greater of two numbers, as code compares them
pub greater : (a b : ℕ) → ord_max nat_cmp a b ≡ max a b
greater a b = ⊎_elim
    (λ (lt : b < a).
    let same : a ≡ max a b = omega arith in
    ap (λ t. cond (is_lt (cond t Less (cond (eqb b a) Equal Greater))) a b) (lt-ltb b a lt) ∙ same)
    (λ (ge : a ≤ b).
    let same : b ≡ max a b = omega arith in
    ap (λ t. cond (is_lt (cond t Less (cond (eqb b a) Equal Greater))) a b) (le-ltb b a ge)
    ∙ (elim (eqb b a) as (λ t. cond (is_lt (cond t Equal Greater)) a b ≡ b) [ true ↦ refl | false ↦ refl ]) ∙ same)
    (cases_lt b a)

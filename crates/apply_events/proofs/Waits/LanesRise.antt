-- The times of a lane's events never fall, so there is a time line.
use Rattle.std.proofs.Common.{◌≡◌, ◌≢◌, ℕ, ◌+◌, ◌<◌, ◌≤◌, List, [], ◌∷◌, ◌++◌, cond, sum_by, refl, sym, ap, ◌∙◌, subst, ⊎_elim, arith, eqb, eq-eqb, ne_eqb}
use Rattle.std.specs.List.{Contains}
use Rattle.std.proofs.lemmas.Bool.Decides.{eqb_tells}
use Rattle.std.proofs.lemmas.List.{append_assoc}
use Rattle.std.proofs.lemmas.List.Elements.{All-contains_itself, All-weaker, Contains-append_right}
use Rattle.apply_events.specs.declared.event.Event.{Event}
use Rattle.apply_events.specs.Step.{Work}
use Rattle.apply_events.specs.StepEvents.{step_events, step_time}
use Rattle.apply_events.specs.declared.lanes.turn.StartedTurn.{StartedTurn}
use Rattle.apply_events.specs.Waits.Done.{end_of_turn}
use Rattle.apply_events.specs.Waits.Merging.{time_line}
use Rattle.apply_events.specs.declared.lanes.lane_time.LaneTime.{LaneTime}
use Rattle.apply_events.specs.Waits.LaneTime.{IsNoLater}
use Rattle.apply_events.specs.Waits.Schedule.{schedule}
use Rattle.apply_events.specs.Waits.StartedTurns.{IsFree, WereStarted}
use Rattle.apply_events.specs.Waits.TimeLine.{IsTimeLine, lane_turns, lane_time_from, lane_time_of, turn_events}
use Rattle.apply_events.specs.Waits.Turn.{begun_steps}
use Rattle.apply_events.proofs.Moments.{in_turn_rises, step_rises}
use Rattle.apply_events.proofs.Moments as moments
use Rattle.apply_events.proofs.Rising as rising
use Rattle.apply_events.proofs.Waits.Located.{lane_in}
use Rattle.apply_events.proofs.Waits.Members.{in_head, in_tail, not_in_none}
use Rattle.apply_events.proofs.Waits.Merge.{AllRise, Rises, merged_in_order, merged_is, rises_append}
use Rattle.apply_events.proofs.Waits.Moments.{no_later_on}
use Rattle.apply_events.proofs.Waits.Once.{AreTurns, lane_time_is}
use Rattle.apply_events.proofs.Waits.StartedTurns.{were_started}
use Rattle.apply_events.proofs.Waits.TurnEvents.{OfTurn, of_turn, rises_all}
use Rattle.apply_events.proofs.Waits.TurnSteps.{all_at}

-- times do not fall where their seconds do not
from_seconds : (begin : LaneTime) (e f : Event) → e.at ≤ f.at → IsNoLater (lane_time_from begin e) (lane_time_from begin f)
from_seconds begin e f le = (
  le,
  λ same.
      let rounds : (lane_time_from begin e).round ≡ (lane_time_from begin f).round = ap (λ at. cond (eqb at begin.second) begin.round 0) same in omega arith,
)

module _ (w : Work) (started : List StartedTurn) (turns_ok : AreTurns w started) where
  turn_rises_from : (one : StartedTurn) (low high : ℕ) (es : List Event) → Contains started one → ((e : Event) → Contains es e → OfTurn w one e) → rising.Rises moments.lane_time_of low high es
      → Rises (lane_time_of started) one.lane es
  turn_rises_from one low high [] there of h = tt
  turn_rises_from one low high (e ∷ es) there of h =
      let mine = of e (in_head e es) in (
        mine.worker,
        All-weaker (Contains es) (λ f. IsNoLater (lane_time_of started e) (lane_time_of started f))
            (λ f later.
            let other = of f (in_tail e es f later) in
            let le = (all_at (λ (x : Event). (e.at ≤ x.at) × (x.at ≤ high)) es f (rises_all e.at high es h.1) later).0 in
            subst (λ m. IsNoLater m (lane_time_of started f)) (sym (lane_time_is w started one e turns_ok there mine))
            (subst (IsNoLater (lane_time_from one.begin e)) (sym (lane_time_is w started one f turns_ok there other)) (from_seconds one.begin e f le)))
            es (All-contains_itself es),
        turn_rises_from one e.at high es there (λ f later. of f (in_tail e es f later)) h.1,
      )

  pub turn_rises : (one : StartedTurn) → Contains started one → Rises (lane_time_of started) one.lane (turn_events w one)
  turn_rises one there =
      turn_rises_from one one.begin.second (one.begin.second + sum_by step_time (begun_steps w one.turn)) (turn_events w one) there (of_turn w one)
      (in_turn_rises (step_events one.lane) step_time (begun_steps w one.turn) one.begin.second (step_rises one.lane))

  -- the events of turns that a lane started later come after its other events
  lane_rises : (lane : ℕ) (later rest : List StartedTurn) → started ≡ later ++ rest → ((front before : List StartedTurn) (one : StartedTurn) → started ≡ front ++ one ∷ before → IsFree w before one)
      → Rises (lane_time_of started) lane (lane_turns w rest lane)
  lane_rises lane later [] is free = tt
  lane_rises lane later (x ∷ rest) is free =
      let inside : Contains started x = subst (λ l. Contains l x) (sym is) (Contains-append_right later (x ∷ rest) x (in_head x rest)) in
      let inner = lane_rises lane (later ++ x ∷ []) rest (is ∙ sym (append_assoc later (x ∷ []) rest)) free in
      let mine : Rises (lane_time_of started) lane (cond (eqb x.lane lane) (turn_events w x) []) = ⊎_elim
      (λ (c : _ × (x.lane ≡ lane)).
      subst (Rises (lane_time_of started) lane) (sym (ap (λ t. cond t (turn_events w x) []) (eq-eqb x.lane lane c.1))) (subst (λ l. Rises (lane_time_of started) l (turn_events w x)) c.1 (turn_rises x inside)))
      (λ (c : _ × (x.lane ≢ lane)). subst (Rises (lane_time_of started) lane) (sym (ap (λ t. cond t (turn_events w x) []) (ne_eqb x.lane lane c.1))) tt)
      (eqb_tells x.lane lane) in
      rises_append (lane_time_of started) lane (lane_turns w rest lane) (cond (eqb x.lane lane) (turn_events w x) []) inner mine
      (λ e f there here. ⊎_elim
      (λ (c : _ × (x.lane ≡ lane)).
      let its : Contains (turn_events w x) f = subst (λ l. Contains l f) (ap (λ t. cond t (turn_events w x) []) (eq-eqb x.lane lane c.1)) here in
      let answer = lane_in w rest lane e there in
      let y = answer.0 in
      let y_inside : Contains started y = subst (λ l. Contains l y) (sym is) (Contains-append_right later (x ∷ rest) y (in_tail x rest y answer.1)) in
      let of_e = of_turn w y e answer.3 in let of_f = of_turn w x f its in
      let ended = all_at (λ (other : StartedTurn). other.lane ≡ x.lane → IsNoLater (end_of_turn w other) x.begin) rest y (free later rest x is) answer.1 (answer.2 ∙ sym c.1) in
      subst (λ m. IsNoLater m (lane_time_of started f)) (sym (lane_time_is w started y e turns_ok y_inside of_e))
      (subst (IsNoLater (lane_time_from y.begin e)) (sym (lane_time_is w started x f turns_ok inside of_f))
      (no_later_on (lane_time_from y.begin e) (end_of_turn w y) (lane_time_from x.begin f) of_e.last (no_later_on (end_of_turn w y) x.begin (lane_time_from x.begin f) ended of_f.from))))
      (λ (c : _ × (x.lane ≢ lane)). absurd (not_in_none f (subst (λ l. Contains l f) (ap (λ t. cond t (turn_events w x) []) (ne_eqb x.lane lane c.1)) here)))
      (eqb_tells x.lane lane))

pub lanes_rise : (w : Work) (n : ℕ) (started : List StartedTurn) → WereStarted w n started → (a m : ℕ) → AllRise (lane_time_of started) (lane_turns w started) a m
lanes_rise w n started up a m lane low high = lane_rises w started (record { known = up.known; once = up.once }) lane [] started refl up.free

pub time_line_is : (w : Work) (n : ℕ) → 0 < n → IsTimeLine w n (time_line w n)
time_line_is w n some = record {
  interleaved = merged_is (lane_time_of (schedule w n)) n (lane_turns w (schedule w n)) (lanes_rise w n (schedule w n) (were_started w n some) 0 n);
  in_order = merged_in_order (lane_time_of (schedule w n)) n (lane_turns w (schedule w n));
}

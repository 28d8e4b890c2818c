-- One turn after another starts: the facts before each start.
use Rattle.std.proofs.Common.{◌≡◌, ℕ, suc, ◌+◌, ◌*◌, ◌-◌, ◌<◌, ◌≤◌, ◌^◌, List, [], ◌∷◌, ◌++◌, Some, None, get_or, length, map, replicate, reverse, set, refl, sym, ap, ◌∙◌, subst, arith, length-append}
use Rattle.std.proofs.lemmas.List.{length-map, length-reverse, reverse-append}
use Rattle.std.proofs.lemmas.List.Sums.{sum_by-cons}
use Rattle.apply_model.specs.declared.script.wait.Wait.{Wait}
use Rattle.apply_model.specs.Plan.SavedPlan.{max_changes}
use Rattle.apply_model.specs.Script.Limits.{max_seconds}
use Rattle.apply_events.specs.Step.{Work}
use Rattle.apply_events.specs.declared.lanes.lane_time.LaneTime.{LaneTime}
use Rattle.apply_events.specs.declared.lanes.queue.Queue.{Queue}
use Rattle.apply_events.specs.declared.lanes.queue.ReadyTurn.{ReadyTurn}
use Rattle.apply_events.specs.declared.lanes.turn.StartedTurn.{StartedTurn}
use Rattle.apply_events.specs.declared.lanes.turn.Turn.{Turn}
use Rattle.apply_events.specs.Waits.Done.{done_at, done_in, end_of_turn, first_some}
use Rattle.apply_events.specs.Waits.LaneTime.{first_lane_time, later_of}
use Rattle.apply_events.specs.Waits.Queue.{IsFirstDue, IsDue, IsQueue, turn_waits}
use Rattle.apply_events.specs.Waits.Schedule.{first_earliest, first_ready, free_after, ready_turn, schedule, scheduled, started_in, with_next}
use Rattle.apply_events.specs.Waits.Turn.{turns}
use Rattle.apply_events.proofs.Waits.Due.{first_due, is_over, none_first}
use Rattle.apply_events.proofs.Waits.Ends.{each_begins, time_of, total, turn_end}
use Rattle.apply_events.proofs.Waits.Free.{first_earliest_lt, length-free}
use Rattle.apply_events.proofs.Waits.Rounds.{rounds}
use Rattle.apply_events.proofs.Waits.Standing.{any_default}
use Rattle.apply_events.proofs.Waits.StartedTurns.{EachAfter}
use Rattle.apply_events.proofs.Waits.TurnNumbers.{HaveNumbers, few_turns, not_done, not_started, turn_at}

abbrev names_of : Work → List (List Wait)
names_of w = map (turn_waits w.script) (turns w)

-- some turns were started, listed in the order of their starts, and the queue has the others
pub record IsUnderWay (w : Work) (n : ℕ) (queue : Queue) (free : List LaneTime) (all : List StartedTurn) : Type 0 where
  pub few : length all ≤ length (turns w)
  pub lanes : free ≡ free_after w n (reverse all)
  pub are : reverse all ≡ scheduled w n (length all)
  pub short : total w (reverse all) ≤ 2 * max_seconds * length all
  pub numbers : List ℕ
  pub queued : IsQueue (2 * length w.plan.changes) (map (turn_waits w.script) (turns w)) (done_at w (reverse all)) numbers queue
  pub have : HaveNumbers (turns w) numbers (reverse all)

pub at_first : (w : Work) (n : ℕ) (queue : Queue) (free : List LaneTime) (all : List StartedTurn) → all ≡ [] → free ≡ replicate n first_lane_time
    → IsQueue (2 * length w.plan.changes) (map (turn_waits w.script) (turns w)) (λ name. None) [] queue → IsUnderWay w n queue free all
at_first w n queue free all none lanes q = subst (IsUnderWay w n queue free) (sym none) (record {
  few = omega arith;
  lanes = lanes;
  are = refl;
  short = omega arith;
  numbers = [];
  queued = q;
  have = tt;
})

-- if no turn is due, all turns that the lanes start were started
pub over : (w : Work) (n : ℕ) (queue : Queue) (free : List LaneTime) (all : List StartedTurn) (h : IsUnderWay w n queue free all)
    → ((number : ℕ) → IsDue (map (turn_waits w.script) (turns w)) (done_at w (reverse all)) h.numbers number → ⊥) → reverse all ≡ schedule w n
over w n queue free all h never =
    let none = subst (λ l. first_ready w l (turns w) ≡ None) h.are (none_first w (reverse all) h.numbers h.have never) in
    let few = h.few in
    let rest : length (turns w) - length all + length all ≡ length (turns w) = omega arith in
    h.are ∙ sym (is_over w n (length all) none (length (turns w) - length all)) ∙ ap (scheduled w n) rest

pub full : (w : Work) (n : ℕ) (queue : Queue) (free : List LaneTime) (all : List StartedTurn) → IsUnderWay w n queue free all → length (turns w) ≤ length all → reverse all ≡ schedule w n
full w n queue free all h all_there =
    let few = h.few in
    let same : length all ≡ length (turns w) = omega arith in
    h.are ∙ ap (scheduled w n) same

module _ (w : Work) (n : ℕ) (some : 0 < n) (queue : Queue) (free : List LaneTime) (all : List StartedTurn) (h : IsUnderWay w n queue free all) (limit : length w.plan.changes ≤ max_changes)
    (ready : ReadyTurn) (first : IsFirstDue (map (turn_waits w.script) (turns w)) (done_at w (reverse all)) h.numbers ready) where
  abbrev turn : Turn
  turn = turn_at (turns w) ready.number

  abbrev pub one : StartedTurn
  one = started_in (free_after w n (reverse all)) (ready_turn (turn_at (turns w) ready.number) ready.at)

  pub number_fits : ready.number < length (turns w)
  number_fits = let size = length-map (turns w) (turn_waits w.script) in let low = first.due.0 in omega arith

  answer : first_ready w (reverse all) (turns w) ≡ Some (ready_turn turn ready.at)
  answer = first_due w (reverse all) h.numbers h.have ready first

  next_all : one ∷ reverse all ≡ scheduled w n (suc (length all))
  next_all = sym (ap (λ l. with_next w n l (first_ready w l (turns w))) (sym h.are) ∙ ap (with_next w n (reverse all)) answer)

  pub lane_fits : (first_earliest free < length free) × (length free ≡ n)
  lane_fits =
      let size : length free ≡ n = ap length h.lanes ∙ length-free w n (reverse all) in
      (first_earliest_lt free (omega arith), size)

  pub is_one : (its : Turn) (lane : ℕ) (m begin : LaneTime) → its ≡ turn → lane ≡ first_earliest free → m ≡ get_or free lane m → begin ≡ later_of ready.at m
      → (let t : StartedTurn = record { turn = its; lane = lane; begin = begin } in t) ≡ one
  is_one its lane m begin same at read is =
      let fits = lane_fits.0 in
      let there : get_or free lane m ≡ get_or (free_after w n (reverse all)) (first_earliest (free_after w n (reverse all))) first_lane_time =
      any_default free lane m first_lane_time (omega arith) ∙ ap (λ k. get_or free k first_lane_time) at ∙ ap (λ l. get_or l (first_earliest l) first_lane_time) h.lanes in
      ap (λ x. let t : StartedTurn = record { turn = x; lane = lane; begin = begin } in t) same
      ∙ ap (λ k. let t : StartedTurn = record { turn = turn; lane = k; begin = begin } in t) (at ∙ ap first_earliest h.lanes)
      ∙ ap (λ b. let t : StartedTurn = record { turn = turn; lane = first_earliest (free_after w n (reverse all)); begin = b } in t) (is ∙ ap (later_of ready.at) (read ∙ there))

  begins : one.begin.second ≤ total w (reverse all)
  begins = (subst (EachAfter (λ before x. x.begin.second ≤ total w before)) (sym next_all) (each_begins w n some (suc (length all)))).0

  pub second_fits : one.begin.second + 2 * max_seconds < 2 ^ 64
  second_fits = let low = begins in let short = h.short in let few = h.few in let turns = few_turns w in omega arith

  pub round_fits : one.begin.round + 1 < 2 ^ 32
  round_fits =
      let low = subst (λ l. (started_in (free_after w n l) (ready_turn turn ready.at)).begin.round ≤ length l) (sym h.are)
      (rounds w n some (length all) (ready_turn turn ready.at) (subst (λ l. first_ready w l (turns w) ≡ Some (ready_turn turn ready.at)) h.are answer)) in
      let size = length-reverse all in let few = h.few in let turns = few_turns w in omega arith

  pub step_is_new : (step : ℕ) → one.turn.first ≤ step → step < one.turn.first + one.turn.count → done_at w (reverse all) (record { change = one.turn.change; step = step }) ≡ None
  step_is_new step low high =
      not_done w h.numbers (reverse all) ready.number step h.have number_fits (not_started w h.numbers (reverse all) ready.number h.have number_fits first.due.2) low high

  module _ (next : Queue) (end : LaneTime) (longer : List StartedTurn) (lanes : List LaneTime) (ends : end ≡ end_of_turn w one) (short : end.second ≤ one.begin.second + 2 * max_seconds)
      (more : longer ≡ all ++ one ∷ []) (set_free : lanes ≡ set free (first_earliest free) end)
      (q : IsQueue (2 * length w.plan.changes) (map (turn_waits w.script) (turns w)) (λ name. first_some (done_in w one name) (done_at w (reverse all) name)) (ready.number ∷ h.numbers) next)
      (room : length all < length (turns w)) where
    turned : reverse longer ≡ one ∷ reverse all
    turned = ap reverse more ∙ reverse-append all (one ∷ [])

    size : length longer ≡ suc (length all)
    size = let joined = length-append all (one ∷ []) in ap length more ∙ omega arith

    pub goes_on_with : IsUnderWay w n next lanes longer
    goes_on_with = record {
      few = let is = size in omega arith;
      lanes = set_free ∙ ap (λ l. set l (first_earliest l) end) h.lanes ∙ ap (set (free_after w n (reverse all)) one.lane) ends ∙ sym (ap (free_after w n) turned);
      are = turned ∙ next_all ∙ sym (ap (scheduled w n) size);
      short =
          let is = size in
          let sum = sum_by-cons (time_of w) one (reverse all) in
          let time = turn_end w one in
          let second = ap (λ (m : LaneTime). m.second) ends in
          let before = h.short in
          let all_is = ap (total w) turned in omega arith;
      numbers = ready.number ∷ h.numbers;
      queued = subst (λ l. IsQueue (2 * length w.plan.changes) (map (turn_waits w.script) (turns w)) (done_at w l) (ready.number ∷ h.numbers) next) (sym turned) q;
      have = subst (HaveNumbers (turns w) (ready.number ∷ h.numbers)) (sym turned) (number_fits, refl, h.have);
    }

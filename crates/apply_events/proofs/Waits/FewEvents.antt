-- The events of the turns that lanes start: they are of the plan, in time, and not too many.
use Rattle.std.proofs.Common.{◌≡◌, ◌≢◌, ℕ, zero, suc, ◌+◌, ◌*◌, ◌<◌, ◌≤◌, All, true, false, List, [], ◌∷◌, ◌++◌, cond, get_or, length, length-append, sum_by, refl, sym, ap, ◌∙◌, subst, ⊎_elim, arith, eqb, eq-eqb, ne_eqb}
use Rattle.std.specs.List.{Contains}
use Rattle.std.proofs.lemmas.Bool.Decides.{eqb_tells}
use Rattle.std.proofs.lemmas.List.Elements.{All-append, All-contains_itself, All-head, All-nil, All-tail, All-weaker}
use Rattle.std.proofs.lemmas.List.Sums.{sum_by-cons}
use Rattle.apply_events.specs.declared.event.Event.{Event}
use Rattle.apply_events.specs.declared.lanes.turn.StartedTurn.{StartedTurn}
use Rattle.apply_events.specs.ChangeEvents.{in_turn}
use Rattle.apply_events.specs.Fits.{HasStep, IsApplied, IsOfPlan}
use Rattle.apply_events.specs.Lanes.LaneState.{LaneState, count_left, emitted_by, unused}
use Rattle.apply_events.specs.Lanes.Startable.{IsStartable}
use Rattle.apply_events.specs.Step.{Step, Work, steps_of}
use Rattle.apply_events.specs.StepEvents.{step_events, step_time}
use Rattle.apply_events.specs.Waits.TimeLine.{turn_events}
use Rattle.apply_events.specs.Waits.Turn.{begun_steps}
use Rattle.apply_events.proofs.AppliedSteps.{applied_planned}
use Rattle.apply_events.proofs.StepNumbers.{steps_of-numbered}
use Rattle.apply_events.proofs.TimeLines.Few.{IsSmall, few_step}
use Rattle.apply_events.proofs.Waits.Ends.{turn_end}
use Rattle.apply_events.proofs.Waits.Once.{turn_is}
use Rattle.apply_events.proofs.Waits.OneLane.{known_is}
use Rattle.apply_events.proofs.Waits.Shares.{share, shares}
use Rattle.apply_events.proofs.Waits.Startable.{AllWithin, begun_small, few_begun, time_within, turn_facts}
use Rattle.apply_events.proofs.Waits.TurnEvents.{of_turn}
use Rattle.apply_events.proofs.Waits.TurnSteps.{begun_of_change, length-steps_of, numbered_in}
use Rattle.apply_hooks.specs.declared.phase.Phase.TheVariants.{Pre}

-- ---- of the plan, and in time

event_of_plan : (w : Work) (one : StartedTurn) (e : Event) → AllWithin w → IsStartable w one → Contains (turn_events w one) e → IsOfPlan w.plan e
event_of_plan w one e within can there =
    let of = of_turn w one e there in
    let c = one.turn.change in
    let s = of.step.0 in
    let number = (numbered_in 0 (steps_of w c) s (steps_of-numbered w c) (begun_of_change w one.turn s of.step.1)).1 in
    let size = length-steps_of w c in
    let step = of.step.2 in
    let applied : IsApplied w.plan w.script c e.step = omega arith in
    let last = of.last.0 in
    let ends = turn_end w one in
    let time = time_within w one (within c can.change) in
    let in_time = can.in_time in
    let few = can.last in
    record { has_step = subst (λ k. HasStep w.plan k e.step) (sym of.change) (applied_planned w.plan w.script c e.step applied); in_time = omega arith }

turn_of_plan : (w : Work) (one : StartedTurn) → AllWithin w → IsStartable w one → All (IsOfPlan w.plan) (turn_events w one)
turn_of_plan w one within can =
    All-weaker (Contains (turn_events w one)) (IsOfPlan w.plan) (λ e. event_of_plan w one e within can) (turn_events w one) (All-contains_itself (turn_events w one))

pub emitted_of_plan : (w : Work) (lane : ℕ) (started : List StartedTurn) → AllWithin w → All (IsStartable w) started → All (IsOfPlan w.plan) (emitted_by w lane started)
emitted_of_plan w lane [] within can = All-nil (IsOfPlan w.plan)
emitted_of_plan w lane (one ∷ started) within can =
    let mine = turn_of_plan w one within (All-head (IsStartable w) one started can) in
    let here : All (IsOfPlan w.plan) (cond (eqb one.lane lane) (turn_events w one) []) =
    elim (eqb one.lane lane) as (λ t. All (IsOfPlan w.plan) (cond t (turn_events w one) [])) [ true ↦ mine | false ↦ All-nil (IsOfPlan w.plan) ] in
    All-append (IsOfPlan w.plan) (cond (eqb one.lane lane) (turn_events w one) []) (emitted_by w lane started) here (emitted_of_plan w lane started within (All-tail (IsStartable w) one started can))

-- ---- how many

few_in_turn : (lane : ℕ) (steps : List Step) (at : ℕ) → All IsSmall steps → length (in_turn (step_events lane) step_time steps at) ≤ 9459 * length steps
few_in_turn lane [] at small = omega arith
few_in_turn lane (s ∷ steps) at small =
    let here : length (step_events lane s at) ≤ 9459 = few_step lane s at (s.halts Pre) (All-head IsSmall s steps small) in
    let rest = few_in_turn lane steps (at + step_time s) (All-tail IsSmall s steps small) in
    let both = length-append (step_events lane s at) (in_turn (step_events lane) step_time steps (at + step_time s)) in omega arith

abbrev events_in : Work → StartedTurn → ℕ
events_in w one = length (turn_events w one)

few_of_turn : (w : Work) (one : StartedTurn) → AllWithin w → IsStartable w one → events_in w one ≤ 9459 * share w one.turn
few_of_turn w one within can =
    let limits = within one.turn.change can.change in
    let few = few_in_turn one.lane (begun_steps w one.turn) one.begin.second (begun_small w one.turn limits) in
    let count = few_begun w one.turn in
    let mine = (turn_facts w one.turn limits.few (turn_is w one.turn (known_is w one.turn can.known))).share in omega arith

pub few_of_turns : (w : Work) (started : List StartedTurn) → AllWithin w → All (IsStartable w) started → sum_by (events_in w) started ≤ 9459 * shares w started
few_of_turns w [] within can = omega arith
few_of_turns w (one ∷ started) within can =
    let here = few_of_turn w one within (All-head (IsStartable w) one started can) in
    let rest = few_of_turns w started within (All-tail (IsStartable w) one started can) in
    let events : sum_by (events_in w) (one ∷ started) ≡ events_in w one + sum_by (events_in w) started = sum_by-cons (events_in w) one started in
    let sum : shares w (one ∷ started) ≡ share w one.turn + shares w started = sum_by-cons (λ (x : StartedTurn). share w x.turn) one started in omega arith

-- lanes from one on, and so many of them, together
abbrev pub lanes_emit : Work → List StartedTurn → ℕ → ℕ → ℕ
lanes_emit w started a zero = 0
lanes_emit w started a (suc m) = length (emitted_by w a started) + lanes_emit w started (a + 1) m

emit_none : (w : Work) (a m : ℕ) → lanes_emit w [] a m ≡ 0
emit_none w a zero = refl
emit_none w a (suc m) = let rest = emit_none w (a + 1) m in omega arith

-- a turn is reported by one lane
other_lanes : (w : Work) (one : StartedTurn) (started : List StartedTurn) (a m : ℕ) → one.lane < a → lanes_emit w (one ∷ started) a m ≡ lanes_emit w started a m
other_lanes w one started a zero lt = refl
other_lanes w one started a (suc m) lt =
    let here : length (emitted_by w a (one ∷ started)) ≡ length (emitted_by w a started) = ap (λ t. length (cond t (turn_events w one) [] ++ emitted_by w a started)) (ne_eqb one.lane a (omega arith)) in
    let rest = other_lanes w one started (a + 1) m (omega arith) in omega arith

one_lane : (w : Work) (one : StartedTurn) (started : List StartedTurn) (a m : ℕ) → lanes_emit w (one ∷ started) a m ≤ events_in w one + lanes_emit w started a m
one_lane w one started a zero = omega arith
one_lane w one started a (suc m) = ⊎_elim
    (λ (c : _ × (one.lane ≡ a)).
    let here : length (emitted_by w a (one ∷ started)) ≡ length (turn_events w one ++ emitted_by w a started) = ap (λ t. length (cond t (turn_events w one) [] ++ emitted_by w a started)) (eq-eqb one.lane a c.1) in
    let both = length-append (turn_events w one) (emitted_by w a started) in
    let rest = other_lanes w one started (a + 1) m (let is = c.1 in omega arith) in omega arith)
    (λ (c : _ × (one.lane ≢ a)).
    let here : length (emitted_by w a (one ∷ started)) ≡ length (emitted_by w a started) = ap (λ t. length (cond t (turn_events w one) [] ++ emitted_by w a started)) (ne_eqb one.lane a c.1) in
    let rest = one_lane w one started (a + 1) m in omega arith)
    (eqb_tells one.lane a)

pub lanes_few : (w : Work) (started : List StartedTurn) (a m : ℕ) → lanes_emit w started a m ≤ sum_by (events_in w) started
lanes_few w [] a m = let none = emit_none w a m in omega arith
lanes_few w (one ∷ started) a m =
    let here = one_lane w one started a m in let rest = lanes_few w started a m in
    let events : sum_by (events_in w) (one ∷ started) ≡ events_in w one + sum_by (events_in w) started = sum_by-cons (events_in w) one started in omega arith

lanes_sum : (w : Work) (started : List StartedTurn) (states : List LaneState) (a : ℕ) → ((v : ℕ) → v < length states → count_left w started (get_or states v unused) ≡ length (emitted_by w (a + v) started))
    → sum_by (count_left w started) states ≡ lanes_emit w started a (length states)
lanes_sum w started [] a each = refl
lanes_sum w started (s ∷ states) a each =
    let here : count_left w started s ≡ length (emitted_by w a started) = each 0 (omega arith) ∙ (let same : a + 0 ≡ a = omega arith in ap (λ k. length (emitted_by w k started)) same) in
    let rest = lanes_sum w started states (a + 1) (λ v lt. each (suc v) (omega arith) ∙ (let same : a + suc v ≡ a + 1 + v = omega arith in ap (λ k. length (emitted_by w k started)) same)) in
    let sum : sum_by (count_left w started) (s ∷ states) ≡ count_left w started s + sum_by (count_left w started) states = sum_by-cons (count_left w started) s states in omega arith

pub few_left : (w : Work) (started : List StartedTurn) (states : List LaneState) → AllWithin w → All (IsStartable w) started → ((v : ℕ) → v < length states → count_left w started (get_or states v unused) ≡ length (emitted_by w v started))
    → sum_by (count_left w started) states ≤ 9459 * shares w started
few_left w started states within can each =
    let sum = lanes_sum w started states 0 (λ v lt. each v lt ∙ (let same : v ≡ 0 + v = omega arith in ap (λ k. length (emitted_by w k started)) same)) in
    let few = lanes_few w started 0 (length states) in
    let all = few_of_turns w started within can in omega arith

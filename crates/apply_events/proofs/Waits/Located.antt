-- Events of an interleaving of lanes, and the turns that they belong to.
use Rattle.std.proofs.Common.{◌≡◌, ◌≢◌, ℕ, ◌<◌, All, Bool, true, false, List, [], ◌∷◌, ◌++◌, cond, refl, sym, ap, ◌∙◌, subst, ⊎_elim, eqb, eq-eqb, ne_eqb}
use Rattle.std.specs.List.{Contains, filter}
use Rattle.std.proofs.lemmas.Bool.{true≢false}
use Rattle.std.proofs.lemmas.Bool.Decides.{eqb_tells}
use Rattle.std.proofs.lemmas.List.{append-nil}
use Rattle.std.proofs.lemmas.List.Elements.{Contains-append_cases, Contains-append_left, Contains-append_right, filter-append}
use Rattle.apply_events.specs.Step.{Work}
use Rattle.apply_events.specs.declared.event.Event.{Event}
use Rattle.apply_events.specs.Interleaving.{IsInterleaving}
use Rattle.apply_events.specs.OfWorker.{of_worker}
use Rattle.apply_events.specs.declared.lanes.turn.StartedTurn.{StartedTurn}
use Rattle.apply_events.specs.Waits.Schedule.{is_started}
use Rattle.apply_events.specs.Waits.TimeLine.{lane_turns, turn_events}
use Rattle.apply_events.proofs.Waits.Members.{filter_in, filter_no, filter_within, in_cases, in_filter, in_head, in_tail, not_in_none}
use Rattle.apply_events.proofs.Waits.Once.{AreTurns, started_in_list, turns_tail}
use Rattle.apply_events.proofs.Waits.TurnEvents.{OfTurn, of_turn}
use Rattle.apply_events.proofs.Waits.TurnSteps.{all_at}

-- ---- a lane's turns

pub in_lane : (w : Work) (started : List StartedTurn) (lane : ℕ) (one : StartedTurn) (e : Event) → Contains started one → one.lane ≡ lane → Contains (turn_events w one) e → Contains (lane_turns w started lane) e
in_lane w [] lane one e there is h = absurd (not_in_none one there)
in_lane w (x ∷ started) lane one e there is h = ⊎_elim
    (λ (same : x ≡ one).
    let here : cond (eqb x.lane lane) (turn_events w x) [] ≡ turn_events w one =
    ap (λ t. cond t (turn_events w x) []) (eq-eqb x.lane lane (ap (λ (y : StartedTurn). y.lane) same ∙ is)) ∙ ap (turn_events w) same in
    Contains-append_right (lane_turns w started lane) (cond (eqb x.lane lane) (turn_events w x) []) e (subst (λ l. Contains l e) (sym here) h))
    (λ (later : Contains started one). Contains-append_left (lane_turns w started lane) (cond (eqb x.lane lane) (turn_events w x) []) e (in_lane w started lane one e later is h))
    (in_cases x started one there)

pub lane_in : (w : Work) (started : List StartedTurn) (lane : ℕ) (e : Event) → Contains (lane_turns w started lane) e
    → (one : StartedTurn) × Contains started one × (one.lane ≡ lane) × Contains (turn_events w one) e
lane_in w [] lane e h = absurd (not_in_none e h)
lane_in w (x ∷ started) lane e h = ⊎_elim
    (λ (earlier : Contains (lane_turns w started lane) e). let answer = lane_in w started lane e earlier in (answer.0, in_tail x started answer.0 answer.1, answer.2, answer.3))
    (λ (here : Contains (cond (eqb x.lane lane) (turn_events w x) []) e). ⊎_elim
    (λ (c : _ × (x.lane ≡ lane)). (x, in_head x started, c.1, subst (λ l. Contains l e) (ap (λ t. cond t (turn_events w x) []) (eq-eqb x.lane lane c.1)) here))
    (λ (c : _ × (x.lane ≢ lane)). absurd (not_in_none e (subst (λ l. Contains l e) (ap (λ t. cond t (turn_events w x) []) (ne_eqb x.lane lane c.1)) here)))
    (eqb_tells x.lane lane))
    (Contains-append_cases (lane_turns w started lane) (cond (eqb x.lane lane) (turn_events w x) []) e h)

-- ---- an interleaving

-- the turn of an event
pub record IsLocated (w : Work) (started : List StartedTurn) (e : Event) : Type 0 where
  pub one : StartedTurn
  pub there : Contains started one
  pub among : Contains (turn_events w one) e
  pub of : OfTurn w one e

module _ (w : Work) (n : ℕ) (started : List StartedTurn) (events : List Event) (line : IsInterleaving n (lane_turns w started) events) where
  pub answer : (e : Event) → Contains events e → IsLocated w started e
  answer e h =
      let lt = all_at (λ (f : Event). f.worker < n) events e line.named h in
      let mine : Contains (of_worker e.worker events) e = in_filter (λ (f : Event). eqb f.worker e.worker) events e h (eq-eqb e.worker e.worker refl) in
      let one = lane_in w started e.worker e (subst (λ l. Contains l e) (line.parts e.worker lt) mine) in
      record { one = one.0; there = one.1; among = one.3; of = of_turn w one.0 e one.3 }

  pub emitted : (one : StartedTurn) (e : Event) → All (λ x. x.lane < n) started → Contains started one → Contains (turn_events w one) e → Contains events e
  emitted one e lanes there h =
      let lt = all_at (λ (x : StartedTurn). x.lane < n) started one lanes there in
      (filter_in (λ (f : Event). eqb f.worker one.lane) events e (subst (λ l. Contains l e) (sym (line.parts one.lane lt)) (in_lane w started one.lane one e there refl h))).0

-- ---- events that one turn alone has

-- no other turn has such an event
abbrev pub IsOnly : Work → List StartedTurn → StartedTurn → (Event → Bool) → Type 0
IsOnly w started one p = (other : StartedTurn) → Contains started other → (e : Event) → Contains (turn_events w other) e → p e ≡ true → other ≡ one

-- of a lane's turns
lane_part : (w : Work) (started : List StartedTurn) (one : StartedTurn) (p : Event → Bool) → AreTurns w started → Contains started one → IsOnly w started one p
    → filter p (lane_turns w started one.lane) ≡ filter p (turn_events w one)
lane_part w [] one p h there only = absurd (not_in_none one there)
lane_part w (x ∷ started) one p h there only =
    let here = cond (eqb x.lane one.lane) (turn_events w x) [] in
    let new : is_started started x.turn ≡ false = h.once [] started x refl in
    filter-append p (lane_turns w started one.lane) here ∙ ⊎_elim
    (λ (same : x ≡ one).
    let none : filter p (lane_turns w started one.lane) ≡ [] = filter_no p (lane_turns w started one.lane) (λ e inside yes.
    let answer = lane_in w started one.lane e inside in
    let again : answer.0 ≡ one = only answer.0 (in_tail x started answer.0 answer.1) e answer.3 yes in
    true≢false (sym (started_in_list started answer.0 x.turn answer.1 (ap (λ (y : StartedTurn). y.turn) (again ∙ sym same))) ∙ new)) in
    let all : here ≡ turn_events w one = ap (λ t. cond t (turn_events w x) []) (eq-eqb x.lane one.lane (ap (λ (y : StartedTurn). y.lane) same)) ∙ ap (turn_events w) same in
    ap (λ l. l ++ filter p here) none ∙ ap (filter p) all)
    (λ (later : Contains started one).
    let none : filter p here ≡ [] = filter_no p here (λ e inside yes. ⊎_elim
    (λ (c : _ × (x.lane ≡ one.lane)).
    let its : Contains (turn_events w x) e = subst (λ l. Contains l e) (ap (λ t. cond t (turn_events w x) []) (eq-eqb x.lane one.lane c.1)) inside in
    let again : x ≡ one = only x (in_head x started) e its yes in
    true≢false (sym (started_in_list started one x.turn later (ap (λ (y : StartedTurn). y.turn) (sym again))) ∙ new))
    (λ (c : _ × (x.lane ≢ one.lane)). not_in_none e (subst (λ l. Contains l e) (ap (λ t. cond t (turn_events w x) []) (ne_eqb x.lane one.lane c.1)) inside))
    (eqb_tells x.lane one.lane)) in
    ap (λ l. filter p (lane_turns w started one.lane) ++ l) none ∙ append-nil (filter p (lane_turns w started one.lane))
    ∙ lane_part w started one p (turns_tail w x started h) later (λ other inside. only other (in_tail x started other inside)))
    (in_cases x started one there)

-- of an interleaving
pub part_is : (w : Work) (n : ℕ) (started : List StartedTurn) (events : List Event) (one : StartedTurn) (p : Event → Bool) → IsInterleaving n (lane_turns w started) events
    → AreTurns w started → All (λ x. x.lane < n) started → Contains started one → IsOnly w started one p → filter p events ≡ filter p (turn_events w one)
part_is w n started events one p line h lanes there only =
    let lt = all_at (λ (x : StartedTurn). x.lane < n) started one lanes there in
    sym (filter_within p (λ (e : Event). eqb e.worker one.lane) events (λ e inside yes.
    let its = answer w n started events line e inside in
    let same : its.one ≡ one = only its.one its.there e its.among yes in
    eq-eqb e.worker one.lane (its.of.worker ∙ ap (λ (x : StartedTurn). x.lane) same)))
    ∙ ap (filter p) (line.parts one.lane lt)
    ∙ lane_part w started one p h there only

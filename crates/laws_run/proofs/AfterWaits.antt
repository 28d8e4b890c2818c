-- Each event of a step comes after the events of the steps that it waits for.
use Rattle.std.proofs.Common.{◌≡◌, ◌≢◌, ℕ, zero, suc, ◌+◌, ◌<◌, ◌≤◌, Bool, true, false, ◌&&◌, List, [], ◌∷◌, ◌++◌, cond, length, Option, Some, None, refl, sym, ap, ◌∙◌, subst, ⊎_elim, ◌⊎◌, inl, inr, arith, eqb, eq-eqb, lt-ltb, ne_eqb}
use Rattle.std.specs.List.{Contains, filter}
use Rattle.std.proofs.lemmas.Bool.{and_parts, cases_Bool, true≢false}
use Rattle.std.proofs.lemmas.Bool.Decides.{eqb_tells}
use Rattle.std.proofs.lemmas.List.Elements.{All-contains_itself, All-weaker, Contains-append_right, filter-append}
use Rattle.apply_events.specs.declared.event.Event.{Event}
use Rattle.apply_events.specs.Interleaving.{IsInterleaving}
use Rattle.apply_events.specs.Step.{Work, kinds_applied}
use Rattle.apply_events.specs.declared.lanes.turn.StartedTurn.{StartedTurn}
use Rattle.apply_events.specs.Waits.Done.{done_among, done_at, done_in, first_some}
use Rattle.apply_events.specs.declared.lanes.lane_time.LaneTime.{LaneTime}
use Rattle.apply_events.specs.Waits.LaneTime.{IsNoLater, next_round}
use Rattle.laws_run.proofs.Named.{named, names_some}
use Rattle.apply_model.specs.declared.script.wait.Wait.{Wait}
use Rattle.apply_model.specs.Script.Waits.{waits_of}
use Rattle.apply_events.specs.Waits.StartedTurns.{WereStarted}
use Rattle.apply_events.specs.Waits.TimeLine.{InOrder, Precedes, lane_turns, lane_time_from, lane_time_of, turn_events}
use Rattle.apply_events.specs.declared.lanes.turn.Turn.{Turn}
use Rattle.apply_events.specs.Waits.Turn.{begun_steps, single, waits_of_turn, whole}
use Rattle.apply_events.proofs.AppliedSteps.{few_applied}
use Rattle.apply_events.proofs.Rising as rising
use Rattle.apply_events.proofs.StepNumbers.{in_turn_rise, number_of}
use Rattle.laws_run.specs.WaitingSteps.{HasFewSteps, ComeAfterWhatTheyWaitFor, has_events, is_of_step}
use Rattle.apply_events.proofs.Waits.Located.{IsLocated, IsOnly, answer, part_is}
use Rattle.apply_events.proofs.Waits.Members.{filter_all, in_any, in_cases, in_filter, in_head, in_split, in_tail, not_in_none, split_in}
use Rattle.apply_events.proofs.Waits.Moments.{no_later_on, not_by_then}
use Rattle.apply_events.proofs.Waits.Once.{AreTurns, IsTurnOf, is_split, known_turn, lane_time_is, one_event, same_started}
use Rattle.apply_events.proofs.Waits.TurnEvents.{done_in_turn, of_turn, turn_has}
use Rattle.apply_events.proofs.Waits.TurnSteps.{all_at, begun_numbered}
use Rattle.laws_run.proofs.Waited.{IsDoneBefore, are_done_before}

-- ---- in which turn a step is done

first_cases : (a b : Option LaneTime) (m : LaneTime) → first_some a b ≡ Some m → (a ≡ Some m) ⊎ (b ≡ Some m)
first_cases None b m is = inr is
first_cases (Some a) b m is = inl is

pub done_located : (w : Work) (taken : List StartedTurn) (name : Wait) (m : LaneTime) → done_at w taken name ≡ Some m → (one : StartedTurn) × Contains taken one × (done_in w one name ≡ Some m)
done_located w [] name m is = absurd cc
done_located w (x ∷ taken) name m is = ⊎_elim
    (λ (here : done_in w x name ≡ Some m). (x, in_head x taken, here))
    (λ (later : done_at w taken name ≡ Some m). let answer = done_located w taken name m later in (answer.0, in_tail x taken answer.0 answer.1, answer.2))
    (first_cases (done_in w x name) (done_at w taken name) m is)

-- ---- what a turn waits for

pub waits_are : (w : Work) (turn : Turn) (c k : ℕ) → turn.change ≡ c → turn.first ≡ k → 0 < turn.count → waits_of_turn w turn ≡ waits_of w.script c k
waits_are w turn c k change first some =
    let more : turn.count ≢ 0 = omega arith in
    ap (λ t. cond t [] (waits_of w.script turn.change turn.first)) (ne_eqb turn.count 0 more)
    ∙ ap (λ x. waits_of w.script x turn.first) change ∙ ap (waits_of w.script c) first

-- a step that a turn waits for is done in another, a round before the turn begins
pub record IsWaitedFor (w : Work) (taken : List StartedTurn) (one : StartedTurn) (name : Wait) : Type 0 where
  pub other : StartedTurn
  pub there : Contains taken other
  pub moment : LaneTime
  pub done : done_in w other name ≡ Some moment
  pub before : IsNoLater (next_round moment) one.begin

pub is_waited_for : (w : Work) (n : ℕ) (taken : List StartedTurn) (one : StartedTurn) (name : Wait) → WereStarted w n taken → Contains taken one → Contains (waits_of_turn w one.turn) name
    → IsWaitedFor w taken one name
is_waited_for w n taken one name up there waits =
    let split = in_split taken one there in
    let later = split.0 in let before = split.1 in
    let ready = up.ready later before one split.2 in
    let done = all_at (IsDoneBefore w before ready.at) (waits_of_turn w one.turn) name (are_done_before w before (waits_of_turn w one.turn) ready.at ready.ready) waits in
    let answer = done_located w before name done.0 done.1 in
    record {
      other = answer.0;
      there = subst (λ l. Contains l answer.0) (sym split.2) (Contains-append_right later (one ∷ before) answer.0 (in_tail one before answer.0 answer.1));
      moment = done.0;
      done = answer.2;
      before = no_later_on (next_round done.0) ready.at one.begin done.2 ready.in_time;
    }

pub single_count : {c : ℕ} {turn : Turn} → (turn ≡ single c 0) ⊎ (turn ≡ single c 1) → turn.count ≡ 1
single_count (inl first) = ap (λ (t : Turn). t.count) first
single_count (inr second) = ap (λ (t : Turn). t.count) second

-- ---- lists in order

pub comes_after : (when : Event → LaneTime) (before after : List Event) (e f : Event) → InOrder when (before ++ e ∷ after) → Contains after f → Precedes when e f
comes_after when [] after e f h there = all_at (Precedes when e) after f h.0 there
comes_after when (x ∷ before) after e f h there = comes_after when before after e f h.1 there

rises_after : (low high : ℕ) (before after : List Event) (e f : Event) → rising.Rises number_of low high (before ++ e ∷ after) → Contains after f → e.step ≤ f.step
rises_after low high [] after e f h there = least e.step high after h.1 f there
  where
    least : (low high : ℕ) (es : List Event) → rising.Rises number_of low high es → (f : Event) → Contains es f → low ≤ f.step
    least low high [] h f there = absurd (not_in_none f there)
    least low high (x ∷ es) h f there = ⊎_elim
        (λ (same : x ≡ f). let first = h.0 in let step = ap (λ (y : Event). y.step) same in omega arith)
        (λ (later : Contains es f). let first = h.0 in let rest = least x.step high es h.1 f later in omega arith)
        (in_cases x es f there)
rises_after low high (x ∷ before) after e f h there = rises_after x.step high before after e f h.1 there

pub eq_from : (a b : ℕ) → eqb a b ≡ true → a ≡ b
eq_from a b same = ⊎_elim
    (λ (c : _ × (a ≡ b)). c.1)
    (λ (c : _ × (a ≢ b)). absurd (true≢false (sym same ∙ ne_eqb a b c.1)))
    (eqb_tells a b)

-- ---- the second step of a change of one turn

pub no_names : (w : Work) (c : ℕ) → length (kinds_applied w.plan w.script c) ≡ 2 → is_split w c ≡ false → names_some (named w c 1) ≡ false
no_names w c two whole_one = sym (ap (λ t. t && names_some (named w c 1)) (eq-eqb (length (kinds_applied w.plan w.script c)) 2 two)) ∙ whole_one

pub none_named : (names : List Wait) (name : Wait) → names_some names ≡ false → Contains names name → ⊥
none_named [] name none h = not_in_none name h
none_named (x ∷ names) name none h = true≢false (sym (lt-ltb 0 (length (x ∷ names)) (omega arith)) ∙ none)

module _ (w : Work) (n : ℕ) (taken : List StartedTurn) (events : List Event) (up : WereStarted w n taken) (line : IsInterleaving n (lane_turns w taken) events) where
  pub are_turns : AreTurns w taken
  are_turns = record { known = up.known; once = up.once }

  -- each event of a step that a turn waits for is earlier than the turn's events
  waited_earlier : (e f : Event) (name : Wait) → (its : IsLocated w taken e) → IsLocated w taken f → Contains (waits_of_turn w its.one.turn) name → f.change ≡ name.change → f.step ≡ name.step
      → IsNoLater (lane_time_of taken e) (lane_time_of taken f) → ⊥
  waited_earlier e f name its other waits change step le =
      let waited = is_waited_for w n taken its.one name up its.there waits in
      let there = done_in_turn w waited.other name waited.moment waited.done in
      let s = there.step.0 in
      let m = waited.moment in
      let g = turn_has w waited.other s there.step.1 in
      let same : waited.other ≡ other.one = one_event w taken waited.other other.one g.0 f are_turns waited.there other.there (of_turn w waited.other g.0 g.1) other.of
      (g.3 ∙ there.change ∙ sym change) (g.2 ∙ there.step.2 ∙ sym step) in
      let among : done_among f.step other.one.begin (begun_steps w other.one.turn) ≡ Some m =
      ap (λ k. done_among k other.one.begin (begun_steps w other.one.turn)) step ∙ ap (λ (x : StartedTurn). done_among name.step x.begin (begun_steps w x.turn)) (sym same) ∙ there.among in
      let end : IsNoLater (lane_time_from other.one.begin f) m = other.of.until m among in
      let begins : IsNoLater (next_round m) (lane_time_from its.one.begin e) = no_later_on (next_round m) its.one.begin (lane_time_from its.one.begin e) waited.before its.of.from in
      let here : IsNoLater (next_round m) (lane_time_of taken e) = subst (IsNoLater (next_round m)) (sym (lane_time_is w taken its.one e are_turns its.there its.of)) begins in
      let ends : IsNoLater (lane_time_of taken f) m = subst (λ x. IsNoLater x m) (sym (lane_time_is w taken other.one f are_turns other.there other.of)) end in
      not_by_then m (lane_time_of taken e) here (no_later_on (lane_time_of taken e) (lane_time_of taken f) m le ends)

  -- along the events of a change of one turn steps never go back
  never_back : (before after : List Event) (e f : Event) → events ≡ before ++ e ∷ after → Contains after f → (its : IsLocated w taken e) → is_split w its.one.turn.change ≡ false
      → f.change ≡ e.change → e.step ≤ f.step
  never_back before after e f is there its whole_one change =
      let one = its.one in
      let c = one.turn.change in
      let p : Event → Bool = λ x. eqb x.change c in
      let only : IsOnly w taken one p = λ other inside x among its_change.
      (let of = of_turn w other x among in
      let same : other.turn.change ≡ c = sym of.change ∙ eq_from x.change c its_change in
      same_started w taken other one are_turns inside its.there
      (whole_is c other.turn whole_one (subst (λ k. IsTurnOf w k other.turn) same (known_turn w taken other are_turns inside)) ∙ sym (whole_is c one.turn whole_one (known_turn w taken one are_turns its.there)))) in
      let all : filter p (turn_events w one) ≡ turn_events w one = filter_all p (turn_events w one) (λ x among. eq-eqb x.change c (of_turn w one x among).change) in
      let yes : p e ≡ true = eq-eqb e.change c its.of.change in
      let parts : filter p before ++ e ∷ filter p after ≡ turn_events w one =
      sym (filter-append p before (e ∷ after) ∙ ap (λ t. filter p before ++ cond t (e ∷ filter p after) (filter p after)) yes)
      ∙ ap (filter p) (sym is) ∙ part_is w n taken events one p line are_turns up.in_lanes its.there only ∙ all in
      let n0 = one.turn.first in
      rises_after n0 (n0 + length (begun_steps w one.turn)) (filter p before) (filter p after) e f
      (subst (rising.Rises number_of n0 (n0 + length (begun_steps w one.turn))) (sym parts) (in_turn_rise one.lane n0 (begun_steps w one.turn) one.begin.second (begun_numbered w one.turn)))
      (in_filter p after f there (eq-eqb f.change c (change ∙ its.of.change)))
    where
      whole_is : (c : ℕ) (turn : Turn) → is_split w c ≡ false → IsTurnOf w c turn → turn ≡ whole w c
      whole_is c turn unsplit (inl one) = one.1
      whole_is c turn unsplit (inr two) = absurd (true≢false (sym two.0 ∙ unsplit))

  module _ (few : HasFewSteps w) (ordered : InOrder (lane_time_of taken) events) where
    after_turn : (before after : List Event) (e f : Event) (name : Wait) → events ≡ before ++ e ∷ after → Contains after f → (its : IsLocated w taken e)
        → Contains (waits_of_turn w its.one.turn) name → f.change ≡ name.change → f.step ≡ name.step → ⊥
    after_turn before after e f name is there its waits change step =
        let inside : Contains events f = subst (λ l. Contains l f) (sym is) (Contains-append_right before (e ∷ after) f (in_tail e after f there)) in
        waited_earlier e f name its (answer w n taken events line f inside) waits change step
        (comes_after (lane_time_of taken) before after e f (subst (InOrder (lane_time_of taken)) is ordered) there).0

    behind_is : (before after : List Event) (e f : Event) (k : ℕ) (name : Wait) → events ≡ before ++ e ∷ after → Contains after f → (its : IsLocated w taken e)
        → IsTurnOf w its.one.turn.change its.one.turn → e.step ≡ k → Contains (waits_of w.script e.change k) name → f.change ≡ name.change → f.step ≡ name.step → ⊥
    behind_is before after e f k name is there its (inr split) number waits change step =
        let count : its.one.turn.count ≡ 1 = single_count split.1 in
        let low = its.of.low in let high = its.of.high in
        let first : its.one.turn.first ≡ k = omega arith in
        after_turn before after e f name is there its (subst (λ l. Contains l name) (sym (waits_are w its.one.turn e.change k (sym its.of.change) first (omega arith))) waits) change step
    behind_is before after e f zero name is there its (inl all) number waits change step =
        let first : its.one.turn.first ≡ 0 = ap (λ (t : Turn). t.first) all.1 in
        let high = its.of.high in
        after_turn before after e f name is there its (subst (λ l. Contains l name) (sym (waits_are w its.one.turn e.change 0 (sym its.of.change) first (omega arith))) waits) change step
    behind_is before after e f (suc k) name is there its (inl all) number waits change step =
        let c = its.one.turn.change in
        let high = its.of.high in let count = ap (λ (t : Turn). t.count) all.1 in let first = ap (λ (t : Turn). t.first) all.1 in
        let most = few c in let applied = few_applied w.plan w.script c in
        let two : length (kinds_applied w.plan w.script c) ≡ 2 = omega arith in ⊎_elim
        (λ (here : record { change = e.change; step = k } ≡ name).
        let low = never_back before after e f is there its all.0 (change ∙ sym (ap (λ (x : Wait). x.change) here)) in
        let is_k = ap (λ (x : Wait). x.step) here in omega arith)
        (λ (named_there : Contains (named w e.change (suc k)) name).
        let second : suc k ≡ 1 = omega arith in
        none_named (named w c 1) name (no_names w c two all.0)
        (subst (λ x. Contains (named w x 1) name) its.of.change (subst (λ j. Contains (named w e.change j) name) second named_there)))
        (in_cases (record { change = e.change; step = k }) (named w e.change (suc k)) name waits)

    pub come_after : ComeAfterWhatTheyWaitFor w events
    come_after before after e is =
        let its = answer w n taken events line e (subst (λ l. Contains l e) (sym is) (split_in before e after)) in
        let names = waits_of w.script e.change e.step in
        All-weaker (Contains names) (λ name. has_events after name ≡ false)
        (λ name waits. ⊎_elim
        (λ (some : has_events after name ≡ true).
        let one = in_any (is_of_step name) after some in
        let f = one.0 in
        let both = and_parts (eqb f.change name.change) (eqb f.step name.step) one.2 in
        absurd (behind_is before after e f e.step name is one.1 its (known_turn w taken its.one are_turns its.there) refl waits (eq_from f.change name.change both.0) (eq_from f.step name.step both.1)))
        (λ (none : has_events after name ≡ false). none)
        (cases_Bool (has_events after name)))
        names (All-contains_itself names)

-- A step has events if and only if each step that it waits for is done.
use Rattle.std.proofs.Common.{◌≡◌, ℕ, zero, suc, ◌+◌, ◌<◌, ◌≤◌, Bool, true, false, ◌&&◌, List, [], ◌∷◌, cond, length, map, Option, Some, None, refl, sym, ap, ◌∙◌, subst, ⊎_elim, inl, inr, arith, eqb, eq-eqb}
use Rattle.std.specs.Prelude.{option_map, slice_get}
use Rattle.std.specs.List.{Contains, enumerate_from, list_all, range_with_len}
use Rattle.std.specs.Option.{option_map_or}
use Rattle.std.proofs.lemmas.Bool.{and_from, and_parts, cases_Bool, cases_eq, true≢false}
use Rattle.apply_model.specs.Plan.ResourceChange.{ResourceChange}
use Rattle.apply_events.specs.declared.event.Event.{Event}
use Rattle.apply_events.specs.Fits.{IsApplied}
use Rattle.apply_events.specs.Interleaving.{IsInterleaving}
use Rattle.apply_events.specs.Step.{Step, Work, kinds_applied, step_of, steps_of}
use Rattle.apply_events.specs.StepEvents.{goes_on}
use Rattle.apply_events.specs.declared.lanes.turn.StartedTurn.{StartedTurn}
use Rattle.apply_events.specs.Waits.Done.{done_at, done_by, done_in, first_some, later_if_both, ready_at}
use Rattle.apply_events.specs.declared.lanes.lane_time.LaneTime.{LaneTime}
use Rattle.apply_events.specs.Waits.LaneTime.{first_lane_time, later_of, next_round}
use Rattle.laws_run.proofs.Named.{named}
use Rattle.apply_model.specs.declared.script.wait.Wait.{Wait}
use Rattle.apply_model.specs.Script.Waits.{waits_of}
use Rattle.apply_events.specs.Waits.Schedule.{is_started}
use Rattle.apply_events.specs.Waits.StartedTurns.{WereStarted}
use Rattle.apply_events.specs.Waits.TimeLine.{lane_turns}
use Rattle.apply_events.specs.declared.lanes.turn.Turn.{Turn}
use Rattle.apply_events.specs.Waits.Turn.{begun_steps, single, turns, turns_of, waits_of_turn, whole}
use Rattle.laws_run.specs.WaitingSteps.{BeginWhereAllIsDone, HasFewSteps, goes_on_if_begun, has_events, is_done_along, is_of_step}
use Rattle.laws_run.proofs.AfterWaits.{are_turns, eq_from, is_waited_for, no_names, none_named, single_count, waits_are}
use Rattle.apply_events.proofs.AppliedSteps.{applied_planned, few_applied}
use Rattle.apply_events.proofs.StepNumbers.{steps_of-numbered}
use Rattle.apply_events.proofs.Waits.Located.{IsLocated, answer, emitted}
use Rattle.apply_events.proofs.Waits.Members.{all_in, any_in, in_all, in_any, in_cases, in_flat_map, in_head, in_tail, not_in_none}
use Rattle.apply_events.proofs.Waits.Once.{AreTurns, IsTurnOf, in_list, is_split, known_turn}
use Rattle.apply_events.proofs.Waits.TurnEvents.{done_then, done_in_turn, turn_has}
use Rattle.apply_events.proofs.Waits.TurnSteps.{all_at, begun_of_change, first_begins, has_two, length-steps_of, numbered_in, second_begins, second_after_first, step_at_number}

-- ---- the turn of a step

in_range : (a n c : ℕ) → a ≤ c → c < a + n → Contains (range_with_len a n) c
in_range a zero c low high = absurd (omega arith)
in_range a (suc n) c low high = ⊎_elim
    (λ (is : a ≡ c). subst (λ x. Contains (a ∷ range_with_len (a + 1) n) x) is (in_head a (range_with_len (a + 1) n)))
    (λ (ne : a ≡ c → ⊥). in_tail a (range_with_len (a + 1) n) c (in_range (a + 1) n c (omega arith) (omega arith)))
    (cases_eq a c)

known_change : (changes : List ResourceChange) (c k : ℕ) → k < length (option_map_or (λ (change : ResourceChange). change.steps) (slice_get changes c) []) → c < length changes
known_change [] zero k lt = absurd (omega arith)
known_change [] (suc c) k lt = absurd (omega arith)
known_change (x ∷ changes) zero k lt = omega arith
known_change (x ∷ changes) (suc c) k lt = let rest = known_change changes c k lt in omega arith

-- the turn that has a step
pub record HasTurn (w : Work) (c k : ℕ) : Type 0 where
  pub turn : Turn
  pub known : Contains (turns w) turn
  pub of_change : turn.change ≡ c
  pub low : turn.first ≤ k
  pub high : k < turn.first + turn.count
  pub which : IsTurnOf w c turn

turn_among : (w : Work) (c k : ℕ) → IsApplied w.plan w.script c k → (t : Bool) → is_split w c ≡ t
    → (turn : Turn) × Contains (cond t (single c 0 ∷ single c 1 ∷ []) (whole w c ∷ [])) turn × (turn.change ≡ c) × (turn.first ≤ k) × (k < turn.first + turn.count) × IsTurnOf w c turn
turn_among w c k has false is = (whole w c, in_head (whole w c) [], refl, omega arith, omega arith, inl (is, refl))
turn_among w c zero has true is = (single c 0, in_head (single c 0) (single c 1 ∷ []), refl, omega arith, omega arith, inr (is, inl refl))
turn_among w c (suc k) has true is =
    let two = eq_from (length (kinds_applied w.plan w.script c)) 2 (and_parts (eqb (length (kinds_applied w.plan w.script c)) 2) _ is).0 in
    (single c 1, in_tail (single c 0) (single c 1 ∷ []) (single c 1) (in_head (single c 1) []), refl, omega arith, omega arith, inr (is, inr refl))

has_turn : (w : Work) (c k : ℕ) → IsApplied w.plan w.script c k → HasTurn w c k
has_turn w c k has =
    let answer = turn_among w c k has (is_split w c) refl in
    let lt = known_change w.plan.changes c k (applied_planned w.plan w.script c k has) in
    record {
      turn = answer.0;
      known = in_flat_map (turns_of w) (range_with_len 0 (length w.plan.changes)) c answer.0 (in_range 0 (length w.plan.changes) c (omega arith) (omega arith)) answer.1;
      of_change = answer.2;
      low = answer.3;
      high = answer.4;
      which = answer.5;
    }

-- ---- where all that a turn waits for is done it is ready

some_first : (first rest : Option LaneTime) → (first ≡ None → (at : LaneTime) × (rest ≡ Some at)) → (at : LaneTime) × (first_some first rest ≡ Some at)
some_first (Some a) rest h = (a, refl)
some_first None rest h = h refl

some_at : (w : Work) (taken : List StartedTurn) (one : StartedTurn) (name : Wait) (m : LaneTime) → Contains taken one → done_in w one name ≡ Some m → (at : LaneTime) × (done_at w taken name ≡ Some at)
some_at w [] one name m there is = absurd (not_in_none one there)
some_at w (x ∷ taken) one name m there is = some_first (done_in w x name) (done_at w taken name) (λ its. ⊎_elim
    (λ (same : x ≡ one). let both : done_in w one name ≡ None = sym (ap (λ (y : StartedTurn). done_in w y name) same) ∙ its in absurd cc)
    (λ (later : Contains taken one). some_at w taken one name m later is)
    (in_cases x taken one there))

both_some : (a b : Option LaneTime) (p q : LaneTime) → a ≡ Some p → b ≡ Some q → (at : LaneTime) × (later_if_both (option_map next_round a) b ≡ Some at)
both_some a b p q is is' =
    (later_of (next_round p) q, ap (λ x. later_if_both (option_map next_round x) b) is ∙ ap (later_if_both (Some (next_round p))) is')

ready_some : (w : Work) (taken : List StartedTurn) (names : List Wait) → ((name : Wait) → Contains names name → (at : LaneTime) × (done_at w taken name ≡ Some at))
    → (at : LaneTime) × (done_by w taken names ≡ Some at)
ready_some w taken [] h = (first_lane_time, refl)
ready_some w taken (name ∷ names) h =
    let here = h name (in_head name names) in
    let rest = ready_some w taken names (λ other there. h other (in_tail name names other there)) in
    both_some (done_at w taken name) (done_by w taken names) here.0 rest.0 here.1 rest.1

-- ---- tests

pub same_tests : (a b : Bool) → (a ≡ true → b ≡ true) → (b ≡ true → a ≡ true) → a ≡ b
same_tests true b p q = sym (p refl)
same_tests false true p q = q refl
same_tests false false p q = refl

module _ (w : Work) (n : ℕ) (taken : List StartedTurn) (events : List Event) (up : WereStarted w n taken) (line : IsInterleaving n (lane_turns w taken) events) where
  turns_ok : AreTurns w taken
  turns_ok = are_turns w n taken events up line

  pub has_yes : (e : Event) (name : Wait) → Contains events e → e.change ≡ name.change → e.step ≡ name.step → has_events events name ≡ true
  has_yes e name there change step =
      any_in (is_of_step name) events e there (ap (λ t. t && eqb e.step name.step) (eq-eqb e.change name.change change) ∙ eq-eqb e.step name.step step)

  pub has_is : (name : Wait) → has_events events name ≡ true → (e : Event) × Contains events e × (e.change ≡ name.change) × (e.step ≡ name.step)
  has_is name some =
      let one = in_any (is_of_step name) events some in
      let both = and_parts (eqb one.0.change name.change) (eqb one.0.step name.step) one.2 in
      (one.0, one.1, eq_from one.0.change name.change both.0, eq_from one.0.step name.step both.1)

  -- only steps that are applied have events
  pub only_applied : (name : Wait) → has_events events name ≡ true → IsApplied w.plan w.script name.change name.step
  only_applied name some =
      let e = has_is name some in
      let its = answer w n taken events line e.0 e.1 in
      let turn = its.one.turn in
      let s = its.of.step.0 in
      let high = (numbered_in 0 (steps_of w turn.change) s (steps_of-numbered w turn.change) (begun_of_change w turn s its.of.step.1)).1 in
      let size = length-steps_of w turn.change in
      let number : name.step ≡ s.number = sym e.3 ∙ its.of.step.2 in
      subst (λ c. IsApplied w.plan w.script c name.step) (sym its.of.change ∙ e.2) (let lt : IsApplied w.plan w.script turn.change name.step = omega arith in lt)

  -- whether a step of a turn goes on
  pub goes_at : (turn : Turn) (s : Step) (name : Wait) → Contains (begun_steps w turn) s → name.change ≡ turn.change → name.step ≡ s.number → goes_on_if_begun w name ≡ goes_on s
  goes_at turn s name there change step =
      ap (λ c. option_map_or goes_on (slice_get (steps_of w c) name.step) false) change
      ∙ ap (λ k. option_map_or goes_on (slice_get (steps_of w turn.change) k) false) step
      ∙ ap (λ answer. option_map_or goes_on answer false) (step_at_number w turn.change s (begun_of_change w turn s there))

  done_along : (one : StartedTurn) (s : Step) (name : Wait) → Contains taken one → Contains (begun_steps w one.turn) s → goes_on s ≡ true → name.change ≡ one.turn.change → name.step ≡ s.number
      → is_done_along w events name ≡ true
  done_along one s name there begins on change step =
      let e = turn_has w one s begins in
      and_from (has_events events name) (goes_on_if_begun w name)
      (has_yes e.0 name (emitted w n taken events line one e.0 up.in_lanes there e.1) (e.3 ∙ sym change) (e.2 ∙ sym step))
      (goes_at one.turn s name begins change step ∙ on)

  along_done : (name : Wait) → is_done_along w events name ≡ true → (one : StartedTurn) × Contains taken one × (m : LaneTime) × (done_in w one name ≡ Some m)
  along_done name is =
      let both = and_parts (has_events events name) (goes_on_if_begun w name) is in
      let e = has_is name both.0 in
      let its = answer w n taken events line e.0 e.1 in
      let s = its.of.step.0 in
      let change : name.change ≡ its.one.turn.change = sym e.2 ∙ its.of.change in
      let step : name.step ≡ s.number = sym e.3 ∙ its.of.step.2 in
      let done = done_then w its.one s name its.of.step.1 (sym (goes_at its.one.turn s name its.of.step.1 change step) ∙ both.1) change step in
      (its.one, its.there, done.0, done.1)

  -- ---- what has events waits for what is done

  waited_done : (one : StartedTurn) (name : Wait) → Contains taken one → Contains (waits_of_turn w one.turn) name → is_done_along w events name ≡ true
  waited_done one name there waits =
      let waited = is_waited_for w n taken one name up there waits in
      let done = done_in_turn w waited.other name waited.moment waited.done in
      done_along waited.other done.step.0 name waited.there done.step.1 done.step.3 (sym done.change) (sym done.step.2)

  module _ (few : HasFewSteps w) where
    all_done : (e : Event) (k : ℕ) (name : Wait) → (its : IsLocated w taken e) → IsTurnOf w its.one.turn.change its.one.turn → e.step ≡ k → Contains (waits_of w.script e.change k) name
        → is_done_along w events name ≡ true
    all_done e k name its (inr split) number waits =
        let count : its.one.turn.count ≡ 1 = single_count split.1 in
        let low = its.of.low in let high = its.of.high in
        let first : its.one.turn.first ≡ k = omega arith in
        waited_done its.one name its.there (subst (λ l. Contains l name) (sym (waits_are w its.one.turn e.change k (sym its.of.change) first (omega arith))) waits)
    all_done e zero name its (inl all) number waits =
        let first : its.one.turn.first ≡ 0 = ap (λ (t : Turn). t.first) all.1 in
        let high = its.of.high in
        waited_done its.one name its.there (subst (λ l. Contains l name) (sym (waits_are w its.one.turn e.change 0 (sym its.of.change) first (omega arith))) waits)
    all_done e (suc k) name its (inl all) number waits =
        let c = its.one.turn.change in
        let high = its.of.high in let count = ap (λ (t : Turn). t.count) all.1 in let first = ap (λ (t : Turn). t.first) all.1 in
        let most = few c in let applied = few_applied w.plan w.script c in
        let size : length (kinds_applied w.plan w.script c) ≡ 2 = omega arith in ⊎_elim
        (λ (here : record { change = e.change; step = k } ≡ name).
        let two = has_two w c (omega arith) (omega arith) in
        let s = its.of.step.0 in
        let second : s.number ≡ 1 = sym its.of.step.2 ∙ number ∙ omega arith in
        let earlier = second_after_first w c two s (subst (λ t. Contains (begun_steps w t) s) all.1 its.of.step.1) second in
        done_along its.one (step_of w c 0 two.first) name its.there (subst (λ t. Contains (begun_steps w t) (step_of w c 0 two.first)) (sym all.1) earlier.0) earlier.1
        (sym (ap (λ (x : Wait). x.change) here) ∙ its.of.change) (sym (ap (λ (x : Wait). x.step) here) ∙ omega arith))
        (λ (named_there : Contains (named w e.change (suc k)) name).
        let second : suc k ≡ 1 = omega arith in
        absurd (none_named (named w c 1) name (no_names w c size all.0)
        (subst (λ x. Contains (named w x 1) name) its.of.change (subst (λ j. Contains (named w e.change j) name) second named_there))))
        (in_cases (record { change = e.change; step = k }) (named w e.change (suc k)) name waits)

    only_where_done : (c k : ℕ) → has_events events (record { change = c; step = k }) ≡ true → list_all (is_done_along w events) (waits_of w.script c k) ≡ true
    only_where_done c k some =
        let e = has_is (record { change = c; step = k }) some in
        let its = answer w n taken events line e.0 e.1 in
        all_in (is_done_along w events) (waits_of w.script c k) (λ name waits.
        all_done e.0 k name its (known_turn w taken its.one turns_ok its.there) e.3 (subst (λ x. Contains (waits_of w.script x k) name) (sym e.2) waits))

    -- ---- what waits for what is done has events

    turn_begins : (c k : ℕ) (its : HasTurn w c k) → its.turn.first ≡ k → IsApplied w.plan w.script c k → list_all (is_done_along w events) (waits_of w.script c k) ≡ true → has_events events (record { change = c; step = k }) ≡ true
    turn_begins c k its first has done =
        let turn = its.turn in
        let high = its.high in
        let some : 0 < turn.count = omega arith in
        let waits : waits_of_turn w turn ≡ waits_of w.script c k = waits_are w turn c k its.of_change first some in
        let ready = ready_some w taken (waits_of_turn w turn) (λ name there.
        let answer = along_done name (in_all (is_done_along w events) (waits_of w.script c k) name done (subst (λ l. Contains l name) waits there)) in
        some_at w taken answer.0 name answer.2 answer.1 answer.3) in
        let is : is_started taken turn ≡ true = ⊎_elim
        (λ (yes : is_started taken turn ≡ true). yes)
        (λ (no : is_started taken turn ≡ false).
        let never : ready_at w taken turn ≡ None = all_at (λ t. is_started taken t ≡ false → ready_at w taken t ≡ None) (turns w) turn up.left_out its.known no in
        let both : None ≡ Some ready.0 = sym never ∙ ready.1 in absurd cc)
        (cases_Bool (is_started taken turn)) in
        let one = in_list w taken turn turns_ok its.known is in
        let s = first_begins w turn some (subst (λ x. turn.first < length (kinds_applied w.plan w.script x)) (sym its.of_change) (let lt : k < length (kinds_applied w.plan w.script c) = has in omega arith)) in
        let e = turn_has w one.0 s.0 (subst (λ t. Contains (begun_steps w t) s.0) (sym one.2) s.1) in
        has_yes e.0 (record { change = c; step = k }) (emitted w n taken events line one.0 e.0 up.in_lanes one.1 e.1)
        (e.3 ∙ ap (λ (t : Turn). t.change) one.2 ∙ its.of_change) (e.2 ∙ s.2 ∙ first)

    where_done : (c k : ℕ) (its : HasTurn w c k) → IsTurnOf w c its.turn → IsApplied w.plan w.script c k → list_all (is_done_along w events) (waits_of w.script c k) ≡ true
        → has_events events (record { change = c; step = k }) ≡ true
    where_done c k its (inr split) has done =
        let count = single_count split.1 in let low = its.low in let high = its.high in
        turn_begins c k its (omega arith) has done
    where_done c zero its (inl all) has done = turn_begins c 0 its (ap (λ (t : Turn). t.first) all.1) has done
    where_done c (suc k) its (inl all) has done =
        let most = few c in let applied = few_applied w.plan w.script c in
        let two = has_two w c (omega arith) (omega arith) in
        let before : Wait = record { change = c; step = k } in
        let is : is_done_along w events before ≡ true = in_all (is_done_along w events) (waits_of w.script c (suc k)) before done (in_head before (named w c (suc k))) in
        let both = and_parts (has_events events before) (goes_on_if_begun w before) is in
        let e = has_is before both.0 in
        let of = answer w n taken events line e.0 e.1 in
        let none : k ≡ 0 = omega arith in
        let on : goes_on (step_of w c 0 two.first) ≡ true =
        sym (ap (λ kinds. option_map_or goes_on (slice_get (map (λ p. step_of w c p.0 p.1) (enumerate_from 0 kinds)) 0) false) two.are)
        ∙ ap (λ j. option_map_or goes_on (slice_get (steps_of w c) j) false) (sym none) ∙ both.1 in
        let same : of.one.turn.change ≡ c = sym of.of.change ∙ e.2 in
        let turn : of.one.turn ≡ whole w c = whole_is c of.one.turn all.0 (subst (λ x. IsTurnOf w x of.one.turn) same (known_turn w taken of.one turns_ok of.there)) in
        let next = turn_has w of.one (step_of w c 1 two.second) (subst (λ t. Contains (begun_steps w t) (step_of w c 1 two.second)) (sym turn) (second_begins w c two on)) in
        has_yes next.0 (record { change = c; step = suc k }) (emitted w n taken events line of.one next.0 up.in_lanes of.there next.1)
        (next.3 ∙ same) (next.2 ∙ omega arith)
      where
        whole_is : (c : ℕ) (turn : Turn) → is_split w c ≡ false → IsTurnOf w c turn → turn ≡ whole w c
        whole_is c turn unsplit (inl one) = one.1
        whole_is c turn unsplit (inr two) = absurd (true≢false (sym two.0 ∙ unsplit))

    pub begin_where_all_is_done : BeginWhereAllIsDone w events
    begin_where_all_is_done c k has =
        let its = has_turn w c k has in
        same_tests (has_events events (record { change = c; step = k })) (list_all (is_done_along w events) (waits_of w.script c k))
        (only_where_done c k) (where_done c k its its.which has)

-- A step is done no sooner than a chain of waits that ends with it takes.
use Rattle.std.proofs.Common.{◌≡◌, ◌≢◌, ℕ, zero, suc, ◌+◌, ◌<◌, ◌≤◌, true, List, [], ◌∷◌, Some, None, cond, length, slice_get, map, refl, sym, ap, ◌∙◌, subst, ⊎_elim, inl, inr, arith, eq-eqb}
use Rattle.std.specs.List.{Contains, enumerate_from}
use Rattle.std.proofs.lemmas.Bool.{cases_eq}
use Rattle.apply_model.specs.declared.plan.step_kind.StepKind.{StepKind}
use Rattle.apply_model.specs.declared.script.wait.Wait.{Wait}
use Rattle.apply_model.specs.Script.Waits.{waits_of}
use Rattle.apply_events.specs.declared.lanes.lane_time.LaneTime.{LaneTime}
use Rattle.apply_events.specs.declared.lanes.turn.StartedTurn.{StartedTurn}
use Rattle.apply_events.specs.declared.lanes.turn.Turn.{Turn}
use Rattle.apply_events.specs.ChangeEvents.{begun}
use Rattle.apply_events.specs.Step.{Step, Work, kinds_applied, step_of, steps_of}
use Rattle.apply_events.specs.StepEvents.{goes_on, step_time}
use Rattle.apply_events.specs.Waits.Done.{done_among, done_at, done_in}
use Rattle.apply_events.specs.Waits.LaneTime.{later_by}
use Rattle.apply_events.specs.Waits.StartedTurns.{WereStarted}
use Rattle.apply_events.specs.Waits.Turn.{begun_steps}
use Rattle.apply_events.proofs.AppliedSteps.{few_applied}
use Rattle.apply_events.proofs.StepNumbers.{AreNumbered}
use Rattle.apply_events.proofs.Waits.Members.{in_cases, not_in_none}
use Rattle.apply_events.proofs.Waits.Moments.{later_by_second}
use Rattle.apply_events.proofs.Waits.Once.{AreTurns, IsTurnOf, known_turn}
use Rattle.apply_events.proofs.Waits.TurnEvents.{done_first, done_if, done_later, done_in_turn}
use Rattle.apply_events.proofs.Waits.TurnSteps.{begun_numbered, begun_of_change, begun_within, has_two, numbered_in, second_after_first, step_at_number, two_begin}
use Rattle.laws_run.specs.WaitingSteps.{HasFewSteps, TakesAsLong}
use Rattle.laws_run.specs.WaitingSteps.TakesAsLong.{alone, after_wait}
use Rattle.laws_run.proofs.AfterWaits.{IsWaitedFor, done_located, is_waited_for, no_names, none_named, single_count, waits_are}
use Rattle.laws_run.proofs.Named.{named}

-- of steps one after another, each is done no sooner than its own time after their start
among_late : (k n : ℕ) (at : LaneTime) (steps : List Step) (s : Step) (m : LaneTime) → AreNumbered n steps → Contains steps s → s.number ≡ k → done_among k at steps ≡ Some m → at.second + step_time s ≤ m.second
among_late k n at [] s m numbered there number is = absurd (not_in_none s there)
among_late k n at (x ∷ steps) s m numbered there number is = ⊎_elim
    (λ (same : x ≡ s).
    let here : x.number ≡ k = ap (λ (y : Step). y.number) same ∙ number in
    let ends = done_if (goes_on x) (later_by (step_time x) at) m (sym (done_first k at x steps here) ∙ is) in
    let second : (later_by (step_time x) at).second ≡ m.second = ap (λ (y : LaneTime). y.second) ends.1 in
    let by = later_by_second at (step_time x) in
    let time : step_time x ≡ step_time s = ap step_time same in omega arith)
    (λ (later : Contains steps s).
    let first = numbered.0 in
    let low = (numbered_in (n + 1) steps s numbered.1 later).0 in
    let rest = among_late k (n + 1) (later_by (step_time x) at) steps s m numbered.1 later number (sym (done_later k at x steps (λ (e : x.number ≡ k). omega arith)) ∙ is) in
    let by = later_by_second at (step_time x) in omega arith)
    (in_cases x steps s there)

module _ (w : Work) (n : ℕ) (taken : List StartedTurn) (up : WereStarted w n taken) (few : HasFewSteps w) where
  are_turns : AreTurns w taken
  are_turns = record { known = up.known; once = up.once }

  -- the step of a turn is the one of its number
  pub step_is : (one : StartedTurn) (name : Wait) (s step : Step) → one.turn.change ≡ name.change → Contains (begun_steps w one.turn) s → s.number ≡ name.step → slice_get (steps_of w name.change) name.step ≡ Some step → s ≡ step
  step_is one name s step change there number is =
      let located : slice_get (steps_of w one.turn.change) s.number ≡ Some s = step_at_number w one.turn.change s (begun_of_change w one.turn s there) in
      let here : slice_get (steps_of w name.change) name.step ≡ Some s = sym (ap (λ c. slice_get (steps_of w c) name.step) change) ∙ sym (ap (λ k. slice_get (steps_of w one.turn.change) k) number) ∙ located in
      cc

  -- what the first step of a turn waits for is done by its begin
  pub waited : (one : StartedTurn) (name other : Wait) → Contains taken one → one.turn.change ≡ name.change → one.turn.first ≡ name.step → 0 < one.turn.count → Contains (waits_of w.script name.change name.step) other → IsWaitedFor w taken one other
  waited one name other there change first some waits =
      is_waited_for w n taken one other up there (subst (λ l. Contains l other) (sym (waits_are w one.turn name.change name.step change first some)) waits)

  -- the second step of a change of one turn waits for the first, which is done in that turn as the
  -- second begins
  pub second_is : (one : StartedTurn) (name other : Wait) (s : Step) → Contains taken one → one.turn.change ≡ name.change → one.turn.first ≢ name.step → Contains (begun_steps w one.turn) s → s.number ≡ name.step
      → Contains (waits_of w.script name.change name.step) other
      → (first : Step) × (rest : List Step) × (begun_steps w one.turn ≡ first ∷ s ∷ rest) × (first.number ≢ name.step) × (done_in w one other ≡ Some (later_by (step_time first) one.begin))
  second_is one name other s there change apart inside number waits = of_turn (known_turn w taken one are_turns there)
    where
      c : ℕ
      c = one.turn.change

      of_turn : IsTurnOf w one.turn.change one.turn → (first : Step) × (rest : List Step) × (begun_steps w one.turn ≡ first ∷ s ∷ rest) × (first.number ≢ name.step) × (done_in w one other ≡ Some (later_by (step_time first) one.begin))
      of_turn (inr split) =
          let count : one.turn.count ≡ 1 = single_count split.1 in
          let within = begun_within w one.turn s inside in
          absurd (apart (let low = within.0 in let high = within.1 in omega arith))
      of_turn (inl all) =
          let within = begun_within w one.turn s inside in
          let low = within.0 in
          let high = within.1 in
          let first : one.turn.first ≡ 0 = ap (λ (t : Turn). t.first) all.1 in
          let count : one.turn.count ≡ length (kinds_applied w.plan w.script one.turn.change) = ap (λ (t : Turn). t.count) all.1 in
          let most = few one.turn.change in let applied = few_applied w.plan w.script one.turn.change in
          let second : name.step ≡ 1 = one_left name.step (λ (e : name.step ≡ 0). apart (first ∙ sym e)) (omega arith) in
          let size : length (kinds_applied w.plan w.script one.turn.change) ≡ 2 = omega arith in
          let two = has_two w one.turn.change (omega arith) (omega arith) in
          let a = step_of w one.turn.change 0 two.first in
          let b = step_of w one.turn.change 1 two.second in
          let rest = cond (goes_on b) [] [] in
          let on : goes_on a ≡ true = (second_after_first w one.turn.change two s (subst (λ t. Contains (begun_steps w t) s) all.1 inside) (number ∙ second)).1 in
          let steps : begun_steps w one.turn ≡ a ∷ b ∷ rest = ap (begun_steps w) all.1 ∙ two_begin w one.turn.change two ∙ ap (λ t. a ∷ cond t (begun (b ∷ [])) []) on in
          let here : slice_get (steps_of w one.turn.change) 1 ≡ Some s =
          ap (λ k. slice_get (steps_of w one.turn.change) k) (sym (number ∙ second)) ∙ step_at_number w one.turn.change s (begun_of_change w one.turn s inside) in
          let there_too : slice_get (steps_of w one.turn.change) 1 ≡ Some b =
          ap (λ (kinds : List StepKind). slice_get (map (λ (p : ℕ × StepKind). step_of w one.turn.change p.0 p.1) (enumerate_from 0 kinds)) 1) two.are in
          let same : s ≡ b = cc in
          let waits_there : Contains (waits_of w.script one.turn.change 1) other = subst (λ x. Contains (waits_of w.script x 1) other) (sym change) (subst (λ k. Contains (waits_of w.script name.change k) other) second waits) in
          let is_first : record { change = one.turn.change; step = 0 } ≡ other = ⊎_elim
          (λ (same_wait : record { change = one.turn.change; step = 0 } ≡ other). same_wait)
          (λ (named_there : Contains (named w one.turn.change 1) other). absurd (none_named (named w one.turn.change 1) other (no_names w one.turn.change size all.0) named_there))
          (in_cases (record { change = one.turn.change; step = 0 }) (named w one.turn.change 1) other waits_there) in
          let ends = later_by (step_time a) one.begin in
          let among : done_among 0 one.begin (begun_steps w one.turn) ≡ Some ends =
          ap (done_among 0 one.begin) steps ∙ done_first 0 one.begin a (b ∷ rest) refl ∙ ap (λ t. cond t (Some ends) None) on in
          let in_one : done_in w one (record { change = one.turn.change; step = 0 }) ≡ Some ends =
          ap (λ t. cond t (done_among 0 one.begin (begun_steps w one.turn)) None) (eq-eqb one.turn.change one.turn.change refl) ∙ among in
          (a, rest, steps ∙ ap (λ y. a ∷ y ∷ rest) (sym same), zero_apart name.step second, subst (λ (x : Wait). done_in w one x ≡ Some ends) is_first in_one)
        where
          one_left : (k : ℕ) → k ≢ 0 → k < 2 → k ≡ 1
          one_left zero some lt = absurd (some refl)
          one_left (suc k) some lt = omega arith

          zero_apart : (k : ℕ) → k ≡ 1 → 0 ≢ k
          zero_apart k is e = omega arith

  pub late : (name : Wait) (seconds : ℕ) → TakesAsLong w name seconds → (one : StartedTurn) (m : LaneTime) → Contains taken one → done_in w one name ≡ Some m → seconds ≤ m.second
  late name seconds (alone nm step is) one m there done =
      let its = done_in_turn w one name m done in
      let s = its.step.0 in
      let same : s ≡ step = step_is one name s step its.change its.step.1 its.step.2 is in
      let own = among_late name.step one.turn.first one.begin (begun_steps w one.turn) s m (begun_numbered w one.turn) its.step.1 its.step.2 its.among in
      let time : step_time s ≡ step_time step = ap step_time same in omega arith
  late name seconds (after_wait nm other step before is waits chain) one m there done =
      let its = done_in_turn w one name m done in
      let s = its.step.0 in
      let same : s ≡ step = step_is one name s step its.change its.step.1 its.step.2 is in
      let own = among_late name.step one.turn.first one.begin (begun_steps w one.turn) s m (begun_numbered w one.turn) its.step.1 its.step.2 its.among in
      let time : step_time s ≡ step_time step = ap step_time same in
      let within = begun_within w one.turn s its.step.1 in
      let number = its.step.2 in
      ⊎_elim
      (λ (first : one.turn.first ≡ name.step).
      let done_before = waited one name other there its.change first (omega arith) waits in
      let early = late other before chain done_before.other done_before.moment done_before.there done_before.done in
      let begins = done_before.before.0 in omega arith)
      (λ (later : one.turn.first ≢ name.step).
      let located = second_is one name other s there its.change later its.step.1 number waits in
      let first = located.0 in
      let then = later_by (step_time first) one.begin in
      let early = late other before chain one then there located.4 in
      let among : done_among name.step then (s ∷ located.1) ≡ Some m =
      sym (done_later name.step one.begin first (s ∷ located.1) located.3) ∙ sym (ap (done_among name.step one.begin) located.2) ∙ its.among in
      let ends = done_if (goes_on s) (later_by (step_time s) then) m (sym (done_first name.step then s located.1 number) ∙ among) in
      let second : (later_by (step_time s) then).second ≡ m.second = ap (λ (y : LaneTime). y.second) ends.1 in
      let by = later_by_second then (step_time s) in omega arith)
      (cases_eq one.turn.first name.step)

pub no_sooner : (w : Work) (n : ℕ) (taken : List StartedTurn) → WereStarted w n taken → HasFewSteps w → (name : Wait) (m : LaneTime) (seconds : ℕ) → done_at w taken name ≡ Some m → TakesAsLong w name seconds → seconds ≤ m.second
no_sooner w n taken up few name m seconds done chain =
    let one = done_located w taken name m done in late w n taken up few name seconds chain one.0 m one.1 one.2

-- A step that begins has an event no sooner than a chain of waits that ends with it takes.
use Rattle.std.proofs.Common.{◌≡◌, ℕ, ◌+◌, ◌≤◌, Bool, List, [], ◌∷◌, ◌++◌, cond, map, Option, Some, None, true, false, sym, ap, ◌∙◌, subst, ⊎_elim, arith}
use Rattle.std.specs.Prelude.{is_some, option_map, option_to_list}
use Rattle.std.specs.List.{Contains}
use Rattle.std.proofs.lemmas.Bool.{cases_eq}
use Rattle.std.proofs.lemmas.List.Elements.{Contains-append_left, Contains-append_right}
use Rattle.apply_hooks.specs.declared.phase.Phase.TheVariants.{Pre}
use Rattle.apply_model.specs.declared.script.wait.Wait.{Wait}
use Rattle.apply_events.specs.declared.event.Event.{Event}
use Rattle.apply_events.specs.declared.lanes.turn.StartedTurn.{StartedTurn}
use Rattle.apply_events.specs.declared.what.What.{What}
use Rattle.apply_events.specs.declared.what.What.TheVariants.{Halted, Start, WarnNote}
use Rattle.apply_events.specs.ChangeEvents.{in_turn}
use Rattle.apply_events.specs.Interleaving.{IsInterleaving}
use Rattle.apply_events.specs.Step.{Step, Work}
use Rattle.apply_events.specs.StepEvents.{between, end_of, endings, event, halts, notes, phase_after, seconds_of, start_events, step_events, step_time, emits_end}
use Rattle.apply_events.specs.Waits.LaneTime.{later_by}
use Rattle.apply_events.specs.Waits.StartedTurns.{WereStarted}
use Rattle.apply_events.specs.Waits.TimeLine.{lane_turns, turn_events}
use Rattle.apply_events.specs.Waits.Turn.{begun_steps}
use Rattle.apply_events.proofs.Waits.Located.{answer, emitted}
use Rattle.apply_events.proofs.Waits.Members.{in_cases, in_head, in_tail, not_in_none}
use Rattle.apply_events.proofs.Waits.Moments.{later_by_second}
use Rattle.apply_events.proofs.Waits.TurnEvents.{of_step}
use Rattle.apply_events.proofs.Waits.TurnSteps.{begun_of_change, begun_within, step_names_change}
use Rattle.laws_run.specs.WaitingSteps.{HasFewSteps, TakesAsLong, has_events, is_of_step}
use Rattle.laws_run.specs.WaitingSteps.TakesAsLong.{alone, after_wait}
use Rattle.laws_run.proofs.Chains.{late, second_is, step_is, waited}
use Rattle.laws_run.proofs.LeftOut.{has_is}
use Rattle.laws_run.proofs.WholeSteps.{name_of}

-- ---- the last event of a step

-- the first event at the end of a step
ending_located : (lane : ℕ) (s : Step) (at : ℕ) (emitted : Bool) (end : What) (others : List What)
    → (e : Event) × Contains (map (λ what. event lane s at what) (cond emitted (end ∷ others) (WarnNote ∷ []))) e × (at ≤ e.at)
ending_located lane s at true end others = (event lane s at end, in_head (event lane s at end) (map (λ what. event lane s at what) others), omega arith)
ending_located lane s at false end others = (event lane s at WarnNote, in_head (event lane s at WarnNote) [], omega arith)

last_located : (lane : ℕ) (s : Step) (at : ℕ) (answer : Option ℕ)
    → (e : Event) × Contains (cond (is_some answer) (option_to_list (option_map (λ hook. event lane s at (Halted Pre hook)) answer)) (start_events lane s at)) e
    × (at + cond (is_some answer) 0 (seconds_of s) ≤ e.at)
last_located lane s at None =
    let beats = map (λ (p : ℕ × What). event lane s (at + p.0) p.1) (between s) in
    let ends = map (λ what. event lane s (at + seconds_of s) what) (endings s) in
    let answer = ending_located lane s (at + seconds_of s) (emits_end s.fails s.only_warns) (end_of s.fails (seconds_of s)) (notes s.fails s.warns) in
    let e = answer.0 in
    let last = halts lane s (phase_after s.fails) (at + seconds_of s) in (
      e,
      in_tail (event lane s at Start) ((beats ++ ends) ++ last) e (Contains-append_left (beats ++ ends) last e (Contains-append_right beats ends e answer.1)),
      answer.2,
    )
last_located lane s at (Some hook) = (event lane s at (Halted Pre hook), in_head (event lane s at (Halted Pre hook)) [], omega arith)

-- a step of some that follow one another has an event that comes so much later
record HasLast (lane : ℕ) (steps : List Step) (at : ℕ) (s : Step) (more : ℕ) : Type 0 where
  last : Event
  there : Contains (in_turn (step_events lane) step_time steps at) last
  step : last.step ≡ s.number
  change : last.change ≡ s.change
  until : at + more ≤ last.at

after_first : (lane : ℕ) (a : Step) (steps : List Step) (at : ℕ) (s : Step) (more : ℕ) → HasLast lane steps (at + step_time a) s more → HasLast lane (a ∷ steps) at s (step_time a + more)
after_first lane a steps at s more h =
    let until = h.until in
    record {
      last = h.last;
      there = Contains-append_right (step_events lane a at) (in_turn (step_events lane) step_time steps (at + step_time a)) h.last h.there;
      step = h.step;
      change = h.change;
      until = omega arith;
    }

first_of_some : (lane : ℕ) (s : Step) (steps : List Step) (at : ℕ) → HasLast lane (s ∷ steps) at s (step_time s)
first_of_some lane s steps at =
    let answer = last_located lane s at (s.halts Pre) in
    let of = of_step lane s at answer.0 answer.1 in
    record {
      last = answer.0;
      there = Contains-append_left (step_events lane s at) (in_turn (step_events lane) step_time steps (at + step_time s)) answer.0 answer.1;
      step = of.step;
      change = of.change;
      until = answer.2;
    }

last_of : (lane : ℕ) (steps : List Step) (at : ℕ) (s : Step) → Contains steps s → HasLast lane steps at s (step_time s)
last_of lane [] at s h = absurd (not_in_none s h)
last_of lane (x ∷ steps) at s h = ⊎_elim
    (λ (is : x ≡ s). subst (λ y. HasLast lane (x ∷ steps) at y (step_time y)) is (first_of_some lane x steps at))
    (λ (later : Contains steps s).
    let rest = after_first lane x steps at s (step_time s) (last_of lane steps (at + step_time x) s later) in
    let until = rest.until in
    record { last = rest.last; there = rest.there; step = rest.step; change = rest.change; until = omega arith })
    (in_cases x steps s h)

-- ---- after a chain of waits

module _ (w : Work) (n : ℕ) (taken : List StartedTurn) (events : List Event) (up : WereStarted w n taken) (few : HasFewSteps w) (line : IsInterleaving n (lane_turns w taken) events) where
  abbrev EndsLate : Wait → ℕ → StartedTurn → Type 0
  EndsLate name seconds one = (e : Event) × Contains (turn_events w one) e × (e.change ≡ name.change) × (e.step ≡ name.step) × (seconds ≤ e.at)

  ends : (name : Wait) (seconds more : ℕ) (one : StartedTurn) (s : Step) → one.turn.change ≡ name.change → Contains (begun_steps w one.turn) s → s.number ≡ name.step
      → HasLast one.lane (begun_steps w one.turn) one.begin.second s more → seconds ≤ one.begin.second + more → EndsLate name seconds one
  ends name seconds more one s change inside number h enough =
      let until = h.until in
      (h.last, h.there, h.change ∙ step_names_change w one.turn.change s (begun_of_change w one.turn s inside) ∙ change, h.step ∙ number, omega arith)

  of_chain : (name : Wait) (seconds : ℕ) → TakesAsLong w name seconds → (one : StartedTurn) (s : Step) → Contains taken one → one.turn.change ≡ name.change → Contains (begun_steps w one.turn) s → s.number ≡ name.step
      → EndsLate name seconds one
  of_chain name seconds (alone nm step is) one s there change inside number =
      let time : step_time s ≡ step_time step = ap step_time (step_is w n taken up few one name s step change inside number is) in
      ends name seconds (step_time s) one s change inside number (last_of one.lane (begun_steps w one.turn) one.begin.second s inside) (omega arith)
  of_chain name seconds (after_wait nm other step before is waits chain) one s there change inside number =
      let time : step_time s ≡ step_time step = ap step_time (step_is w n taken up few one name s step change inside number is) in
      let within = begun_within w one.turn s inside in
      ⊎_elim
      (λ (first : one.turn.first ≡ name.step).
      let low = within.0 in
      let high = within.1 in
      let done = waited w n taken up few one name other there change first (omega arith) waits in
      let early = late w n taken up few other before chain done.other done.moment done.there done.done in
      let begins = done.before.0 in
      ends name seconds (step_time s) one s change inside number (last_of one.lane (begun_steps w one.turn) one.begin.second s inside) (omega arith))
      (λ (later : one.turn.first ≡ name.step → ⊥).
      let answer = second_is w n taken up few one name other s there change later inside number waits in
      let first = answer.0 in
      let early = late w n taken up few other before chain one (later_by (step_time first) one.begin) there answer.4 in
      let by = later_by_second one.begin (step_time first) in
      let last = after_first one.lane first (s ∷ answer.1) one.begin.second s (step_time s) (first_of_some one.lane s answer.1 (one.begin.second + step_time first)) in
      ends name seconds (step_time first + step_time s) one s change inside number
      (subst (λ l. HasLast one.lane l one.begin.second s (step_time first + step_time s)) (sym answer.2) last) (omega arith))
      (cases_eq one.turn.first name.step)

  pub ends_late : (name : Wait) (seconds : ℕ) → has_events events name ≡ true → TakesAsLong w name seconds
      → (e : Event) × Contains events e × (is_of_step name e ≡ true) × (seconds ≤ e.at)
  ends_late name seconds some chain =
      let e = has_is w n taken events up line name some in
      let its = answer w n taken events line e.0 e.1 in
      let s = its.of.step.0 in
      let last = of_chain name seconds chain its.one s its.there (sym its.of.change ∙ e.2) its.of.step.1 (sym its.of.step.2 ∙ e.3) in
      (last.0, emitted w n taken events line its.one last.0 up.in_lanes its.there last.1, name_of name last.0 last.2 last.3, last.4)

-- The steps that begin are those with events, and a step that is done has begun and has not failed.
use Rattle.std.proofs.Common.{◌≡◌, ℕ, zero, suc, ◌+◌, ◌<◌, Bool, true, false, ◌&&◌, not, List, [], ◌∷◌, Option, Some, None, map, refl, sym, ap, ◌∙◌, subst, ⊎_elim, arith, eqb, eq-eqb}
use Rattle.std.specs.Prelude.{is_none, slice_get}
use Rattle.std.specs.List.{Contains, enumerate_from, list_any}
use Rattle.std.proofs.lemmas.Bool.{and_from, and_parts, cases_Bool, true≢false}
use Rattle.apply_model.specs.declared.plan.step_kind.StepKind.{StepKind}
use Rattle.apply_model.specs.declared.script.wait.Wait.{Wait}
use Rattle.apply_model.specs.Script.Outcome.{fails}
use Rattle.apply_model.specs.Script.OutcomeMap.{outcome_of}
use Rattle.apply_hooks.specs.declared.phase.Phase.TheVariants.{PostDone, Pre}
use Rattle.apply_events.specs.Step.{Step, Work, kinds_applied, step_of, steps_of}
use Rattle.apply_events.specs.declared.event.Event.{Event}
use Rattle.apply_events.specs.declared.lanes.lane_time.LaneTime.{LaneTime}
use Rattle.apply_events.specs.Waits.Done.{done_at}
use Rattle.apply_events.specs.Waits.Schedule.{schedule}
use Rattle.apply_events.specs.Waits.TimeLine.{IsTimeLine}
use Rattle.apply_events.proofs.Waits.DoneBefore.{done_in_one}
use Rattle.apply_events.proofs.Waits.Located.{answer, emitted}
use Rattle.apply_events.proofs.Waits.Members.{any_in, in_any}
use Rattle.apply_events.proofs.Waits.StartedTurns.{were_started}
use Rattle.apply_events.proofs.Waits.TurnEvents.{done_in_turn, turn_has}
use Rattle.apply_events.proofs.Waits.TurnSteps.{begun_of_change, step_at_number}
use Rattle.laws_lanes.specs.Alike.{is_begun}
use Rattle.laws_lanes.proofs.Chosen.{from_test}
use Rattle.laws_lanes.proofs.TurnsAlike.{begun_if, when_begun}

-- ---- events

module _ (w : Work) (n : ℕ) (some : 0 < n) (events : List Event) (line : IsTimeLine w n events) (c k : ℕ) where
  abbrev of_step : Event → Bool
  of_step event = eqb event.change c && eqb event.step k

  events_if_begun : is_begun w (schedule w n) c k ≡ true → list_any of_step events ≡ true
  events_if_begun is =
      let its = when_begun w (schedule w n) c k is in
      let one = its.one in
      let has = turn_has w one its.step its.among in
      let there = emitted w n (schedule w n) events line.interleaved one has.0 (were_started w n some).in_lanes its.there has.1 in
      any_in of_step events has.0 there
      (and_from (eqb has.0.change c) (eqb has.0.step k) (eq-eqb has.0.change c (has.3 ∙ its.change)) (eq-eqb has.0.step k (has.2 ∙ its.number)))

  begun_if_events : list_any of_step events ≡ true → is_begun w (schedule w n) c k ≡ true
  begun_if_events is =
      let its = in_any of_step events is in
      let both = and_parts (eqb its.0.change c) (eqb its.0.step k) its.2 in
      let located = answer w n (schedule w n) events line.interleaved its.0 its.1 in
      let step = located.of.step in
      begun_if w (schedule w n) c k located.one step.0 located.there (sym located.of.change ∙ from_test its.0.change c both.0) step.1
      (sym step.2 ∙ from_test its.0.step k both.1)

  pub begun_is : is_begun w (schedule w n) c k ≡ list_any of_step events
  begun_is = ⊎_elim
      (λ (is : is_begun w (schedule w n) c k ≡ true). is ∙ sym (events_if_begun is))
      (λ (never : is_begun w (schedule w n) c k ≡ false). never ∙ ⊎_elim
      (λ (some : list_any of_step events ≡ true). absurd (true≢false (sym (begun_if_events some) ∙ never)))
      (λ (none : list_any of_step events ≡ false). sym none)
      (cases_Bool (list_any of_step events)))
      (cases_Bool (is_begun w (schedule w n) c k))

-- ---- steps that are done

fails_at : (w : Work) (c from k : ℕ) (kinds : List StepKind) (s : Step) → slice_get (map (λ p. step_of w c p.0 p.1) (enumerate_from from kinds)) k ≡ Some s → s.fails ≡ fails (outcome_of w.script c (from + k))
fails_at w c from zero [] s is = absurd cc
fails_at w c from (suc k) [] s is = absurd cc
fails_at w c from zero (kind ∷ kinds) s is =
    let same : step_of w c from kind ≡ s = cc in
    let place : from ≡ from + zero = omega arith in
    sym (ap (λ (x : Step). x.fails) same) ∙ ap (λ j. fails (outcome_of w.script c j)) place
fails_at w c from (suc k) (kind ∷ kinds) s is =
    let place : from + 1 + k ≡ from + suc k = omega arith in
    fails_at w c (from + 1) k kinds s is ∙ ap (λ j. fails (outcome_of w.script c j)) place

no_failure : (pre post : Bool) (failing : Bool) → (pre && not failing && post) ≡ true → failing ≡ false
no_failure pre post false is = refl
no_failure true post true is = absurd cc
no_failure false post true is = absurd cc

pub record IsDone (w : Work) (n c k : ℕ) : Type 0 where
  pub begins : is_begun w (schedule w n) c k ≡ true
  pub has_not_failed : fails (outcome_of w.script c k) ≡ false

pub when_done : (w : Work) (n c k : ℕ) (m : LaneTime) → done_at w (schedule w n) (record { change = c; step = k }) ≡ Some m → IsDone w n c k
when_done w n c k m is =
    let name : Wait = record { change = c; step = k } in
    let one = done_in_one w (schedule w n) name m is in
    let its = done_in_turn w one.0 name m one.2 in
    let s = its.step.0 in
    let inside : Contains (steps_of w c) s = subst (λ x. Contains (steps_of w x) s) its.change (begun_of_change w one.0.turn s its.step.1) in
    let at : slice_get (steps_of w c) k ≡ Some s = ap (slice_get (steps_of w c)) (sym its.step.2) ∙ step_at_number w c s inside in
    let place : 0 + k ≡ k = omega arith in
    record {
      begins = begun_if w (schedule w n) c k one.0 s one.1 its.change its.step.1 its.step.2;
      has_not_failed = ap (λ j. fails (outcome_of w.script c j)) (sym place) ∙ sym (fails_at w c 0 k (kinds_applied w.plan w.script c) s at)
          ∙ no_failure (is_none (s.halts Pre)) (is_none (s.halts PostDone)) s.fails its.step.3;
    }

pub never_done : (w : Work) (n c k : ℕ) → (IsDone w n c k → ⊥) → done_at w (schedule w n) (record { change = c; step = k }) ≡ None
never_done w n c k never = by_answer (done_at w (schedule w n) (record { change = c; step = k })) refl
  where
    by_answer : (answer : Option LaneTime) → done_at w (schedule w n) (record { change = c; step = k }) ≡ answer → answer ≡ None
    by_answer None is = refl
    by_answer (Some m) is = absurd (never (when_done w n c k m is))

-- Each event of a time line is of a step that begins.
use Rattle.std.proofs.Common.{◌≡◌, ℕ, ◌<◌, All, true, ◌&&◌, eqb, List, [], get_or, length, Some, eq-eqb, sym, ap, ◌∙◌, subst, arith}
use Rattle.std.specs.Prelude.{slice_get}
use Rattle.std.specs.List.{Contains, list_any}
use Rattle.std.proofs.lemmas.List.Elements.{All-contains_itself, All-weaker}
use Rattle.std.proofs.lemmas.Option.{slice_get-get_or}
use Rattle.apply_model.specs.declared.plan.step_kind.StepKind.{StepKind}
use Rattle.apply_model.specs.declared.plan.step_kind.StepKind.TheVariants.{Create}
use Rattle.apply_events.specs.declared.event.Event.{Event}
use Rattle.apply_events.specs.declared.lanes.turn.StartedTurn.{StartedTurn}
use Rattle.apply_events.specs.Step.{Work, kinds_of, steps_of}
use Rattle.apply_events.specs.Waits.Schedule.{schedule}
use Rattle.apply_events.specs.Waits.TimeLine.{IsTimeLine, turn_events}
use Rattle.apply_events.specs.Waits.Turn.{begun_steps}
use Rattle.apply_events.proofs.AppliedSteps.{few_applied}
use Rattle.apply_events.proofs.StepNumbers.{steps_of-numbered}
use Rattle.apply_events.proofs.Waits.Located.{IsLocated, answer}
use Rattle.apply_events.proofs.Waits.Members.{any_in}
use Rattle.apply_events.proofs.Waits.TurnSteps.{all_at, begun_of_change, length-steps_of, numbered_in}
use Rattle.laws_texts.specs.Alike.{IsOfOutcome}
use Rattle.laws_lanes.specs.Alike.{is_begun}
use Rattle.laws_texts.proofs.EventsOfSteps.{steps_are}
use Rattle.laws_texts.proofs.NotesOfSteps.{begun_have_outcomes}

module _ (work : Work) (n : ℕ) (events : List Event) (line : IsTimeLine work n events) where
  located : (e : Event) → Contains events e → IsLocated work (schedule work n) e
  located e there = answer work n (schedule work n) events line.interleaved e there

  pub begins : (e : Event) → Contains events e → is_begun work (schedule work n) e.change e.step ≡ true
  begins e there =
      let its = located e there in
      let s = its.of.step in
      let step = any_in (λ step. eqb step.number e.step) (begun_steps work its.one.turn) s.0 s.1 (eq-eqb s.0.number e.step (sym s.2)) in
      any_in (λ (one : StartedTurn). eqb one.turn.change e.change && list_any (λ step. eqb step.number e.step) (begun_steps work one.turn))
      (schedule work n) its.one its.there
      (ap (λ t. t && list_any (λ step. eqb step.number e.step) (begun_steps work its.one.turn)) (eq-eqb its.one.turn.change e.change (sym its.of.change)) ∙ step)

  pub all_begin : All (λ e. is_begun work (schedule work n) e.change e.step ≡ true) events
  all_begin =
      All-weaker (Contains events) (λ e. is_begun work (schedule work n) e.change e.step ≡ true) begins events (All-contains_itself events)

  -- the plan has the step
  pub kind_at : (e : Event) → Contains events e → (kind : StepKind) × (slice_get (kinds_of work.plan e.change) e.step ≡ Some kind)
  kind_at e there =
      let its = located e there in
      let c = its.one.turn.change in
      let s = its.of.step in
      let low = (numbered_in 0 (steps_of work c) s.0 (steps_of-numbered work c) (begun_of_change work its.one.turn s.0 s.1)).1 in
      let many = length-steps_of work c in
      let few = few_applied work.plan work.script c in
      let number = s.2 in
      let lt : e.step < length (kinds_of work.plan c) = omega arith in
      let kinds = kinds_of work.plan e.change in
      let within : e.step < length kinds = subst (λ d. e.step < length (kinds_of work.plan d)) (sym its.of.change) lt in
      (get_or kinds e.step Create, slice_get-get_or kinds e.step Create within)

  pub of_outcome : work.hooks ≡ [] → (e : Event) → Contains events e → IsOfOutcome work.script e
  of_outcome none e there =
      let its = located e there in
      all_at (IsOfOutcome work.script) (turn_events work its.one) e
      (steps_are work.script its.one.lane (begun_steps work its.one.turn) its.one.begin.second (begun_have_outcomes work none its.one)) its.among

  pub all_of_outcome : work.hooks ≡ [] → All (IsOfOutcome work.script) events
  all_of_outcome none = All-weaker (Contains events) (IsOfOutcome work.script) (of_outcome none) events (All-contains_itself events)

-- A step that has events has all its events, in one lane, from one start.
use Rattle.std.proofs.Common.{◌≡◌, ℕ, ◌+◌, true, ◌&&◌, List, [], ◌∷◌, ◌++◌, sym, ap, ◌∙◌, ⊎_elim, arith, eqb, eq-eqb}
use Rattle.std.specs.Prelude.{slice_get}
use Rattle.std.specs.List.{Contains, filter}
use Rattle.std.proofs.lemmas.Bool.{and_parts}
use Rattle.std.proofs.lemmas.List.{append-nil}
use Rattle.std.proofs.lemmas.List.Elements.{filter-append}
use Rattle.apply_model.specs.declared.script.wait.Wait.{Wait}
use Rattle.apply_events.specs.declared.event.Event.{Event}
use Rattle.apply_events.specs.declared.lanes.turn.StartedTurn.{StartedTurn}
use Rattle.apply_events.specs.ChangeEvents.{in_turn}
use Rattle.apply_events.specs.Interleaving.{IsInterleaving}
use Rattle.apply_events.specs.Step.{Step, Work, steps_of}
use Rattle.apply_events.specs.StepEvents.{step_events, step_time}
use Rattle.apply_events.specs.Waits.StartedTurns.{WereStarted}
use Rattle.apply_events.specs.Waits.TimeLine.{lane_turns}
use Rattle.apply_events.specs.Waits.Turn.{begun_steps}
use Rattle.apply_events.proofs.StepNumbers.{AreNumbered}
use Rattle.apply_events.proofs.Waits.Located.{IsOnly, answer, part_is}
use Rattle.apply_events.proofs.Waits.Members.{filter_all, filter_no, in_cases, not_in_none}
use Rattle.apply_events.proofs.Waits.Once.{one_event}
use Rattle.apply_events.proofs.Waits.TurnEvents.{of_step, of_turn, step_of_event}
use Rattle.apply_events.proofs.Waits.TurnSteps.{begun_numbered, begun_of_change, numbered_in, step_at_number, step_names_change}
use Rattle.laws_run.specs.WaitingSteps.{AreWhole, is_of_step}
use Rattle.laws_run.proofs.AfterWaits.{are_turns, eq_from}
use Rattle.laws_run.proofs.LeftOut.{has_is}

of_name : (name : Wait) (e : Event) → is_of_step name e ≡ true → (e.change ≡ name.change) × (e.step ≡ name.step)
of_name name e is =
    let both = and_parts (eqb e.change name.change) (eqb e.step name.step) is in
    (eq_from e.change name.change both.0, eq_from e.step name.step both.1)

pub name_of : (name : Wait) (e : Event) → e.change ≡ name.change → e.step ≡ name.step → is_of_step name e ≡ true
name_of name e change step = ap (λ t. t && eqb e.step name.step) (eq-eqb e.change name.change change) ∙ eq-eqb e.step name.step step

-- the events of one of the steps
step_part : (lane n : ℕ) (steps : List Step) (at : ℕ) (s : Step) (name : Wait) → AreNumbered n steps → Contains steps s → s.number ≡ name.step → s.change ≡ name.change
    → (begin : ℕ) × (filter (is_of_step name) (in_turn (step_events lane) step_time steps at) ≡ step_events lane s begin)
step_part lane n [] at s name numbered there number change = absurd (not_in_none s there)
step_part lane n (x ∷ steps) at s name numbered there number change =
    let p = is_of_step name in
    let rest = in_turn (step_events lane) step_time steps (at + step_time x) in ⊎_elim
    (λ (is : x ≡ s).
    let first = numbered.0 in
    let same = ap (λ (y : Step). y.number) is in
    let all : filter p (step_events lane x at) ≡ step_events lane x at = filter_all p (step_events lane x at) (λ e inside.
    let of = of_step lane x at e inside in
    name_of name e (of.change ∙ ap (λ (y : Step). y.change) is ∙ change) (of.step ∙ same ∙ number)) in
    let none : filter p rest ≡ [] = filter_no p rest (λ e inside yes.
    let answer = step_of_event lane steps (at + step_time x) e inside in
    let low = (numbered_in (n + 1) steps answer.0 numbered.1 answer.1).0 in
    let of = (of_name name e yes).1 in let its = answer.2 in absurd (omega arith)) in (
      at,
      filter-append p (step_events lane x at) rest ∙ ap (λ l. l ++ filter p rest) all ∙ ap (λ l. step_events lane x at ++ l) none
          ∙ append-nil (step_events lane x at) ∙ ap (λ y. step_events lane y at) is,
    ))
    (λ (later : Contains steps s).
    let inner = step_part lane (n + 1) steps (at + step_time x) s name numbered.1 later number change in
    let low = (numbered_in (n + 1) steps s numbered.1 later).0 in
    let first = numbered.0 in
    let none : filter p (step_events lane x at) ≡ [] = filter_no p (step_events lane x at) (λ e inside yes.
    let its = (of_step lane x at e inside).step in let of = (of_name name e yes).1 in absurd (omega arith)) in
    (inner.0, filter-append p (step_events lane x at) rest ∙ ap (λ l. l ++ filter p rest) none ∙ inner.1))
    (in_cases x steps s there)

module _ (w : Work) (n : ℕ) (taken : List StartedTurn) (events : List Event) (up : WereStarted w n taken) (line : IsInterleaving n (lane_turns w taken) events) where
  pub whole : AreWhole w events
  whole name some =
      let e = has_is w n taken events up line name some in
      let its = answer w n taken events line e.0 e.1 in
      let one = its.one in
      let s = its.of.step.0 in
      let number : s.number ≡ name.step = sym its.of.step.2 ∙ e.3 in
      let turns_ok = are_turns w n taken events up line in
      let only : IsOnly w taken one (is_of_step name) = λ other inside f among yes.
      (let of = of_name name f yes in one_event w taken other one f e.0 turns_ok inside its.there (of_turn w other f among) its.of (of.0 ∙ sym e.2) (of.1 ∙ sym e.3)) in
      let known = begun_of_change w one.turn s its.of.step.1 in
      let change : one.turn.change ≡ name.change = sym its.of.change ∙ e.2 in
      let part = step_part one.lane one.turn.first (begun_steps w one.turn) one.begin.second s name (begun_numbered w one.turn) its.of.step.1 number (step_names_change w one.turn.change s known ∙ change) in
      record {
        step = s;
        lane = one.lane;
        begin = part.0;
        is_step = ap (λ c. slice_get (steps_of w c) name.step) (sym change) ∙ ap (slice_get (steps_of w one.turn.change)) (sym number) ∙ step_at_number w one.turn.change s known;
        are_all = part_is w n taken events one (is_of_step name) line turns_ok up.in_lanes its.there only ∙ part.1;
      }

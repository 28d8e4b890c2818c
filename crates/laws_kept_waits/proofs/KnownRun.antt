-- The stream of a run keeps the waits of its graph, and `record` knows its steps.
use Rattle.std.proofs.Common.{◌≡◌, ◌∙◌, ◌<◌, ℕ, suc, Bool, true, false, List, [], length, Option, None, Some, refl, sym, ap, arith, subst, lt-ltb, ltb}
use Rattle.std.specs.Prelude.{is_some, option_map, slice_get}
use Rattle.std.specs.List.{Contains}
use Rattle.std.specs.Option.{option_and_then, option_map_or}
use Rattle.std.proofs.lemmas.List.Elements.{All-contains, All-contains_itself, All-weaker}
use Rattle.std.proofs.lemmas.Option.{slice_get_within}
use Rattle.apply_model.specs.declared.script.wait.Wait.{Wait}
use Rattle.apply_model.specs.Plan.ResourceChange.{ResourceChange}
use Rattle.apply_model.specs.Script.Outcome.{fails}
use Rattle.apply_model.specs.Script.OutcomeMap.{outcome_of}
use Rattle.apply_model.specs.Script.Waits.{waits_of}
use Rattle.apply_events.specs.declared.event.Event.{Event}
use Rattle.apply_events.specs.Step.{Work, kinds_of}
use Rattle.apply_events.specs.Waits.Schedule.{schedule}
use Rattle.apply_events.proofs.Waits.Members.{in_head}
use Rattle.stream_record.specs.EvenScript as even
use Rattle.stream_record_outcomes.specs.declared.recorded_step.RecordedStep.{RecordedStep}
use Rattle.stream_record_script.specs.Runs.{steps_of_plan}
use Rattle.stream_record_steps.specs.Begun.{Begun}
use Rattle.stream_record_steps.specs.Steps.{PlannedStep, planned_steps}
use Rattle.stream_record_waits.specs.declared.step_of_plan.RunFate.{RunFate}
use Rattle.stream_record_waits.specs.declared.step_of_plan.StepOfPlan.{StepOfPlan}
use Rattle.stream_record_waits.specs.declared.step_of_plan.StepRun.{StepRun}
use Rattle.stream_record_waits.specs.Graph.{AreWaitsOf, waits_at}
use Rattle.stream_record_waits.specs.Recorded.{AreDoneBefore}
use Rattle.stream_record_waits.specs.Steps.{done_line, done_line_of, has_begun, has_failed, is_done_before, is_failure, step_at}
use Rattle.stream_record_cli.specs.Graphs.{AreGraphWaits}
use Rattle.stream_record_cli.proofs.GraphWaits.{waits_are_of}
use Rattle.laws_lanes.specs.Alike.{is_begun}
use Rattle.laws_recorded.proofs.Planned.{wait_at}
use Rattle.laws_recorded.proofs.RunOrder.{as_many}
use Rattle.laws_recorded.proofs.Stated.{item_there}
use Rattle.laws_waits.specs.Again.{IsKnown}
use Rattle.laws_waits.specs.Kept.{AreKept}
use Rattle.laws_waits.specs.Places.{name_of, place_of}
use Rattle.laws_waits.specs.Scripts.{waits_named}
use Rattle.laws_waits.proofs.ChangeSteps.{named_at}
use Rattle.laws_waits.proofs.StepPlaces.{stands}
use Rattle.laws_kept_waits.specs.InLines.{AreAnsweredAlike, AreInLines, HasCompleted, IsRun, StatesWaits}
use Rattle.laws_kept_waits.proofs.Done.{WaitInTurn, named_is_waited, waited_ends_before, waited_is_done}
use Rattle.laws_kept_waits.proofs.OwnWaits.{never_itself}

-- ---- one step

-- a step that completed was done before each line after its end
done_before : (steps : List StepOfPlan) (place line : ℕ) (run : StepRun) → (step_at steps place).run ≡ Some run → (completed : HasCompleted run) → completed.end < line
    → is_done_before steps place line ≡ true
done_before steps place line run ran completed earlier =
    let done : done_line run ≡ Some completed.end = ap (λ (f : RunFate). done_line_of f run.line run.end) completed.fate ∙ completed.end_is in
    ap (λ (r : Option StepRun). option_map_or (λ (d : ℕ). ltb d line) (option_and_then done_line r) false) ran
    ∙ ap (λ (o : Option ℕ). option_map_or (λ (d : ℕ). ltb d line) o false) done
    ∙ lt-ltb completed.end line earlier

ran_there : (steps : List StepOfPlan) (place : ℕ) → has_begun steps place ≡ true → (run : StepRun) × ((step_at steps place).run ≡ Some run)
ran_there steps place begun = of (step_at steps place).run refl begun
  where
    of : (o : Option StepRun) → (step_at steps place).run ≡ o → is_some o ≡ true → (run : StepRun) × ((step_at steps place).run ≡ Some run)
    of None is some = absurd cc
    of (Some run) is some = (run, is)

-- ---- all steps

-- a step of the plan by its place
record IsAt (work : Work) (place : ℕ) : Type 0 where
  pub name : Wait
  pub at : slice_get (even.planned_steps work.plan.changes) place ≡ Some name
  pub place_is : place ≡ place_of work.plan.changes name.change name.step
  pub less : name.step < length (kinds_of work.plan name.change)

by_place : (work : Work) (place : ℕ) → place < length (planned_steps work.plan.changes) → IsAt work place
by_place work place less =
    let own = item_there (planned_steps work.plan.changes) place less in
    let at : slice_get (even.planned_steps work.plan.changes) place ≡ Some (name_of own.0) = wait_at work.plan.changes place ∙ ap (option_map name_of) own.1 in
    let there = stands work.plan.changes place (name_of own.0) at in
    let kinds = ap (λ (o : Option ResourceChange). length (option_map_or (λ (change : ResourceChange). change.steps) o [])) there.change_at in
    let inside = slice_get_within there.change.steps own.0.number there.kind there.kind_at in
    record { name = name_of own.0; at = at; place_is = there.place_is; less = omega (arith, kinds, inside) }

module _ (work : Work) (n : ℕ) (events : List Event) (begun : Begun) (recorded : List (Option RecordedStep)) (own : IsRun work n events)
    (turns : WaitInTurn work events) (lines : AreInLines work n events begun recorded) where
  abbrev steps : List StepOfPlan
  steps = steps_of_plan begun recorded

  many : length (steps_of_plan begun recorded) ≡ length (planned_steps work.plan.changes)
  many = as_many begun recorded begun.planned 0 ∙ ap (λ (ps : List PlannedStep). length ps) lines.planned

  in_order : (c k : ℕ) → suc k < length (kinds_of work.plan c) → has_begun (steps_of_plan begun recorded) (place_of work.plan.changes c (suc k)) ≡ true
      → has_begun (steps_of_plan begun recorded) (place_of work.plan.changes c k) ≡ true
  in_order c k less is =
      let begins = sym (lines.begins c (suc k) less) ∙ is in
      let before : Wait = record { change = c; step = k } in
      let done = waited_is_done work n events own turns c (suc k) before begins (in_head before (outcome_of work.script c (suc k)).after) in
      lines.begins c k (omega (arith, less)) ∙ done.begins

  failed : (c k : ℕ) → k < length (kinds_of work.plan c) → has_failed (step_at (steps_of_plan begun recorded) (place_of work.plan.changes c k)) ≡ true
      → fails (outcome_of work.script c k) ≡ true
  failed c k less is = of (step_at steps (place_of work.plan.changes c k)).run (fails (outcome_of work.script c k)) refl refl is
    where
      of : (run : Option StepRun) (b : Bool) → (step_at (steps_of_plan begun recorded) (place_of work.plan.changes c k)).run ≡ run → fails (outcome_of work.script c k) ≡ b
          → option_map_or (λ (r : StepRun). is_failure r.fate) run false ≡ true → b ≡ true
      of run true ran known fails = refl
      of None false ran known fails = absurd cc
      of (Some run) false ran known fails =
          let completed = lines.completed c k run (less, ran) known in
          let both : false ≡ true = sym (ap is_failure completed.fate) ∙ fails in cc

  module _ (graph : List (List ℕ)) (waits : AreWaitsOf (length (planned_steps work.plan.changes)) graph) (stated : StatesWaits work n graph) where
    -- a step that began waits for what its script names
    waited : (place : ℕ) (one two : Wait) (other : ℕ) → slice_get (even.planned_steps work.plan.changes) other ≡ Some two
        → place ≡ place_of work.plan.changes one.change one.step → one.step < length (kinds_of work.plan one.change)
        → is_begun work (schedule work n) one.change one.step ≡ true → Contains (waits_at graph place) other
        → Contains (waits_of work.script one.change one.step) two
    waited place one two other at place_is less begins has =
        let named : Contains (waits_named work.plan graph place) two = named_at (even.planned_steps work.plan.changes) (waits_at graph place) other two at has in
        let here = subst (λ (p : ℕ). Contains (waits_named work.plan graph p) two) place_is named in
        named_is_waited work.script one.change one.step two ((stated one.change one.step less begins).into two here)

    wait_done : (place : ℕ) → place < length (planned_steps work.plan.changes) → (run : StepRun) → (step_at (steps_of_plan begun recorded) place).run ≡ Some run
        → (other : ℕ) → Contains (waits_at graph place) other → is_done_before (steps_of_plan begun recorded) other run.line ≡ true
    wait_done place less run ran other has =
        let one = by_place work place less in
        let two = by_place work other (All-contains (λ (p : ℕ). p < length (planned_steps work.plan.changes)) (waits_at graph place) other (waits.known place less) has) in
        let ran_here = ap (λ (p : ℕ). (step_at steps p).run) (sym one.place_is) ∙ ran in
        let begins : is_begun work (schedule work n) one.name.change one.name.step ≡ true =
        sym (lines.begins one.name.change one.name.step one.less) ∙ ap (λ (r : Option StepRun). is_some r) ran_here in
        let wait = waited place one.name two.name other two.at one.place_is one.less begins has in
        let done = waited_is_done work n events own turns one.name.change one.name.step two.name begins wait in
        let first = ran_there steps (place_of work.plan.changes two.name.change two.name.step) (lines.begins two.name.change two.name.step two.less ∙ done.begins) in
        let completed = lines.completed two.name.change two.name.step first.0 (two.less, first.1) done.has_not_failed in
        let earlier = lines.in_turn two.name one.name first.0 run completed.end (two.less, first.1) (one.less, ran_here) completed.end_is
        (waited_ends_before work n events own turns one.name two.name wait) in
        subst (λ (p : ℕ). is_done_before steps p run.line ≡ true) (sym two.place_is)
        (done_before steps (place_of work.plan.changes two.name.change two.name.step) run.line first.0 first.1 completed earlier)

    all_done : AreDoneBefore (steps_of_plan begun recorded) graph
    all_done place run within ran =
        let less : place < length (planned_steps work.plan.changes) = let m = many in omega (arith, within, m) in
        All-weaker (Contains (waits_at graph place)) (λ (other : ℕ). is_done_before steps other run.line ≡ true) (wait_done place less run ran) (waits_at graph place)
        (All-contains_itself (waits_at graph place))

  module _ (bytes : List ℕ) (graph : List (List ℕ)) (are : AreGraphWaits work.plan.changes bytes graph) (stated : StatesWaits work n graph) where
    pub run_keeps : AreKept (steps_of_plan begun recorded) graph
    run_keeps =
        let waits = waits_are_of work.plan.changes bytes graph are in record {
          sound = record {
            of_steps = subst (λ (count : ℕ). AreWaitsOf count graph) (sym many) waits;
            done = all_done graph waits stated;
          };
          others = never_itself work.plan.changes bytes graph are;
        }

    pub run_is_known : AreAnsweredAlike work recorded → IsKnown work n begun recorded graph
    run_is_known alike = record {
      hooks = own.hooks;
      some = own.some;
      steps = record { few = own.few; planned = lines.planned; each = lines.each; in_order = in_order };
      begins = lines.begins;
      fail = failed;
      alike = alike;
      kept = run_keeps;
      stated = stated;
    }

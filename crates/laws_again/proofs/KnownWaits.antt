-- Without a graph, `record` knows the steps of a run in which no step waits.
use Rattle.std.proofs.Common.{◌≡◌, ◌∙◌, ◌<◌, ◌≤◌, ℕ, true, false, List, [], length, Option, None, Some, refl, sym, ap, arith, subst, ⊎_elim}
use Rattle.std.specs.Prelude.{is_some}
use Rattle.std.specs.List.{Contains}
use Rattle.std.proofs.lemmas.Bool.{cases_Bool, cases_lt}
use Rattle.std.proofs.lemmas.List.{get_or_past}
use Rattle.apply_events.specs.Step.{Work}
use Rattle.apply_model.specs.declared.script.wait.Wait.{Wait}
use Rattle.stream_record.specs.EvenScript as even
use Rattle.stream_record.specs.EvenScript.{steps_at}
use Rattle.stream_record_outcomes.specs.declared.recorded_step.RecordedStep.{RecordedStep}
use Rattle.stream_record_script.specs.Runs.{steps_of_plan}
use Rattle.stream_record_steps.specs.Begun.{Begun}
use Rattle.stream_record_waits.specs.declared.choices.Choices.{Choices}
use Rattle.stream_record_waits.specs.declared.step_of_plan.StepOfPlan.{StepOfPlan}
use Rattle.stream_record_waits.specs.declared.step_of_plan.StepRun.{StepRun}
use Rattle.stream_record_waits.specs.Graph.{waits_at}
use Rattle.stream_record_waits.specs.Recorded.{AreRecordedWaits, AreSoundWaits}
use Rattle.stream_record_waits.specs.Steps.{has_begun, step_at}
use Rattle.laws_queue.specs.Dealing.{NamesNone}
use Rattle.laws_recorded.proofs.NotBegun.{guessed_began}
use Rattle.laws_steps_again.specs.Steps.{AreStepsAgain}
use Rattle.laws_waits.specs.Again.{HaveSameItems, IsKnown}
use Rattle.laws_waits.specs.Kept.{AreKept}
use Rattle.laws_waits.specs.Places.{place_of}
use Rattle.laws_waits.specs.Scripts.{waits_named}
use Rattle.laws_waits.proofs.Increasing.{nothing_in}
use Rattle.laws_again.specs.WithoutWaits.{AreWithoutWaits}

not_run : (run : Option StepRun) → is_some run ≡ false → run ≡ None
not_run None is = refl
not_run (Some run) is = absurd cc

module _ (steps : List StepOfPlan) (choices : Choices) (after early : List (List ℕ)) (are : AreRecordedWaits steps None choices after early)
    (sound : AreSoundWaits steps after) (none : AreWithoutWaits steps after) where
  -- a step that did not begin waits for one that did
  not_itself : (step : ℕ) → has_begun steps step ≡ false → step < length steps → Contains (waits_at after step) step → ⊥
  not_itself step never within has =
      let not = not_run (step_at steps step).run never in
      let one = guessed_began steps choices after early are step step within not has in
      let both : None ≡ Some one.0 = sym not ∙ one.1 in cc

  pub waits_are_kept : AreKept steps after
  waits_are_kept = record {
    sound = sound;
    others = λ step has. ⊎_elim
        (λ (begins : has_begun steps step ≡ true). nothing_in step (subst (λ (l : List ℕ). Contains l step) (none step begins) has))
        (λ (never : has_begun steps step ≡ false). ⊎_elim
        (λ (within : step < length steps). not_itself step never within has)
        (λ (past : length steps ≤ step).
        let each = sound.of_steps.each in
        nothing_in step (subst (λ (l : List ℕ). Contains l step) (get_or_past after step [] (omega (arith, each, past))) has))
        (cases_lt step (length steps)))
        (cases_Bool (has_begun steps step));
  }

same_none : (ones others : List Wait) → ones ≡ [] → others ≡ [] → HaveSameItems ones others
same_none ones others one other = record {
  into = λ name has. absurd (nothing_in name (subst (λ (l : List Wait). Contains l name) one has));
  back = λ name has. absurd (nothing_in name (subst (λ (l : List Wait). Contains l name) other has));
}

pub known_without_waits : (work : Work) (n : ℕ) (begun : Begun) (recorded : List (Option RecordedStep)) (id : (c k : ℕ) → Option (List ℕ)) (choices : Choices) (after early : List (List ℕ))
    → work.hooks ≡ [] → 1 ≤ n → AreStepsAgain work n begun recorded id → NamesNone work
    → AreRecordedWaits (steps_of_plan begun recorded) None choices after early → AreSoundWaits (steps_of_plan begun recorded) after
    → AreWithoutWaits (steps_of_plan begun recorded) after → IsKnown work n begun recorded after
known_without_waits work n begun recorded id choices after early hooks some again unnamed are sound none = record {
  hooks = hooks;
  some = some;
  steps = again.steps;
  begins = again.begins;
  fail = again.fail;
  alike = again.alike;
  kept = waits_are_kept (steps_of_plan begun recorded) choices after early are sound none;
  stated = λ c k less begins.
      same_none (waits_named work.plan after (place_of work.plan.changes c k)) _
      (ap (steps_at (even.planned_steps work.plan.changes)) (none (place_of work.plan.changes c k) (again.begins c k less ∙ begins)))
      (unnamed c k);
}

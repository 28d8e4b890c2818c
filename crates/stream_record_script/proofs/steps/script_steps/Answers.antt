use Rattle.std.proofs.Common.{◌∙◌, ◌≤◌, ◌++◌, List, Option, append-nil, ap, drop, length, map, subst, sym}
use Rattle.std.proofs.lemmas.List.{drop_all}
use Rattle.apply_model.specs.declared.script.wait.Wait.{Wait}
use Rattle.apply_model.specs.Script.Limits.{max_waits}
use Rattle.stream_record.specs.EvenScript.{steps_at}
use Rattle.stream_record.proofs.EvenSteps.{few_after}
use Rattle.stream_record_outcomes.specs.declared.recorded_step.RecordedStep.{RecordedStep}
use Rattle.stream_record_waits.specs.declared.step_state.StepState.{StepState}
use Rattle.stream_record_script.specs.Steps.{script_steps}
use Rattle.stream_record_script.proofs.ChangeSteps.{no_states, none_left}
use Rattle.stream_record_script.proofs.steps.script_steps.Goals as goal
use Rattle.stream_record_script.proofs.steps.script_steps.Goals.{else-loop-place-test, then-loop-place-test+in_default}

pub script_step-requires : goal.script_step-requires
script_step-requires c =
    let planned = c.args.planned.now in
    let waits = map (λ numbers. numbers.items) c.args.waits.now in
    subst (λ (after : List Wait). length after ≤ max_waits) (sym (c.in_ok-after.ensures ∙ ap (steps_at planned) c.waits_at.ensures))
    (few_after planned waits c.requires c.loop-place.place)

pub returns : goal.returns
returns c =
    let planned = c.args.planned.now in
    let waits = map (λ numbers. numbers.items) c.args.waits.now in
    let place = c.loop-place.place in
    let states = c.args.states.now in
    let left = c.loop-place.left.items in
    let steps = c.loop-place.steps.items in
    let so_far =
    c.loop-place.invariant ∙ ap (λ (recorded : List (Option RecordedStep)). script_steps planned waits 0 recorded states) c.from_vec-left.ensures.items in
    elim c.loop-place-test.branch [
      | else-loop-place-test w ↦
          sym (append-nil steps)
          ∙ ap (λ rest. steps ++ rest)
          (sym (ap (λ (more : List StepState). script_steps planned waits place left more) (drop_all place states w.loop-place-test.false) ∙ no_states planned waits place left))
          ∙ so_far
      | then-loop-place-test+in_default w ↦
          sym (append-nil steps)
          ∙ ap (λ rest. steps ++ rest)
          (sym (ap (λ (more : List (Option RecordedStep)). script_steps planned waits place more (drop place states))
          (none_left left w.pop_front.new.self.items w.in_default.ensures.items w.in_default.ensures.rest)))
          ∙ so_far
    ]

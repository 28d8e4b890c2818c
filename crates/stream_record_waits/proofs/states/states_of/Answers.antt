use Rattle.std.proofs.Common.{◌∙◌, List, length, ap, refl}
use Rattle.stream_record_waits.specs.declared.step_state.StepState.{StepState}
use Rattle.stream_record_waits.specs.States.{has_ended}
use Rattle.stream_record_waits.specs.Steps.{lists_in}
use Rattle.stream_record_waits.proofs.Rows.{row_is, row_known}
use Rattle.stream_record_waits.proofs.StepStates.{more_states, size_of_states}
use Rattle.stream_record_waits.proofs.states.states_of.Goals as goal

pub has_ended-has_ended-requires-clause-states : goal.has_ended-has_ended-requires-clause-states
has_ended-has_ended-requires-clause-states c =
    ap length (c.as_slice.ensures.value ∙ c.loop-step.invariant) ∙ size_of_states c.args.steps.now (lists_in c.args.after.now) c.loop-step.step

pub state_of-state-requires-clause-after : goal.state_of-state-requires-clause-after
state_of-state-requires-clause-after c =
    row_known c.args.after.now (length c.args.steps.now) c.loop-step.step c.index-after-step.result c.requires c.loop-step-test.true c.index-after-step.is
    c.as_slice-in-loop-step.result.now (length c.args.steps.now) c.as_slice-in-loop-step.ensures.value refl

pub loop-step-preserved : goal.loop-step-preserved
loop-step-preserved c =
    let row = row_is c.args.after.now (length c.args.steps.now) c.loop-step.step c.index-after-step.result c.requires c.loop-step-test.true c.index-after-step.is
    c.as_slice-in-loop-step.result.now c.as_slice-in-loop-step.ensures.value in
    more_states c.args.steps.now (lists_in c.args.after.now) c.loop-step.step c.loop-step.states.items c.push.new.self.items c.as_slice-in-loop-step.result.now
    c.has_ended-has_ended.result c.state_of-state.result c.loop-step.invariant row
    (c.has_ended-has_ended.ensures ∙ ap (λ (states : List StepState). has_ended c.args.steps.now states c.loop-step.step) c.as_slice.ensures.value)
    c.state_of-state.ensures c.in_ok-push.ensures.items

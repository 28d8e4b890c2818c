use Rattle.std.proofs.Common.{◌≡◌, ◌&&◌, length, sym, ap, ◌∙◌, eqb, eq-eqb, ne_eqb}
use Rattle.apply_model.specs.Script.OutcomeMap.{outcome_of}
use Rattle.apply_model.specs.Script.Waits.{names_a_wait}
use Rattle.apply_events.specs.Step.{Work}
use Rattle.apply_events.proofs.Waits.AllTurns.{turns_more}
use Rattle.apply_events.proofs.lanes.turn.Turn.all.Goals as goal
use Rattle.apply_events.proofs.lanes.turn.Turn.all.Goals.{then-count-eq2, else-count-eq2}

pub loop-change-preserved : goal.loop-change-preserved
loop-change-preserved c = λ hooks.
    let w : Work = record { plan = c.args.plan.now; script = c.args.script.now; hooks = hooks } in
    let count = length c.applied_steps.result.now in
    let names = names_a_wait (outcome_of c.args.script.now c.loop-change.change 1) in
    let test : c.if-count-eq2.split ≡ (eqb count 2 && names) = elim c.if-count-eq2.branch [
      | then-count-eq2 v ↦ v.split-is ∙ v.second_names_some-split.ensures ∙ sym (ap (λ t. t && names) (eq-eqb count 2 v.if-count-eq2.true))
      | else-count-eq2 v ↦ v.split-is ∙ ne_eqb count 2 v.if-count-eq2.false ∙ sym (ap (λ t. t && names) (ne_eqb count 2 v.if-count-eq2.false))
    ] in
    turns_more w c.loop-change.change count c.if-count-eq2.split c.loop-change.all.items c.push_turns.new.all.items
    (ap length c.applied_steps.ensures.steps) test (c.loop-change.invariant hooks) c.in_ok-push_turns.ensures
